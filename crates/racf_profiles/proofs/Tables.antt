-- The class table, class by class.
use Rattle.std.proofs.Common.{◌≡◌, true, Some, refl}
use Rattle.racf_profiles.specs.ClassTable.{class_name, facts_of_class, facts_of, is_consistent}
use Rattle.racf_profiles.specs.declared.fixed_classes.FixedClass.{FixedClass}
use Rattle.racf_profiles.specs.declared.fixed_classes.FixedClass.TheVariants.{Dataset, Facility, Terminal, Console, Jesinput, Appcport, Appl, Opercmds, Surrogat, Tapevol, Dasdvol, Secdata, Seclabel, Global, Cdt}

pub facts_of-each : (class : FixedClass) → facts_of (class_name class) ≡ Some (facts_of_class class)
facts_of-each Dataset = refl
facts_of-each Facility = refl
facts_of-each Terminal = refl
facts_of-each Console = refl
facts_of-each Jesinput = refl
facts_of-each Appcport = refl
facts_of-each Appl = refl
facts_of-each Opercmds = refl
facts_of-each Surrogat = refl
facts_of-each Tapevol = refl
facts_of-each Dasdvol = refl
facts_of-each Secdata = refl
facts_of-each Seclabel = refl
facts_of-each Global = refl
facts_of-each Cdt = refl

pub is_consistent-each : (class : FixedClass) → is_consistent class ≡ true
is_consistent-each Dataset = refl
is_consistent-each Facility = refl
is_consistent-each Terminal = refl
is_consistent-each Console = refl
is_consistent-each Jesinput = refl
is_consistent-each Appcport = refl
is_consistent-each Appl = refl
is_consistent-each Opercmds = refl
is_consistent-each Surrogat = refl
is_consistent-each Tapevol = refl
is_consistent-each Dasdvol = refl
is_consistent-each Secdata = refl
is_consistent-each Seclabel = refl
is_consistent-each Global = refl
is_consistent-each Cdt = refl

-- The first qualifier of a new data set profile's name has an ID's spelling.
use Rattle.std.proofs.Common.{◌≡◌, Bool, true, false, cond, Option, Some, None, refl, subst}
use Rattle.std.specs.Prelude.{is_ok}
use Rattle.std.specs.Result.{result_ok}
use Rattle.access_levels.specs.Spelling.{id_of}
use Rattle.generic_names.specs.Faults.{pattern_of}
use Rattle.generic_names.specs.declared.kind.NameKind.TheVariants.{DataSet}
use Rattle.generic_names.specs.Spelled.{Spelled, first_qualifier}
use Rattle.command_fields.specs.declared.profile_fields.AddSd.{AddSd}
use Rattle.command_fields.specs.declared.fields.CommandFields.{CommandFields}
use Rattle.command_fields.specs.declared.fields.CommandFields.TheVariants as fields
use Rattle.command_fields.specs.LawfulFields.{IsDataSetProfile, AreLawfulFields}

where-true : (b : Bool) (o : Option Spelled) (name : Spelled) → cond b o None ≡ Some name → b ≡ true
where-true true o name h = refl
where-true false o name h = cc

first_qualifier-id : (name : Spelled) → IsDataSetProfile name → is_ok (id_of (first_qualifier name.text)) ≡ true
first_qualifier-id name h = where-true (is_ok (id_of (first_qualifier name.text))) (result_ok (pattern_of DataSet name.text)) name h

pub add_sd-spelled : (command : CommandFields) (c : AddSd) → command ≡ fields.AddSd c → AreLawfulFields command → is_ok (id_of (first_qualifier c.profile.text)) ≡ true
add_sd-spelled command c is own = let here : AreLawfulFields (fields.AddSd c) = subst AreLawfulFields is own in first_qualifier-id c.profile here.profile

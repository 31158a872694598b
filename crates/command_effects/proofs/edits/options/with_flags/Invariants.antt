use Rattle.std.proofs.Common.{◌≡◌, ◌++◌, map, drop}
use Rattle.std.specs.List.{filter}
use Rattle.racf_profiles.specs.declared.class_rows.ClassRow.{ClassRow}
use Rattle.class_profiles.specs.Summed.{rows_in}
use Rattle.command_rules.specs.OptionEffects.{set_class}
use Rattle.command_rules.specs.Edits.{sets_flags, put_flags}
use Rattle.command_effects.proofs.edits.options.with_flags.Given as goal

-- the edits so far, and those of the classes that are left
abbrev pub invariant-loop-class : goal.invariant-loop-class
invariant-loop-class l =
    l.edits.items ++ map (λ (class : ClassRow). put_flags (set_class l.command class)) (filter (sets_flags l.command) (rows_in (drop l.class-index l.classes)))
    ≡ l.fn.edits.items ++ map (λ (class : ClassRow). put_flags (set_class l.command class)) (filter (sets_flags l.command) (rows_in l.classes))

use Rattle.std.proofs.Common.{◌≡◌, ◌++◌, drop, map}
use Rattle.command_values.specs.Values.{more_text}
use Rattle.command_fields.specs.ProfileNames.{profile_text}
use Rattle.command_values.proofs.value_printing.push_member_names.Given as goal

abbrev pub invariant-loop-name : goal.invariant-loop-name
invariant-loop-name l = l.out.items ++ more_text (map profile_text (drop l.name-index l.rest)) ≡ l.initial.out.items ++ more_text (map profile_text l.rest)

use Rattle.std.proofs.Common.{◌≡◌, take}
use Rattle.racf_profiles.specs.Edits.{without_class}
use Rattle.raclist_image.proofs.classes.others.Given as goal

-- those of the classes so far that stay
abbrev pub invariant-loop-entry : goal.invariant-loop-entry
invariant-loop-entry l = l.classes.items ≡ without_class l.class (take l.entry-index l.entries)

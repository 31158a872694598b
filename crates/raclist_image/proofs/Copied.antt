-- Behind edits each RACLISTed class has its listed copy.
use Rattle.std.proofs.Common.{List, [], ◌∷◌}
use Rattle.racf_profiles.specs.declared.edits.Edit.{Edit}
use Rattle.racf_profiles.specs.State.{State, HaveCopies, edited_state, changed_state}

pub changed-copied : ((edit : Edit) (state : State) → HaveCopies state → HaveCopies (edited_state edit state)) → (edits : List Edit) (state : State) → HaveCopies state → HaveCopies (changed_state edits state)
changed-copied each [] state have = have
changed-copied each (edit ∷ edits) state have = changed-copied each edits (edited_state edit state) (each edit state have)

use Rattle.std.proofs.Common.{◌≡◌, ◌≤◌, drop, take}
use Rattle.racf_profiles.specs.State.{changed_state}
use Rattle.racf_profiles.specs.Lawful.{LeaveLawfulClasses}
use Rattle.raclist_image.specs.PlacedNames.{most_placed_by}
use Rattle.raclist_image.proofs.state.ImageState.make_all.Given as goal

-- the edits that are left make of the state what all make of the first one
abbrev pub invariant-loop-edit : goal.invariant-loop-edit
invariant-loop-edit l = record {
  state : changed_state (drop l.edit-index l.edits) l.self ≡ changed_state l.edits l.fn.self;
  leave : LeaveLawfulClasses (drop l.edit-index l.edits) l.self.rows;
  placed : l.placed ≤ most_placed_by (take l.edit-index l.edits);
}

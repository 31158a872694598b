use Rattle.std.proofs.Common.{◌≡◌, ◌-◌, [], map}
use Rattle.racf_profiles.specs.declared.groups.Group.{Group}
use Rattle.database_image.specs.Forms.{items_from}
use Rattle.database_image.specs.Description.{group}
use Rattle.database_image.proofs.users.groups_from.Given as goal

abbrev pub invariant-loop : goal.invariant-loop
invariant-loop l = record {
  noted : l.names ≡ map (λ (group : Group). group.id) l.items.items;
  read : items_from group (l.count - l.counter) l.items.items l.left ≡ items_from group l.count [] l.fn.left;
}

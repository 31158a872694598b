use Rattle.std.proofs.Common.{◌≡◌, ◌-◌, ◌≤◌, [], map}
use Rattle.racf_profiles.specs.declared.users.User.{User}
use Rattle.racf_profiles.specs.Names.{connections}
use Rattle.racf_profiles.specs.Limits.{most_connections_in_all}
use Rattle.database_image.specs.Forms.{items_from}
use Rattle.database_image.specs.Description.{user}
use Rattle.database_image.proofs.users.users_from.Given as goal

abbrev pub invariant-loop : goal.invariant-loop
invariant-loop l = record {
  noted : l.names ≡ map (λ (user : User). user.id) l.items.items;
  counted : l.connections ≡ connections l.items.items;
  few : l.connections ≤ most_connections_in_all;
  read : items_from (user l.categories) (l.count - l.counter) l.items.items l.left ≡ items_from (user l.categories) l.count [] l.fn.left;
}

use Rattle.std.proofs.Common.{◌≡◌, ◌-◌, [], map}
use Rattle.database_image.specs.Forms.{items_from}
use Rattle.database_image.specs.Description.{member}
use Rattle.racf_profiles.specs.LawfulProfiles.{member_name}
use Rattle.database_image.proofs.members.members_from.Given as goal

abbrev pub invariant-loop : goal.invariant-loop
invariant-loop l = record {
  noted : l.names ≡ map member_name l.items.items;
  read : items_from (member l.categories l.class l.profile) (l.count - l.counter) l.items.items l.left ≡ items_from (member l.categories l.class l.profile) l.count [] l.fn.left;
}

use Rattle.std.proofs.Common.{◌∙◌, ap, find}
use Rattle.racf_profiles.specs.declared.users.User.{User}
use Rattle.racf_profiles.specs.Lookup.{is_user}
use Rattle.racf_profiles.proofs.Named.{lookup-named}
use Rattle.row_tables.proofs.user_table.UserTable.get.Goals as goal

-- the map finds what the list of its values has
pub returns : goal.returns
returns c = c.get.ensures.value ∙ lookup-named (λ (user : User). user.id) c.args.id c.self.inside.users.entries c.self.invariant.named ∙ ap (λ v. find (is_user c.args.id) v.users) c.self.view_is

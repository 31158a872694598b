use Rattle.std.proofs.Common.{◌≡◌, ◌++◌, map}
use Rattle.std.specs.List.{filter}
use Rattle.std.specs.Vec.Iter.{into_iter_items}
use Rattle.racf_profiles.specs.declared.users.User.{User as UserRow}
use Rattle.racf_profiles.specs.declared.edits.Edit.TheVariants.{PutUser}
use Rattle.command_rules.specs.ProfileEffects.{has_clauth, without_clauth}
use Rattle.command_effects.proofs.edits.classes.put_each_without_clauth.Given as goal

-- the edits so far, and those of the users who are left
abbrev pub invariant-loop-user : goal.invariant-loop-user
invariant-loop-user l =
    l.edits.items ++ map (λ (user : UserRow). PutUser (without_clauth l.class user)) (filter (has_clauth l.class) (into_iter_items l.user-iterator))
    ≡ map (λ (user : UserRow). PutUser (without_clauth l.class user)) (filter (has_clauth l.class) l.fn.users)

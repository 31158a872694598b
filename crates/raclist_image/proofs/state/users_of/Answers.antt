use Rattle.std.proofs.Common.{◌∙◌, List, map, sym, subst, arith}
use Rattle.std.specs.List.{IsDistinct}
use Rattle.std.specs.Str.{bytes_eq}
use Rattle.std.proofs.lemmas.List.{take_all}
use Rattle.racf_profiles.specs.declared.users.User.{User}
use Rattle.raclist_image.proofs.state.users_of.Goals as goal

pub of-requires : goal.of-requires
of-requires c =
    subst (λ (rows : List User). IsDistinct bytes_eq (map (λ (row : User). row.id) rows)) (sym (c.loop-user.invariant ∙ take_all c.loop-user.user-index c.args.users.now (omega arith))) c.requires.distinct

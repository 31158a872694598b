use Rattle.std.proofs.Common.{◌∙◌, List, map, sym, subst, arith}
use Rattle.std.specs.List.{IsDistinct}
use Rattle.std.specs.Str.{bytes_eq}
use Rattle.std.proofs.lemmas.List.{take_all}
use Rattle.racf_profiles.specs.declared.groups.Group.{Group}
use Rattle.raclist_image.proofs.state.groups_of.Goals as goal

pub of-requires : goal.of-requires
of-requires c =
    subst (λ (rows : List Group). IsDistinct bytes_eq (map (λ (row : Group). row.id) rows)) (sym (c.loop-group.invariant ∙ take_all c.loop-group.group-index c.args.groups.now (omega arith))) c.requires.distinct

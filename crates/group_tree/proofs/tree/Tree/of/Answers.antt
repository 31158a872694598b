use Rattle.std.proofs.Common.{◌≡◌, ◌∙◌, ◌++◌, ◌∷◌, [], List, take, map, None, ap, sym, subst, bytes_eq, arith}
use Rattle.std.specs.Map.{lookup, keys_of, values_of}
use Rattle.std.proofs.lemmas.List.{map_more, take_all}
use Rattle.racf_profiles.specs.declared.groups.Group.{Group}
use Rattle.racf_profiles.specs.Tree.{IsTree}
use Rattle.group_tree.proofs.Listed.{entry_of, values-listed, keys-listed, next_absent}
use Rattle.group_tree.proofs.tree.Tree.of.Goals as goal

-- the next name is new
pub put_last-requires : goal.put_last-requires
put_last-requires c =
    let gs = c.args.groups.now in
    let i = c.loop-group.group-index in
    let g = c.group-item.result in
    let before : lookup (bytes_eq g.id) (map entry_of (take i gs)) ≡ None =
    subst (λ (h : Group). lookup (bytes_eq h.id) (map entry_of (take i gs)) ≡ None) (sym c.group-item.is) (next_absent gs i g c.requires.distinct (omega arith)) in
    ap (lookup (bytes_eq g.id)) c.loop-group.invariant ∙ before

-- so its group goes last
pub loop-group-preserved : goal.loop-group-preserved
loop-group-preserved c =
    let gs = c.args.groups.now in
    let i = c.loop-group.group-index in
    let g = c.group-item.result in
    c.in_ok-put_last.ensures.last
    ∙ ap (λ es. es ++ (g.id, g) ∷ []) c.loop-group.invariant
    ∙ ap (λ (h : Group). map entry_of (take i gs) ++ entry_of h ∷ []) c.group-item.is
    ∙ sym (map_more entry_of gs i g (omega arith))

pub invariant_of-result : goal.invariant_of-result
invariant_of-result c =
    let gs = c.args.groups.now in
    let entries = c.loop-group.kept.entries in
    let whole : entries ≡ map entry_of gs = c.loop-group.invariant ∙ ap (map entry_of) (take_all c.loop-group.group-index gs (omega arith)) in
    let shown : values_of entries ≡ gs = ap values_of whole ∙ values-listed gs in
    record {
      lawful = subst IsTree (sym shown) c.requires;
      named = ap keys_of whole ∙ keys-listed gs ∙ ap (map (λ (g : Group). g.id)) (sym shown);
      room = omega arith;
    }

pub returns-clause-made : goal.returns-clause-made
returns-clause-made c =
    let gs = c.args.groups.now in
    let entries = c.loop-group.kept.entries in
    let whole : entries ≡ map entry_of gs = c.loop-group.invariant ∙ ap (map entry_of) (take_all c.loop-group.group-index gs (omega arith)) in
    let shown : values_of entries ≡ gs = ap values_of whole ∙ values-listed gs in
    ap (λ (xs : List Group). record { groups = xs; spare = 0 }) shown

use Rattle.std.proofs.Common.{◌≡◌, ◌∙◌, None, Some, ap, sym, subst, arith}
use Rattle.indexmap.specs.IndexMap.{values}
use Rattle.access_levels.proofs.Options.{none_from_is_some}
use Rattle.racf_profiles.specs.declared.groups.Group.{Group}
use Rattle.group_tree.specs.Groups.{with_group}
use Rattle.racf_profiles.specs.Lookup.{find_group}
use Rattle.racf_profiles.specs.Tree.{IsTree}
use Rattle.group_tree.specs.Answers.{CanAdd}
use Rattle.group_tree.proofs.Edits.{tree-with_group, one_there}
use Rattle.group_tree.proofs.Stored.{looked, pushed}
use Rattle.group_tree.proofs.tree.Tree.add.Goals as goal

pub put_last-requires : goal.put_last-requires
put_last-requires c =
    looked c.args.self.now.groups c.self.inside.groups.entries c.args.group c.self.invariant.named (ap (λ v. v.groups) c.self.view_is)
    ∙ none_from_is_some _ (sym c.contains.ensures ∙ c.if-contains.false)

pub invariant_of-self-2 : goal.invariant_of-self-2
invariant_of-self-2 c =
    let old = c.self.inside.groups in
    let free : find_group c.args.self.now.groups c.args.group ≡ None = none_from_is_some _ (sym c.contains.ensures ∙ c.if-contains.false) in
    let row : Group = record { id = c.args.group; superior = Some c.args.superior; owner = c.args.owner } in
    let new = pushed old.entries c.put_last.new.groups.entries row c.self.invariant.named c.in_ok-put_last.ensures.last in
    let can : CanAdd c.args.self.now.groups c.args.group c.args.superior = record {
      superior_there = one_there c.args.self.now.groups c.args.superior c.in_ok-check_there.ensures.there;
      name_free = free;
      room = omega (arith, c.len.ensures.count, c.len.ensures.lawful.most, c.if-len-eq-MOST_GROUPS.false);
    } in
    record {
      lawful = subst IsTree (sym new.0) (tree-with_group (values old) c.self.invariant.lawful c.args.group c.args.superior c.args.owner (subst (λ v. CanAdd v.groups c.args.group c.args.superior) (sym c.self.view_is) can));
      named = new.1;
      room = omega (arith, c.self.invariant.room, c.put_last.ensures.spare, c.saturating_sub-self-inside.ensures);
    }

pub returns-clause-groups : goal.returns-clause-groups
returns-clause-groups c =
    let old = c.self.inside.groups in
    let row : Group = record { id = c.args.group; superior = Some c.args.superior; owner = c.args.owner } in
    let new = pushed old.entries c.put_last.new.groups.entries row c.self.invariant.named c.in_ok-put_last.ensures.last in
    new.0 ∙ ap (λ v. with_group v.groups c.args.group c.args.superior c.args.owner) c.self.view_is

use Rattle.std.proofs.Common.{◌∙◌, ap, sym, subst, refl, true≢false, is_some, arith}
use Rattle.indexmap.specs.IndexMap.{values}
use Rattle.group_tree.specs.Groups.{at_group, with_superior}
use Rattle.racf_profiles.specs.Tree.{IsTree}
use Rattle.group_tree.specs.Answers.{CanMove}
use Rattle.group_tree.proofs.Edits.{tree-with_superior, both_there}
use Rattle.group_tree.proofs.Stored.{found, written}
use Rattle.group_tree.proofs.tree.Tree.set_superior.Goals as goal

pub unreachable-requires : goal.unreachable-requires
unreachable-requires c =
    let none = found c.args.self.now.groups c.self.inside.groups.entries c.args.group _ c.self.invariant.named (ap (λ v. v.groups) c.self.view_is) c.in_default.ensures.value in
    true≢false (sym c.in_ok-check_there.ensures.there ∙ ap is_some none)

pub invariant_of-self : goal.invariant_of-self
invariant_of-self c =
    let old = c.self.inside.groups in
    let row = with_superior c.args.superior c.in-Some.row.now in
    let held = c.get_mut.follows.holds row in
    let new = written (with_superior c.args.superior) (λ g. refl) c.args.group old.entries (c.get_mut.follows.lender row).entries c.self.invariant.named c.self.invariant.lawful.distinct c.in-Some.row.now (sym c.in-Some.ensures.value) held.0 held.1 in
    let can : CanMove c.args.self.now.groups c.args.group c.args.superior = record {
      both_there = both_there c.args.self.now.groups c.args.group c.args.superior c.in_ok-check_there.ensures.there c.in_ok-check_there-2.ensures.there;
      no_cycle = λ w. true≢false (sym (c.is_within.ensures.1 w) ∙ c.if-is_within.false);
    } in
    record {
      lawful = subst IsTree (sym new.0) (tree-with_superior (values old) c.self.invariant.lawful c.args.group c.args.superior (subst (λ v. CanMove v.groups c.args.group c.args.superior) (sym c.self.view_is) can) c.requires);
      named = new.1;
      room = omega (arith, c.self.invariant.room, held.6);
    }

pub returns-clause-groups : goal.returns-clause-groups
returns-clause-groups c =
    let old = c.self.inside.groups in
    let row = with_superior c.args.superior c.in-Some.row.now in
    let held = c.get_mut.follows.holds row in
    let new = written (with_superior c.args.superior) (λ g. refl) c.args.group old.entries (c.get_mut.follows.lender row).entries c.self.invariant.named c.self.invariant.lawful.distinct c.in-Some.row.now (sym c.in-Some.ensures.value) held.0 held.1 in
    new.0 ∙ ap (λ v. at_group c.args.group (with_superior c.args.superior) v.groups) c.self.view_is

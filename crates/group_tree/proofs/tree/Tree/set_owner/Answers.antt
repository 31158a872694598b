use Rattle.std.proofs.Common.{◌∙◌, ap, sym, subst, refl, is_some, arith}
use Rattle.indexmap.specs.IndexMap.{values}
use Rattle.group_tree.specs.Groups.{at_group, with_owner}
use Rattle.racf_profiles.specs.Tree.{IsTree}
use Rattle.group_tree.proofs.Edits.{tree-with_owner, absent_one}
use Rattle.group_tree.proofs.Stored.{found, written}
use Rattle.group_tree.proofs.tree.Tree.set_owner.Goals as goal

pub invariant_of-self-2 : goal.invariant_of-self-2
invariant_of-self-2 c =
    let old = c.self.inside.groups in
    let held = c.get_mut.follows.holds (with_owner c.args.owner c.in-Some.row.now) in
    let new = written (with_owner c.args.owner) (λ g. refl) c.args.group old.entries (c.get_mut.follows.lender (with_owner c.args.owner c.in-Some.row.now)).entries c.self.invariant.named c.self.invariant.lawful.distinct c.in-Some.row.now (sym c.in-Some.ensures.value) held.0 held.1 in
    record {
      lawful = subst IsTree (sym new.0) (tree-with_owner (values old) c.self.invariant.lawful c.args.group c.args.owner);
      named = new.1;
      room = omega (arith, c.self.invariant.room, held.6);
    }

pub returns-clause-groups : goal.returns-clause-groups
returns-clause-groups c =
    let old = c.self.inside.groups in
    let held = c.get_mut.follows.holds (with_owner c.args.owner c.in-Some.row.now) in
    let new = written (with_owner c.args.owner) (λ g. refl) c.args.group old.entries (c.get_mut.follows.lender (with_owner c.args.owner c.in-Some.row.now)).entries c.self.invariant.named c.self.invariant.lawful.distinct c.in-Some.row.now (sym c.in-Some.ensures.value) held.0 held.1 in
    new.0 ∙ ap (λ v. at_group c.args.group (with_owner c.args.owner) v.groups) c.self.view_is

pub returns-clause-accepted : goal.returns-clause-accepted
returns-clause-accepted c = ap is_some (found c.args.self.now.groups c.self.inside.groups.entries c.args.group _ c.self.invariant.named (ap (λ v. v.groups) c.self.view_is) c.in-Some.ensures.value)

pub returns-in_default-clause-refused : goal.returns-in_default-clause-refused
returns-in_default-clause-refused c = absent_one c.args.self.now.groups c.args.group (found c.args.self.now.groups c.self.inside.groups.entries c.args.group _ c.self.invariant.named (ap (λ v. v.groups) c.self.view_is) c.in_default.ensures.value)

use Rattle.std.proofs.Common.{◌≡◌, ◌≤◌, length, Some, None, refl, sym, ◌∙◌, arith}
use Rattle.racf_profiles.specs.Lookup.{find_group}
use Rattle.group_tree.specs.Climb.{above}
use Rattle.group_tree.proofs.Rows.{same, unlike}
use Rattle.group_tree.proofs.Climbs.{leads_none, leads_here, leads_stuck, leads_from_next, leads_to_next, steps_first, steps_next, steps_all}
use Rattle.group_tree.proofs.climb.leads_up.Goals as goal

pub loop-step-init : goal.loop-step-init
loop-step-init g c = record {
  down = λ w. w;
  up = λ w. w;
  steps = steps_first (g.G.GroupList.groups c.args.groups.now) c.requires c.args.from;
}

pub loop-step-preserved : goal.loop-step-preserved
loop-step-preserved g c =
    let groups = g.G.GroupList.groups c.args.groups.now in
    let here : find_group groups c.loop-step.current ≡ Some c.in-Some.group.now = sym c.in-Some.ensures in
    let next : above c.args.climb c.in-Some.group.now ≡ Some c.in-Some-above.next = sym c.above.ensures ∙ c.in-Some-above.is in
    let past = unlike c.loop-step.current c.args.to (sym c.eq.ensures ∙ c.if-eq.false) in
    record {
      down = λ w. c.loop-step.invariant.down (leads_from_next c.args.climb groups c.loop-step.current c.args.to c.in-Some.group.now c.in-Some-above.next here next w);
      up = λ w. leads_to_next c.args.climb groups c.loop-step.current c.args.to c.in-Some.group.now c.in-Some-above.next here next past (c.loop-step.invariant.up w);
      steps = steps_next groups c.requires c.args.climb c.loop-step.current c.in-Some-above.next c.in-Some.group.now c.loop-step._step here next c.loop-step.invariant.steps;
    }

pub returns-in_default : goal.returns-in_default
returns-in_default g c =
    let groups = g.G.GroupList.groups c.args.groups.now in
    let none : find_group groups c.loop-step.current ≡ None = sym c.in_default.ensures in
    (λ t. absurd (let e = t in cc), λ w. absurd (leads_none c.args.climb groups c.loop-step.current c.args.to none (c.loop-step.invariant.up w)))

pub returns-then-eq : goal.returns-then-eq
returns-then-eq g c =
    let groups = g.G.GroupList.groups c.args.groups.now in
    let here : find_group groups c.loop-step.current ≡ Some c.in-Some.group.now = sym c.in-Some.ensures in
    (λ t. c.loop-step.invariant.down (leads_here c.args.climb groups c.loop-step.current c.args.to c.in-Some.group.now here (same c.loop-step.current c.args.to (sym c.eq.ensures ∙ c.if-eq.true))), λ w. refl)

pub returns-in_default-above : goal.returns-in_default-above
returns-in_default-above g c =
    let groups = g.G.GroupList.groups c.args.groups.now in
    let here : find_group groups c.loop-step.current ≡ Some c.in-Some.group.now = sym c.in-Some.ensures in
    let stuck : above c.args.climb c.in-Some.group.now ≡ None = sym c.in_default-above.ensures in
    let past = unlike c.loop-step.current c.args.to (sym c.eq.ensures ∙ c.if-eq.false) in
    (λ t. absurd (let e = t in cc), λ w. absurd (leads_stuck c.args.climb groups c.loop-step.current c.args.to c.in-Some.group.now here past stuck (c.loop-step.invariant.up w)))

pub returns : goal.returns
returns g c =
    let groups = g.G.GroupList.groups c.args.groups.now in
    let all : length groups ≤ c.loop-step._step = omega (arith, c.requires.most) in
    (λ t. absurd (let e = t in cc), λ w. absurd (steps_all c.args.climb groups c.loop-step.current c.args.to c.loop-step._step all c.loop-step.invariant.steps (c.loop-step.invariant.up w)))

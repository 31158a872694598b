use Rattle.group_tree.specs.Climb.{LeadsUp}
use Rattle.group_tree.proofs.Climbs.{HasSteps}
use Rattle.group_tree.proofs.climb.leads_up.Given as goal

-- what is asked of the first group is what is asked of the current one, and the root is near enough
abbrev pub invariant-loop-step : goal.invariant-loop-step
invariant-loop-step g l =
    let groups = g.G.GroupList.groups l.groups in
    record {
      down : LeadsUp l.climb groups l.current l.to → LeadsUp l.climb groups l.fn.from l.to;
      up : LeadsUp l.climb groups l.fn.from l.to → LeadsUp l.climb groups l.current l.to;
      steps : HasSteps groups l.current l._step;
    }

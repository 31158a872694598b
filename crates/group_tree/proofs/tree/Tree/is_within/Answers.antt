use Rattle.group_tree.proofs.tree.Tree.is_within.Goals as goal

-- a walk by superior groups
pub returns : goal.returns
returns c = (
  λ t. let w = c.leads_up.ensures.0 t in record { others = w.others; way = w.way },
  λ s. c.leads_up.ensures.1 (record { others = s.others; way = s.way }),
)

use Rattle.group_tree.proofs.scope.in_scope_group.Goals as goal

-- a walk by owners goes by the links of scope
pub returns : goal.returns
returns g c = (
  λ t. let w = c.leads_up.ensures.0 t in record { others = w.others; way = w.way },
  λ s. c.leads_up.ensures.1 (record { others = s.others; way = s.way }),
)

use Rattle.generic_names.proofs.WalkLaws.{Along-ended, Along-double, Along-spent, Along-open, Along-unlike, Along-like}
use Rattle.generic_names.proofs.covering.walk.Goals as goal

pub returns-then-is_double_asterisk : goal.returns-then-is_double_asterisk
returns-then-is_double_asterisk c =
    let end = c.qualifier_end-end in
    Along-double c.loop-at.invariant end.result end.ensures.from end.ensures.within end.ensures.first _ c.is_double_asterisk.ensures c.if-is_double_asterisk.true

pub returns-then-from-name : goal.returns-then-from-name
returns-then-from-name c =
    let end = c.qualifier_end-end in
    Along-spent c.loop-at.invariant end.result end.ensures.from end.ensures.within end.ensures.first _ c.is_double_asterisk.ensures c.if-is_double_asterisk.false c.if-from-name.true

pub returns-then-is_open_ended : goal.returns-then-is_open_ended
returns-then-is_open_ended c =
    let end = c.qualifier_end-end in
    Along-open c.loop-at.invariant end.result end.ensures.from end.ensures.within end.ensures.first _ c.is_double_asterisk.ensures c.if-is_double_asterisk.false c.if-from-name.false
    _ _ c.is_open_ended.ensures.test c.if-is_open_ended.true c.begins_with.ensures _ c.covered.ensures

pub returns-then-not-matches_qualifier : goal.returns-then-not-matches_qualifier
returns-then-not-matches_qualifier c =
    let end = c.qualifier_end-end in
    let next = c.qualifier_end-next in
    Along-unlike c.loop-at.invariant end.result end.ensures.from end.ensures.within end.ensures.first _ c.is_double_asterisk.ensures c.if-is_double_asterisk.false
    next.result next.ensures.from next.ensures.within next.ensures.first _ _ c.is_open_ended.ensures.test c.if-is_open_ended.false c.matches_qualifier.ensures c.if-not-matches_qualifier.true

pub loop-at-preserved : goal.loop-at-preserved
loop-at-preserved c =
    let end = c.qualifier_end-end in
    let next = c.qualifier_end-next in
    Along-like c.loop-at.invariant end.result end.ensures.from end.ensures.within end.ensures.first _ c.is_double_asterisk.ensures c.if-is_double_asterisk.false
    next.result next.ensures.from next.ensures.within next.ensures.first _ _ c.is_open_ended.ensures.test c.if-is_open_ended.false c.matches_qualifier.ensures c.if-not-matches_qualifier.false

pub returns : goal.returns
returns c = Along-ended c.loop-at.invariant c.loop-at-test.false _ c.covered-2.ensures

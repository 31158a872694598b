use Rattle.std.proofs.Common.{◌≡◌, sym, ◌∙◌, ap}
use Rattle.std.specs.Prelude.{unwrap_or}
use Rattle.decision.specs.declared.outcome.Rule.TheVariants as rule
use Rattle.decision.specs.Table.{first_answer, operating_over, case, else_case}
use Rattle.decision.specs.Steps.{entry_case, conditional_case, operations_cases, standing_with}
use Rattle.decision.proofs.Steps.{exit_entry, exit_conditional, exit_operations, exit_last, own_case, operations_answer, by_facts, own_first}
use Rattle.decision.proofs.decide.unclassified.Goals as goal

pub returns-then-is_own : goal.returns-then-is_own
returns-then-is_own c = λ p h.
    let rows = c.args.image.now.state.rows in
    let acee = c.args.acee.now in
    let facts = c.args.facts.now in
    let asked = c.args.request.now.asked in
    let class = c.args.request.now.class in
    let name = c.args.request.now.name in
    let own = own_case rows acee class name asked in
    c.allowed.ensures ∙ own_first rows acee class name asked p (sym c.if-is_own.ensures)

pub returns-in-Some : goal.returns-in-Some
returns-in-Some c = λ p h.
    let rows = c.args.image.now.state.rows in
    let acee = c.args.acee.now in
    let facts = c.args.facts.now in
    let asked = c.args.request.now.asked in
    let class = c.args.request.now.class in
    let name = c.args.request.now.name in
    let own = own_case rows acee class name asked in
    let options = c.options-options.result.now in
    let found = c.listed-found.result in
    let r = acee.attributes.restricted in
    let entry = entry_case found r facts.uacc asked in
    let conditional = conditional_case options acee facts.conditional.now asked in
    let operations = operations_answer rows acee class name asked found facts.uacc facts.owner in
    let st = standing_with found r facts.uacc in
    sym (exit_entry own entry conditional operations facts.warning st c.in-Some.answer (sym c.if-is_own.ensures) (sym c.in-Some.ensures))
    ∙ by_facts rows acee class name asked p facts h options c.options-options.ensures found c.listed-found.ensures

pub returns-in-Some-conditional_case : goal.returns-in-Some-conditional_case
returns-in-Some-conditional_case c = λ p h.
    let rows = c.args.image.now.state.rows in
    let acee = c.args.acee.now in
    let facts = c.args.facts.now in
    let asked = c.args.request.now.asked in
    let class = c.args.request.now.class in
    let name = c.args.request.now.name in
    let own = own_case rows acee class name asked in
    let options = c.options-options.result.now in
    let found = c.listed-found.result in
    let r = acee.attributes.restricted in
    let entry = entry_case found r facts.uacc asked in
    let conditional = conditional_case options acee facts.conditional.now asked in
    let operations = operations_answer rows acee class name asked found facts.uacc facts.owner in
    let st = standing_with found r facts.uacc in
    sym (exit_conditional own entry conditional operations facts.warning st c.in-Some-conditional_case.answer (sym c.if-is_own.ensures) (sym c.in_default.ensures) (sym c.in-Some-conditional_case.ensures))
    ∙ by_facts rows acee class name asked p facts h options c.options-options.ensures found c.listed-found.ensures

pub returns-in-Some-operations_case : goal.returns-in-Some-operations_case
returns-in-Some-operations_case c = λ p h.
    let rows = c.args.image.now.state.rows in
    let acee = c.args.acee.now in
    let facts = c.args.facts.now in
    let asked = c.args.request.now.asked in
    let class = c.args.request.now.class in
    let name = c.args.request.now.name in
    let own = own_case rows acee class name asked in
    let options = c.options-options.result.now in
    let found = c.listed-found.result in
    let r = acee.attributes.restricted in
    let entry = entry_case found r facts.uacc asked in
    let conditional = conditional_case options acee facts.conditional.now asked in
    let operations = operations_answer rows acee class name asked found facts.uacc facts.owner in
    let st = standing_with found r facts.uacc in
    let over = operating_over rows acee facts.owner in
    let may = c.may_operate-may.result in
    let same : operations ≡ first_answer (operations_cases may acee.attributes.operations over c.standing-standing.result) =
    ap (λ m. first_answer (operations_cases m acee.attributes.operations over st)) (sym c.may_operate-may.ensures) ∙ ap (λ s. first_answer (operations_cases may acee.attributes.operations over s)) (sym c.standing-standing.ensures) in
    sym (exit_operations own entry conditional operations facts.warning st c.in-Some-operations_case.answer (sym c.if-is_own.ensures) (sym c.in_default.ensures) (sym c.in_default-conditional_case.ensures) (same ∙ sym c.in-Some-operations_case.ensures))
    ∙ by_facts rows acee class name asked p facts h options c.options-options.ensures found c.listed-found.ensures

pub returns : goal.returns
returns c = λ p h.
    let rows = c.args.image.now.state.rows in
    let acee = c.args.acee.now in
    let facts = c.args.facts.now in
    let asked = c.args.request.now.asked in
    let class = c.args.request.now.class in
    let name = c.args.request.now.name in
    let own = own_case rows acee class name asked in
    let options = c.options-options.result.now in
    let found = c.listed-found.result in
    let r = acee.attributes.restricted in
    let entry = entry_case found r facts.uacc asked in
    let conditional = conditional_case options acee facts.conditional.now asked in
    let operations = operations_answer rows acee class name asked found facts.uacc facts.owner in
    let st = standing_with found r facts.uacc in
    let over = operating_over rows acee facts.owner in
    let may = c.may_operate-may.result in
    let same : operations ≡ first_answer (operations_cases may acee.attributes.operations over c.standing-standing.result) =
    ap (λ m. first_answer (operations_cases m acee.attributes.operations over st)) (sym c.may_operate-may.ensures) ∙ ap (λ s. first_answer (operations_cases may acee.attributes.operations over s)) (sym c.standing-standing.ensures) in
    c.last_case.ensures
    ∙ ap (λ s. unwrap_or (case facts.warning rule.Warning 0 s) (else_case rule.Insufficient 8 s)) c.standing-standing.ensures
    ∙ sym (exit_last own entry conditional operations facts.warning st (sym c.if-is_own.ensures) (sym c.in_default.ensures) (sym c.in_default-conditional_case.ensures) (same ∙ sym c.in_default-operations_case.ensures))
    ∙ by_facts rows acee class name asked p facts h options c.options-options.ensures found c.listed-found.ensures

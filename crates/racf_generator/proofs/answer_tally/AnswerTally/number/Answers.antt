use Rattle.std.proofs.Common.{◌<◌, ◌≡◌, ◌∙◌, length, sym, ap, arith}
use Rattle.std.proofs.lemmas.List.{length-map}
use Rattle.std.proofs.lemmas.Bool.{eqb-true, eqb-false}
use Rattle.racf_generator.specs.Kept.{lines_of}
use Rattle.racf_generator.specs.Tally.{ended_lines, first_word, tally}
use Rattle.racf_generator.proofs.TallyLaws.{number-none, number-some}
use Rattle.racf_generator.proofs.answer_tally.AnswerTally.number.Goals as goal

-- no line ended
pub returns-then-is_empty : goal.returns-then-is_empty
returns-then-is_empty c =
    let inside = c.self.inside in
    let kept = c.self.invariant in
    let empty : inside.ended.len ≡ 0 = eqb-true inside.ended.len 0 (sym c.is_empty.ensures ∙ c.if-is_empty.true) in
    let none : length (lines_of inside) ≡ 0 = length-map inside.ended.items (λ line. line.value.items) ∙ omega (arith, empty, inside.ended.ok.0) in
    c.as_slice.ensures ∙ sym (number-none (lines_of inside) inside.line.items kept.ended kept.begun none) ∙ ap (λ seen. (tally (ended_lines seen.taken)).number) c.self.view_is

-- the last that ended is kept
pub returns : goal.returns
returns c =
    let inside = c.self.inside in
    let kept = c.self.invariant in
    let other : inside.ended.len ≡ 0 → ⊥ = eqb-false inside.ended.len 0 (sym c.is_empty.ensures ∙ c.if-is_empty.false) in
    let size : length (lines_of inside) ≡ length inside.ended.items = length-map inside.ended.items (λ line. line.value.items) in
    let some : 0 < length (lines_of inside) = omega (arith, other, size, inside.ended.ok.0) in
    c.first_word.ensures ∙ ap first_word c.deref.ensures.value
    ∙ sym (number-some (lines_of inside) inside.line.items inside.last.items kept.ended kept.begun (kept.last some))
    ∙ ap (λ seen. (tally (ended_lines seen.taken)).number) c.self.view_is

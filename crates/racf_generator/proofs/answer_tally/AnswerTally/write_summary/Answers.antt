use Rattle.std.proofs.Common.{◌≡◌, ◌∙◌, List, ℕ, [], ◌++◌, sym, ap}
use Rattle.std.specs.Prelude.{codes, decimal}
use Rattle.racf_generator.specs.Counting.{Counted, counted, counts_text}
use Rattle.racf_generator.specs.Kept.{lines_of}
use Rattle.racf_generator.specs.Tally.{ended_lines, summary, tally}
use Rattle.racf_generator.proofs.Appends.{then, puts}
use Rattle.racf_generator.proofs.TallyLaws.{ended_lines-lines, summary-kept}
use Rattle.racf_generator.proofs.answer_tally.AnswerTally.write_summary.Goals as goal

pub returns-clause-text : goal.returns-clause-text
returns-clause-text c =
    let inside = c.self.inside in
    let kept = c.self.invariant in
    let n = c.args.lines in
    let ls = lines_of inside in
    let begin = codes "/* LINES " ++ decimal n in
    let first = then [] c.new-text.result.items c.write_count.new.out.items [] begin c.new-text.ensures.items c.in_ok-write_count.ensures in
    let second = then [] c.write_count.new.out.items c.write.new.out.items begin (counts_text inside.counts) first c.in_ok-write.ensures in
    let third = then [] c.write.new.out.items c.extend_from_slice.new.self.items _ (codes " NUMBER ") second c.in_ok-extend_from_slice.ensures.items in
    let fourth = then [] c.extend_from_slice.new.self.items c.extend_from_slice-2.new.self.items _ c.number.result.now third c.in_ok-extend_from_slice-2.ensures.items in
    let fifth = then [] c.extend_from_slice-2.new.self.items c.extend_from_slice-3.new.self.items _ (codes "\n") fourth c.in_ok-extend_from_slice-3.ensures.items in
    let ended : ended_lines c.args.self.now.taken ≡ ls =
    ap (λ seen. ended_lines seen.taken) (sym c.self.view_is) ∙ ended_lines-lines ls inside.line.items kept.ended kept.begun in
    let number : c.number.result.now ≡ (tally ls).number = c.number.ensures ∙ ap (λ found. (tally found).number) ended in
    let text : Counted → List ℕ → List ℕ = λ counts word. (((begin ++ counts_text counts) ++ codes " NUMBER ") ++ word) ++ codes "\n" in
    puts c.extend_from_slice-4.result c.args.out.now.items c.extend_from_slice-4.new.self.items c.as_slice.result.now _ c.extend_from_slice-4.ensures.items
    (
    c.as_slice.ensures.value ∙ fifth ∙ ap (λ counts. text counts c.number.result.now) kept.counts ∙ ap (text (counted ls)) number
    ∙ summary-kept n ls ∙ ap (λ found. summary n (tally found)) (sym ended)
    )

use Rattle.std.proofs.Common.{ℕ, ◌≡◌, ◌≢◌, ◌∙◌, List, [], ◌∷◌, ◌++◌, map, None, Some, sym, ap, subst}
use Rattle.std.specs.List.{AllByRecursion, last_or}
use Rattle.std.proofs.lemmas.List.{map-append}
use Rattle.std.proofs.lemmas.List.Elements.{All-append, All-nil}
use Rattle.racf_outside.specs.Lines.{NoFeed}
use Rattle.racf_generator.specs.Counting.{counted, counted_next}
use Rattle.racf_generator.specs.Kept.{lines_of}
use Rattle.racf_generator.proofs.TallyLaws.{counted-push, feedless-push, last_or-push}
use Rattle.racf_generator.proofs.answer_tally.AnswerTally.end_line.Goals as goal

-- the line that ended is one more, and the last
pub invariant_of-self-2 : goal.invariant_of-self-2
invariant_of-self-2 c =
    let inside = c.self.inside in
    let kept = c.self.invariant in
    let ls : List (List ℕ) = lines_of inside in
    let line : List ℕ = c.extend_from_slice.new.self.items in
    let more : map (λ l. l.value.items) c.push.new.self.items ≡ ls ++ line ∷ [] =
    ap (map (λ l. l.value.items)) c.in-Ok-push.ensures.items ∙ map-append (λ l. l.value.items) inside.ended.items (c.of.result ∷ [])
    ∙ ap (λ v. ls ++ v.items ∷ []) c.of.ensures in
    let feedless : NoFeed line = subst NoFeed (sym c.in-Ok.ensures.items) (All-append (λ b. b ≢ 10) inside.line.items c.args.piece.now kept.begun c.requires) in
    record {
      counts = c.count.ensures ∙ ap (counted_next inside.counts) c.deref.ensures.value ∙ ap (λ counts. counted_next counts line) kept.counts ∙ sym (counted-push ls line) ∙ ap counted (sym more);
      ended = subst (AllByRecursion NoFeed) (sym more) (feedless-push ls line kept.ended feedless);
      begun = subst NoFeed (sym c.clear.ensures.items) (All-nil (λ b. b ≢ 10));
      last = λ some. ap (last_or None) more ∙ last_or-push None ls line ∙ ap (λ v. Some v.items) (sym c.swap.ensures.y_after);
    }

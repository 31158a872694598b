-- What a command prints at its turn and where it leads, and whom the line of an issuer leaves.
use Rattle.std.proofs.Common.{◌≡◌, ℕ, Bool, true, false, List, Result, Ok, Err, refl, sym, ◌∙◌, ap, true≢false}
use Rattle.std.specs.Prelude.{unwrap_or, if◌then◌else◌}
use Rattle.std.specs.Result.{result_ok}
use Rattle.journal_records.specs.declared.record.CommandRecord.{CommandRecord}
use Rattle.desk_rules.specs.declared.refusal.Refusal.{Refusal as OfCommand}
use Rattle.desk_rules.specs.Position.{position_after}
use Rattle.request_files.specs.declared.issuer_line.NamedIssuer.{NamedIssuer}
use Rattle.statements.specs.declared.reply.Refusal.{Refusal}
use Rattle.statements.specs.declared.reply.Reply.TheVariants.{Halted}
use Rattle.statements.specs.declared.statement.Statement.{Statement}
use Rattle.statements.specs.declared.statement.Statement.TheVariants as item
use Rattle.statements.specs.IssuerLines.{issuer_named}
use Rattle.statements.specs.Replies.{reply_line}
use Rattle.racf_stream.specs.Stream as s
use Rattle.racf_stream.specs.Stream.{Answer, number_of, fails_behind, fail, accept, halt, answer_outcome, outcome_of, issue_by}
use Rattle.racf_stream.specs.Printed.{Turn, printed, behind}

module _ (turn : Turn) where
  -- what a command is answered at its turn
  command_answer : (text : List ℕ) → turn.item ≡ item.Command text
      → s.answer turn.fault turn.item turn.before ≡ (if turn.before.halted then halt turn.before else answer_outcome turn.fault (outcome_of text turn.before) turn.before)
  unfolding s.command
  command_answer text is = ap (λ (i : Statement). s.answer turn.fault i turn.before) is

  unless_halted : (text : List ℕ) → turn.item ≡ item.Command text → turn.before.halted ≡ false
      → s.answer turn.fault turn.item turn.before ≡ answer_outcome turn.fault (outcome_of text turn.before) turn.before
  unless_halted text is runs =
      command_answer text is ∙ ap (λ (b : Bool). if b then halt turn.before else answer_outcome turn.fault (outcome_of text turn.before) turn.before) runs

  where_halted : (text : List ℕ) → turn.item ≡ item.Command text → turn.before.halted ≡ true → s.answer turn.fault turn.item turn.before ≡ halt turn.before
  where_halted text is halts =
      command_answer text is ∙ ap (λ (b : Bool). if b then halt turn.before else answer_outcome turn.fault (outcome_of text turn.before) turn.before) halts

  pub command_told : (text : List ℕ) → turn.item ≡ item.Command text → turn.before.halted ≡ false → printed turn ≡ (answer_outcome turn.fault (outcome_of text turn.before) turn.before).text
  unfolding s.text
  command_told text is runs = ap (λ (a : Answer). a.text) (unless_halted text is runs)

  -- where the outcome leads, unless a disk fails the command
  led_by : (o : Result CommandRecord OfCommand) → (answer_outcome turn.fault o turn.before).state.halted ≡ false
      → (answer_outcome turn.fault o turn.before).state.position ≡ position_after turn.before.position o
  led_by (Ok given) h = by (fails_behind turn.fault (number_of turn.before)) h
    where
      by : (b : Bool) → (if b then fail turn.before else accept given turn.before).state.halted ≡ false
          → (if b then fail turn.before else accept given turn.before).state.position ≡ position_after turn.before.position (Ok given)
      by true k = absurd (true≢false k)
      by false k = refl
  led_by (Err why) h = refl

  pub command_moved : (text : List ℕ) → turn.item ≡ item.Command text → turn.before.halted ≡ false → (behind turn).halted ≡ false
      → (behind turn).position ≡ position_after turn.before.position (outcome_of text turn.before)
  unfolding s.step
  command_moved text is runs still =
      let answered = unless_halted text is runs in
      ap (λ (a : Answer). a.state.position) answered ∙ led_by (outcome_of text turn.before) (sym (ap (λ (a : Answer). a.state.halted) answered) ∙ still)

  -- behind a disk that failed
  pub halted_text : (text : List ℕ) → turn.item ≡ item.Command text → turn.before.halted ≡ true → printed turn ≡ reply_line (number_of turn.before) Halted
  unfolding s.text
  halted_text text is halts = ap (λ (a : Answer). a.text) (where_halted text is halts)

  pub halted_state : (text : List ℕ) → turn.item ≡ item.Command text → turn.before.halted ≡ true → behind turn ≡ turn.before
  unfolding s.step
  halted_state text is halts = ap (λ (a : Answer). a.state) (where_halted text is halts)

  -- whom the line of an issuer leaves
  issued_by : (read : Result NamedIssuer Refusal) → (issue_by read turn.before).state.issuer ≡ unwrap_or (result_ok read) turn.before.issuer
  issued_by (Ok issuer) = refl
  issued_by (Err why) = refl

  pub issuer_left : (line : List ℕ) → turn.item ≡ item.Issuer line → (behind turn).issuer ≡ unwrap_or (result_ok (issuer_named turn.before.issuing line)) turn.before.issuer
  unfolding s.step
  issuer_left line is =
      ap (λ (i : Statement). (s.answer turn.fault i turn.before).state.issuer) is ∙ issued_by (issuer_named turn.before.issuing line)

-- Each statement of an input prints nothing, one line, or one and an AUDIT line, and no line feed stands in their
-- words: each crate that prints says so of its own, and a turn prints what one of them does.
use Rattle.std.proofs.Common.{◌≡◌, ℕ, ◌+◌, true, not, List, [], ◌∷◌, Option, Result, Ok, Err, refl, sym, subst, true≢false, inl, inr}
use Rattle.std.specs.Prelude.{◌==◌, IfSome}
use Rattle.std.specs.List.{AllByRecursion}
use Rattle.std.proofs.lemmas.List.Sums.{AllPass-from_list_all}
use Rattle.racf_outside.specs.Lines.{NoFeed}
use Rattle.raclist_image.specs.Imaged.{Imaged}
use Rattle.audit_records.specs.Feedless.{IsFeedless, IsFeedlessState}
use Rattle.audit_records.proofs.Feedless.{read_id-feedless, either}
use Rattle.request_files.specs.declared.acees.NamedAcee.{NamedAcee}
use Rattle.request_files.specs.declared.issuer_line.NamedIssuer.{NamedIssuer}
use Rattle.request_files.specs.Grammar.{read}
use Rattle.request_files.specs.OneLine.{AreFeedlessAcees, AreLines, IsNumbered, PrintsLines}
use Rattle.request_files.specs.Worked as request
use Rattle.journal_records.specs.declared.record.CommandRecord.{CommandRecord}
use Rattle.desk_rules.specs.declared.refusal.Refusal.{Refusal as OfCommand}
use Rattle.desk_rules.specs.OneLine.{IsFeedlessAccepted, IsFeedlessOutcome}
use Rattle.desk_rules.specs.Outcome.{outcome}
use Rattle.desk_rules.specs.Position.{Position, position_behind}
use Rattle.statements.specs.declared.issuer.Issuing.{Issuing}
use Rattle.statements.specs.declared.issuer.Issuing.TheVariants.{Free, Fixed}
use Rattle.statements.specs.declared.statement.Statement.{Statement}
use Rattle.statements.specs.declared.statement.Statement.TheVariants as item
use Rattle.statements.specs.declared.reply.Refusal.{Refusal}
use Rattle.statements.specs.declared.reply.Refusal.TheVariants as refusal
use Rattle.statements.specs.declared.reply.Reply.{Reply}
use Rattle.statements.specs.declared.reply.Reply.TheVariants.{Accepted, Refused, DiskFault, Halted}
use Rattle.statements.specs.Inputs.{statements}
use Rattle.statements.specs.IssuerLines.{issuer_named, first_issuer}
use Rattle.statements.specs.OneLine.{IsFeedlessIssue, IsFeedlessReply}
use Rattle.statements.specs.Replies.{refusal_words, reply_line}
use Rattle.racf_stream.specs.Stream as s
use Rattle.racf_stream.specs.Stream.{State, Answer, number_of}
use Rattle.racf_stream.specs.Printed.{Turn, turns, input_turns, printed, behind, IsSpelled, PrintsItsLines}

-- ---- the lines of a turn
no_feed : (words : List ℕ) → IsFeedless words → NoFeed words
no_feed words h k d below = other _ (AllPass-from_list_all (λ byte. not (byte == 10)) words h k d below)
  where
    other : (byte : ℕ) → not (byte == 10) ≡ true → byte ≡ 10 → ⊥
    other byte h e = true≢false (sym (subst (λ (n : ℕ). not (n == 10) ≡ true) e h))

its_lines : (turn : Turn) → AreLines (number_of (behind turn)) (printed turn) → PrintsItsLines turn
its_lines turn (inl none) = inl none
its_lines turn (inr (inl is)) = inr (inl (record { words = is.words; no_feed = no_feed is.words is.no_feed; is_line = is.is_line }))
its_lines turn (inr (inr (inl is))) =
    inr (inr (inl (record {
      words = is.words;
      no_feed = no_feed is.words is.no_feed;
      audit = is.audit;
      no_audit_feed = no_feed is.audit is.no_audit_feed;
      are_lines = is.are_lines;
    })))
its_lines turn (inr (inr (inr never))) = inr (inr (inr never))

-- ---- what a statement prints, and leaves
record IsGood (before : State) : Type 0 where
  state : IsFeedlessState before.position.image.state
  issuer : IsFeedless before.issuer.id
  group : IfSome before.issuer.group IsFeedless
  acees : AreFeedlessAcees before.acees

record Prints (a : Answer) : Type 0 where
  lines : AreLines (number_of a.state) a.text
  good : IsGood a.state

first-feedless : (issuing : Issuing) → IsSpelled issuing → IsFeedless (first_issuer issuing).id
first-feedless Free h = refl
first-feedless (Fixed id) h = read_id-feedless id id h

first-group : (issuing : Issuing) → IfSome (first_issuer issuing).group IsFeedless
first-group Free = tt
first-group (Fixed id) = tt

-- what the crates say whose texts are printed
module _ (failed : Option ℕ)
    (replies : (number : ℕ) (reply : Reply) → IsFeedlessReply reply → IsNumbered number (reply_line number reply))
    (issues : (issuing : Issuing) (line : List ℕ) → IsFeedlessIssue (issuer_named issuing line))
    (requests : (image : Imaged) (acees : List NamedAcee) (bytes : List ℕ) → IsFeedlessState image.state → AreFeedlessAcees acees → PrintsLines image.generation (request.worked image acees (read bytes)))
    (outcomes : (position : Position) (id : List ℕ) (group : Option (List ℕ)) (text : List ℕ) → IsFeedlessState position.image.state → IsFeedless id → IfSome group IsFeedless → IsFeedlessOutcome (outcome position id group text))
    (leaves : (position : Position) (given : CommandRecord) → IsFeedlessAccepted given → IsFeedlessState position.image.state → IsFeedlessState (position_behind position given).image.state) where
  prints-refuse : (why : Refusal) (before : State) → IsFeedless (refusal_words why) → IsGood before → Prints (s.refuse why before)
  prints-refuse why before h good = record {
    lines = inr (inl (replies (number_of before) (Refused why) h));
    good = record { state = good.state; issuer = good.issuer; group = good.group; acees = good.acees };
  }

  prints-accept : (given : CommandRecord) (before : State) → IsFeedlessAccepted given → IsGood before → Prints (s.accept given before)
  prints-accept given before h good = record {
    lines = inr (inl (replies (number_of before + 1) Accepted tt));
    good = record { state = leaves before.position given h good.state; issuer = good.issuer; group = good.group; acees = good.acees };
  }

  prints-fail : (before : State) → IsGood before → Prints (s.fail before)
  prints-fail before good = record {
    lines = inr (inl (replies (number_of before) DiskFault tt));
    good = record { state = good.state; issuer = good.issuer; group = good.group; acees = good.acees };
  }

  prints-halt : (before : State) → IsGood before → Prints (s.halt before)
  prints-halt before good = record { lines = inr (inl (replies (number_of before) Halted tt)); good = good }

  prints-outcome : (o : Result CommandRecord OfCommand) (before : State) → IsFeedlessOutcome o → IsGood before → Prints (s.answer_outcome failed o before)
  prints-outcome (Err why) before h good = prints-refuse (refusal.Command why) before h good
  prints-outcome (Ok given) before h good =
      either Prints (s.fails_behind failed (number_of before)) (s.fail before) (s.accept given before) (prints-fail before good) (prints-accept given before h good)

  prints-with : (o : request.Outcome) (before : State) → PrintsLines (number_of before) o → IsGood before → Prints (s.answer_with o before)
  prints-with o before works good = record { lines = works.lines; good = record { state = good.state; issuer = good.issuer; group = good.group; acees = works.acees } }

  prints-issue : (read : Result NamedIssuer Refusal) (before : State) → IsFeedlessIssue read → IsGood before → Prints (s.issue_by read before)
  prints-issue (Ok issuer) before h good = record { lines = inl refl; good = record { state = good.state; issuer = h.id; group = h.group; acees = good.acees } }
  prints-issue (Err why) before h good = prints-refuse why before h good

  prints-answer : (i : Statement) (before : State) → IsGood before → Prints (s.answer failed i before)
  unfolding s.command s.request
  prints-answer (item.Command text) before good =
      either Prints before.halted (s.halt before) (s.answer_outcome failed (s.outcome_of text before) before) (prints-halt before good)
      (prints-outcome (s.outcome_of text before) before (outcomes before.position before.issuer.id before.issuer.group text good.state good.issuer good.group) good)
  prints-answer (item.Issuer text) before good = prints-issue (issuer_named before.issuing text) before (issues before.issuing text) good
  prints-answer (item.Request text) before good =
      prints-with (request.worked before.position.image before.acees (read text)) before (requests before.position.image before.acees text good.state good.acees) good
  prints-answer item.LineTooLong before good = prints-refuse refusal.LineTooLong before refl good

  turns-from : (items : List Statement) (before : State) → IsGood before → AllByRecursion PrintsItsLines (turns failed items before)
  unfolding s.step s.text
  turns-from [] before good = tt
  turns-from (i ∷ items) before good =
      let prints = prints-answer i before good in
      (its_lines (record { fault = failed; item = i; before = before }) prints.lines, turns-from items (s.step failed i before) prints.good)

  -- from a base on whose names hold no line feed
  pub each_line : (issuing : Issuing) (base : Position) (bytes : List ℕ) → IsSpelled issuing → IsFeedlessState base.image.state → AllByRecursion PrintsItsLines (input_turns failed issuing base bytes)
  unfolding s.new_stream
  each_line issuing base bytes spelled are =
      turns-from (statements.items bytes) (s.new_stream issuing base) (record { state = are; issuer = first-feedless issuing spelled; group = first-group issuing; acees = tt })

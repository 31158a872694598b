-- A fixed issuer gives every command of an input, whatever its lines say.
use Rattle.std.proofs.Common.{◌≡◌, ℕ, Bool, true, false, cond, List, [], ◌∷◌, Some, None, Ok, Err, Result, refl, ◌∙◌, ap, sym}
use Rattle.std.specs.Prelude.{Option}
use Rattle.std.specs.List.{AllByRecursion}
use Rattle.journal_records.specs.declared.record.CommandRecord.{CommandRecord}
use Rattle.desk_rules.specs.Position.{Position}
use Rattle.desk_rules.specs.declared.refusal.Refusal.{Refusal as OfCommand}
use Rattle.request_files.specs.declared.issuer_line.NamedIssuer.{NamedIssuer}
use Rattle.statements.specs.declared.issuer.Issuing.{Issuing}
use Rattle.statements.specs.declared.issuer.Issuing.TheVariants.{Fixed}
use Rattle.statements.specs.declared.reply.Refusal.{Refusal}
use Rattle.statements.specs.declared.reply.Refusal.TheVariants.{IssuerFixed}
use Rattle.statements.specs.declared.reply.Reply.TheVariants.{Refused}
use Rattle.statements.specs.declared.statement.Statement.{Statement}
use Rattle.statements.specs.declared.statement.Statement.TheVariants as item
use Rattle.statements.specs.IssuerLines.{first_issuer, issuer_named}
use Rattle.statements.specs.Replies.{reply_line}
use Rattle.statements.specs.Inputs.{statements}
use Rattle.racf_stream.specs.Stream as s
use Rattle.racf_stream.specs.Stream.{State, Answer, number_of, issue_by}
use Rattle.racf_stream.specs.Printed.{Turn, turns, input_turns, printed, behind}

-- The issuer is fixed, and is the one who gives the commands.
record IsFixed (id : List ℕ) (before : State) : Type 0 where
  issuing : before.issuing ≡ Fixed id
  issuer : before.issuer ≡ first_issuer (Fixed id)

either_fixed : (id : List ℕ) (b : Bool) (x y : Answer) → IsFixed id x.state → IsFixed id y.state → IsFixed id (cond b x y).state
either_fixed id true x y p q = p
either_fixed id false x y p q = q

outcome_fixed : (id : List ℕ) (fault : Option ℕ) (o : Result CommandRecord OfCommand) (before : State) → IsFixed id before → IsFixed id (s.answer_outcome fault o before).state
outcome_fixed id fault (Err why) before h = record { issuing = h.issuing; issuer = h.issuer }
outcome_fixed id fault (Ok given) before h =
    let same : IsFixed id before = record { issuing = h.issuing; issuer = h.issuer } in
    either_fixed id (s.fails_behind fault (number_of before)) (s.fail before) (s.accept given before)
    (record { issuing = same.issuing; issuer = same.issuer }) (record { issuing = same.issuing; issuer = same.issuer })

command_fixed : (id : List ℕ) (fault : Option ℕ) (text : List ℕ) (before : State) → IsFixed id before → IsFixed id (s.command fault text before).state
unfolding s.command
command_fixed id fault text before h =
    either_fixed id before.halted (s.halt before) (s.answer_outcome fault (s.outcome_of text before) before) h (outcome_fixed id fault (s.outcome_of text before) before h)

request_fixed : (id text : List ℕ) (before : State) → IsFixed id before → IsFixed id (s.request text before).state
unfolding s.request
request_fixed id text before h = record { issuing = h.issuing; issuer = h.issuer }

issue_fixed : (id line : List ℕ) (before : State) → IsFixed id before → IsFixed id (s.name_issuer line before).state
issue_fixed id line before h = by (issuer_named before.issuing line) (ap (λ (i : Issuing). issuer_named i line) h.issuing)
  where
    by : (r : Result NamedIssuer Refusal) → r ≡ Err IssuerFixed → IsFixed id (issue_by r before).state
    by (Err why) e = record { issuing = h.issuing; issuer = h.issuer }
    by (Ok issuer) e = absurd (cc)

answer_fixed : (id : List ℕ) (fault : Option ℕ) (i : Statement) (before : State) → IsFixed id before → IsFixed id (s.answer fault i before).state
answer_fixed id fault (item.Command text) before h = command_fixed id fault text before h
answer_fixed id fault (item.Issuer line) before h = issue_fixed id line before h
answer_fixed id fault (item.Request text) before h = request_fixed id text before h
answer_fixed id fault item.LineTooLong before h = record { issuing = h.issuing; issuer = h.issuer }

turns_fixed : (id : List ℕ) (fault : Option ℕ) (items : List Statement) (before : State) → IsFixed id before → AllByRecursion (λ (turn : Turn). turn.before.issuer ≡ first_issuer (Fixed id)) (turns fault items before)
unfolding s.step
turns_fixed id fault [] before h = tt
turns_fixed id fault (i ∷ items) before h = (h.issuer, turns_fixed id fault items (s.step fault i before) (answer_fixed id fault i before h))

pub fixed_stays : (fault : Option ℕ) (id : List ℕ) (base : Position) (bytes : List ℕ) → AllByRecursion (λ (turn : Turn). turn.before.issuer ≡ first_issuer (Fixed id)) (input_turns fault (Fixed id) base bytes)
unfolding s.new_stream
fixed_stays fault id base bytes = turns_fixed id fault (statements.items bytes) (s.new_stream (Fixed id) base) (record { issuing = refl; issuer = refl })

-- what a line of an issuer is answered then
fixed_answer : (turn : Turn) (id line : List ℕ) → turn.item ≡ item.Issuer line → turn.before.issuing ≡ Fixed id → s.answer turn.fault turn.item turn.before ≡ s.refuse IssuerFixed turn.before
fixed_answer turn id line is fixed =
    ap (λ (i : Statement). s.answer turn.fault i turn.before) is ∙ ap (λ (i : Issuing). issue_by (issuer_named i line) turn.before) fixed

pub fixed_refuses : (turn : Turn) (id line : List ℕ) → turn.item ≡ item.Issuer line → turn.before.issuing ≡ Fixed id
    → (printed turn ≡ reply_line (number_of turn.before) (Refused IssuerFixed)) × (behind turn ≡ record turn.before { has_refused = true })
unfolding s.step s.text
fixed_refuses turn id line is fixed =
    (ap (λ (a : Answer). a.text) (fixed_answer turn id line is fixed), ap (λ (a : Answer). a.state) (fixed_answer turn id line is fixed))

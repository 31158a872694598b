-- The outcome of a command holds no line feed where the rows hold none: neither the words of a refusal, nor what an
-- accepted command leaves.
use Rattle.std.proofs.Common.{◌≡◌, ℕ, ◌+◌, Bool, true, false, List, ◌∷◌, ◌++◌, Option, None, Some, Result, Ok, Err, refl, length, codes}
use Rattle.std.specs.Prelude.{unwrap_or, nat_le, nat_lt, IfSome, option_map, is_ok}
use Rattle.racf_profiles.specs.declared.rows.Rows.{Rows}
use Rattle.racf_profiles.specs.Lookup.{is_user, user_of}
use Rattle.racf_profiles.specs.declared.users.User.{User}
use Rattle.access_levels.specs.Spelling.{group_of}
use Rattle.command_values.specs.declared.faults.Syntax.{Syntax}
use Rattle.command_values.specs.declared.faults.Syntax.TheVariants as syntax
use Rattle.command_values.specs.declared.operand_words.Word.{Word}
use Rattle.command_values.specs.declared.operand_words.Word.TheVariants as words
use Rattle.command_values.specs.OperandWords.{spelling_of}
use Rattle.command_fields.specs.declared.issuer.Issuer.{Issuer}
use Rattle.command_fields.specs.declared.fields.CommandFields.{CommandFields}
use Rattle.command_fields.specs.LawfulFields.{AreLawfulFields}
use Rattle.command_rules.specs.declared.conflict.Conflict.{Conflict}
use Rattle.command_rules.specs.Conflicts.{conflict_of, first_conflict_of}
use Rattle.command_authority.specs.declared.needs.Need.{Need}
use Rattle.command_authority.specs.Authority.{need}
use Rattle.command_parser.specs.CommandOf.{command_in}
use Rattle.command_parser.specs.Canonical.{fault}
use Rattle.journal_records.specs.declared.record.CommandRecord.{CommandRecord}
use Rattle.journal_records.specs.Spelling.{spelled}
use Rattle.desk_rules.specs.declared.refusal.Refusal.{Refusal as OfCommand}
use Rattle.desk_rules.specs.declared.refusal.Refusal.TheVariants as of_command
use Rattle.desk_rules.specs.Issuers.{current_group, is_connected, issuer_in, unless_not_connected, issuer_among, issuer_of}
use Rattle.desk_rules.specs.Outcome.{most_number, most_bytes, unless_refused, found_command, command_of_text, first_of, rules_of, journal_full, number_spent, refusal_of, unless_met, judged, outcome_in, outcome}
use Rattle.desk_rules.specs.Position.{Position, position_behind}
use Rattle.desk_rules.specs.Recovery.{refusal_again, outcome_again}
use Rattle.desk_rules.specs.Words.{syntax_words, each_need}
use Rattle.audit_records.specs.Feedless.{IsFeedless, IsFeedlessUser, AreFeedless, IsFeedlessState}
use Rattle.audit_records.proofs.Feedless.{joined, decimal-feedless, either, if-given, if-found}
use Rattle.desk_rules.specs.OneLine.{IsFeedlessReply, IsFeedlessIssuer, IsFeedlessAccepted, IsFeedlessOutcome}
use Rattle.desk_rules.proofs.FeedlessRows.{step-feedless}
use Rattle.desk_rules.proofs.FeedlessCopies.{copies-feedless}
use Rattle.desk_rules.proofs.FeedlessConflicts.{IsFeedlessTest, conflict-feedless, early-feedless}
use Rattle.desk_rules.proofs.FeedlessNeeds.{need-feedless}

-- ---- the words of a refused command
spelling-words : (word : Word) → IsFeedless (spelling_of word)
spelling-words words.User = refl
spelling-words other = refl

syntax-words : (why : Syntax) → IsFeedless (syntax_words why)
syntax-words syntax.UnknownCommand = refl
syntax-words (syntax.UnknownOperand place) = decimal-feedless place
syntax-words (syntax.AmbiguousOperand place) = decimal-feedless place
syntax-words (syntax.Missing word) = spelling-words word
syntax-words (syntax.Repeated word) = spelling-words word
syntax-words (syntax.Excluded word other) =
    joined (spelling_of word ++ codes " ") (spelling_of other) (joined (spelling_of word) (codes " ") (spelling-words word) refl) (spelling-words other)
syntax-words (syntax.BadValue place) = decimal-feedless place
syntax-words (syntax.Unclosed place) = decimal-feedless place
syntax-words syntax.TextTooLong = refl

-- a refusal, and what is tested for one
abbrev pub IsFeedlessAnswer : Option OfCommand → Type 0
IsFeedlessAnswer why = IfSome why IsFeedlessReply

spent-words : (number : ℕ) → IsFeedlessAnswer (number_spent number)
spent-words number = either IsFeedlessAnswer (nat_le most_number number) (Some of_command.NumberSpent) None refl tt

full-words : (gate : ℕ) (given : CommandRecord) → IsFeedlessAnswer (journal_full gate given)
full-words gate given = either IsFeedlessAnswer (nat_lt most_bytes ((gate + 1) + (length (spelled given) + 1))) (Some of_command.JournalFull) None refl tt

conflict-words : (o : Option Conflict) → IsFeedlessTest o → IsFeedlessAnswer (option_map of_command.Conflict o)
conflict-words None h = tt
conflict-words (Some conflict) h = h conflict refl

lack-words : (o : Option (List Need)) → IfSome o (λ lacked. IsFeedless (codes "NEED" ++ each_need lacked)) → IsFeedlessAnswer (option_map of_command.Need o)
lack-words None h = tt
lack-words (Some lacked) h = h

-- the first that refuses, of one test and those behind it
test-words : (why : Option OfCommand) (tests : List (Option OfCommand)) → IsFeedlessAnswer why → IsFeedlessAnswer (first_of tests) → IsFeedlessAnswer (first_of (why ∷ tests))
test-words None tests h k = k
test-words (Some why) tests h k = h

-- ---- the issuer of a command
abbrev IsFeedlessFound : Result Issuer OfCommand → Type 0
IsFeedlessFound (Ok issuer) = IsFeedlessIssuer issuer
IsFeedlessFound (Err why) = IsFeedlessReply why

issuer-in : (id group : List ℕ) (b : Bool) (is : is_ok (group_of group) ≡ b) → IsFeedless id → IsFeedless group → IsFeedlessFound (issuer_in id group b is)
issuer-in id group true is h k = record { id = h; group = k }
issuer-in id group false is h k = k

connected-issuer : (user : User) (id group : List ℕ) → IsFeedless id → IsFeedless group → IsFeedlessFound (unless_not_connected user id group)
connected-issuer user id group h k =
    either IsFeedlessFound (is_connected user group) (issuer_in id group (is_ok (group_of group)) refl) (Err (of_command.IssuerNotConnected group)) (issuer-in id group (is_ok (group_of group)) refl h k) k

issuer-among : (o : Option User) (id : List ℕ) (group : Option (List ℕ)) → IfSome o IsFeedlessUser → IsFeedless id → IfSome group IsFeedless → IsFeedlessFound (issuer_among o id group)
issuer-among None id group h i k = i
issuer-among (Some user) id group h i k =
    either IsFeedlessFound user.attributes.revoked (Err (of_command.IssuerRevoked id)) (unless_not_connected user id (current_group user group)) i
    (connected-issuer user id (current_group user group) i (if-given group user.default_group k h.default_group))

-- ---- the outcome of a command
rules-words : (rows : Rows) (given : CommandRecord) → AreFeedless rows → IsFeedlessAccepted given → IsFeedlessAnswer (rules_of rows given)
rules-words rows given are is =
    let issuer = is.issuer in
    test-words _ _ (conflict-words (first_conflict_of given.issuer given.command rows) (early-feedless given.issuer issuer.id issuer.group given.command rows is.fields are))
    (test-words _ _ (lack-words (need rows given.issuer given.command) (need-feedless given.issuer issuer.id issuer.group given.command rows is.fields are))
    (test-words _ _ (conflict-words (conflict_of given.issuer given.command rows) (conflict-feedless given.issuer issuer.id issuer.group given.command rows is.fields are)) tt))

-- at a desk
refusal-words : (gate number : ℕ) (rows : Rows) (given : CommandRecord) → AreFeedless rows → IsFeedlessAccepted given → IsFeedlessAnswer (refusal_of gate number rows given)
refusal-words gate number rows given are is = test-words _ _ (rules-words rows given are is) (test-words _ _ (full-words gate given) (test-words _ _ (spent-words number) tt))

-- and where the disks are opened again
again-words : (number : ℕ) (rows : Rows) (given : CommandRecord) → AreFeedless rows → IsFeedlessAccepted given → IsFeedlessAnswer (refusal_again number rows given)
again-words number rows given are is = test-words _ _ (rules-words rows given are is) (test-words _ _ (spent-words number) tt)

abbrev IsFeedlessCommand : Result CommandFields OfCommand → Type 0
IsFeedlessCommand (Ok c) = AreLawfulFields c
IsFeedlessCommand (Err why) = IsFeedlessReply why

met-outcome : (why : Option OfCommand) (given : CommandRecord) → IsFeedlessAnswer why → IsFeedlessAccepted given → IsFeedlessOutcome (unless_met why given)
met-outcome None given h is = is
met-outcome (Some why) given h is = h

module _ (refuses : CommandRecord → Option OfCommand) (rows : Rows) (each : (given : CommandRecord) → IsFeedlessAccepted given → IsFeedlessAnswer (refuses given)) (are : AreFeedless rows) where
  given-outcome : (found : Result Issuer OfCommand) (c : CommandFields) → IsFeedlessFound found → AreLawfulFields c
      → IsFeedlessOutcome (unless_refused found (λ issuer. unless_met (refuses (record { issuer = issuer; command = c })) (record { issuer = issuer; command = c })))
  given-outcome (Err why) c h f = h
  given-outcome (Ok issuer) c h f =
      let given : CommandRecord = record { issuer = issuer; command = c } in
      met-outcome (refuses given) given (each given (record { issuer = h; fields = f })) (record { issuer = h; fields = f })

  judged-outcome : (id : List ℕ) (group : Option (List ℕ)) (c : CommandFields) → IsFeedless id → IfSome group IsFeedless → AreLawfulFields c → IsFeedlessOutcome (judged refuses rows id group c)
  judged-outcome id group c i k f =
      given-outcome (issuer_of rows id group) c (issuer-among (user_of id rows) id group (if-found IsFeedlessUser (is_user id) rows.users are.users) i k) f

  read-outcome : (id : List ℕ) (group : Option (List ℕ)) (read : Result CommandFields OfCommand) → IsFeedless id → IfSome group IsFeedless → IsFeedlessCommand read
      → IsFeedlessOutcome (unless_refused read (judged refuses rows id group))
  read-outcome id group (Err why) i k h = h
  read-outcome id group (Ok c) i k h = judged-outcome id group c i k h

outcome-read : (position : Position) (id : List ℕ) (group : Option (List ℕ)) (text : List ℕ) → AreFeedless position.image.state.rows → IsFeedless id → IfSome group IsFeedless
    → IsFeedlessCommand (command_of_text id text) → IsFeedlessOutcome (outcome position id group text)
unfolding outcome_in
outcome-read position id group text are i k h =
    let rows = position.image.state.rows in
    let number = position.image.generation in
    read-outcome (refusal_of position.gate number rows) rows (λ given is. refusal-words position.gate number rows given are is) are id group (command_of_text id text) i k h

pub again-feedless : (position : Position) (given : CommandRecord) → AreFeedless position.image.state.rows → IsFeedlessAccepted given → IsFeedlessOutcome (outcome_again position given)
again-feedless position given are is =
    let rows = position.image.state.rows in
    let number = position.image.generation in
    judged-outcome (refusal_again number rows) rows (λ other h. again-words number rows other are h) are given.issuer.id (Some given.issuer.group) given.command is.issuer.id is.issuer.group is.fields

-- ---- behind an accepted command
pub behind-feedless : (position : Position) (given : CommandRecord) → IsFeedlessAccepted given → IsFeedlessState position.image.state → IsFeedlessState (position_behind position given).image.state
behind-feedless position given is are = record {
  rows = step-feedless given.issuer is.issuer.id is.issuer.group given.command position.image.state.rows is.fields are.rows;
  copies = copies-feedless given.command position.image.state are;
}

-- ---- what a text is, where the fields of a command that it spells are lawful
module _ (lawful : (issuer text : List ℕ) (c : CommandFields) → command_in issuer text ≡ Some c → AreLawfulFields c) where
  command-read : (id text : List ℕ) → IsFeedlessCommand (command_of_text id text)
  command-read id text = found (command_in id text) refl
    where
      found : (o : Option CommandFields) → command_in id text ≡ o → IsFeedlessCommand (found_command o (fault id text))
      found (Some c) e = lawful id text c e
      found None e = syntax-words (unwrap_or (fault id text) syntax.UnknownCommand)

  pub outcome-feedless : (position : Position) (id : List ℕ) (group : Option (List ℕ)) (text : List ℕ) → IsFeedlessState position.image.state → IsFeedless id → IfSome group IsFeedless
      → IsFeedlessOutcome (outcome position id group text)
  outcome-feedless position id group text are i k = outcome-read position id group text are.rows i k (command-read id text)

-- No line feed stands in what a line of requests names, its ACEE, class and resource, nor in the words of its refusal.
use Rattle.std.proofs.Common.{◌≡◌, ℕ, List, [], ◌∷◌, Option, None, Some, Result, Ok, Err, refl, bytes_eq, codes}
use Rattle.std.specs.Prelude.{nat_eq, nat_lt, IfSome, IfOk, length}
use Rattle.std.specs.List.{starts_with}
use Rattle.std.specs.Result.{result_map_both}
use Rattle.access_levels.specs.Spelling.{id_of, group_of, port_class_of}
use Rattle.access_levels.specs.declared.levels.Level.{Level}
use Rattle.generic_names.specs.declared.kind.NameKind.{NameKind}
use Rattle.generic_names.specs.Spelled.{Spelled}
use Rattle.generic_names.specs.Faults.{resource_of}
use Rattle.generic_names.specs.declared.fault.NameFault.{NameFault}
use Rattle.generic_names.specs.declared.fault.NameFault.TheVariants as name
use Rattle.racf_profiles.specs.LawfulProfiles.{kind_in}
use Rattle.acee.specs.declared.request.VerifyFault.{VerifyFault}
use Rattle.acee.specs.declared.request.VerifyFault.TheVariants as verify
use Rattle.command_words.specs.LineWords.{LineWord, UnreadLine, line_at}
use Rattle.request_files.specs.declared.line.LineRefusal.{LineRefusal}
use Rattle.request_files.specs.declared.line.LineRefusal.TheVariants.{BadLine, NoAcee, AceeExists, AceesFull, BadName, LineTooLong}
use Rattle.command_values.specs.NamedWords.{id_named, group_named}
use Rattle.request_files.specs.declared.issuer_line.NamedIssuer.{NamedIssuer}
use Rattle.request_files.specs.Spellings.{folded, name_word, level_word, key_of, value_of, port_at, keyed, operand_word}
use Rattle.request_files.specs.IssuerLines.{group_in, group_word, with_group, issuer_by, issuer_behind, issuer_of_line}
use Rattle.request_files.specs.Grammar.{
  Access,
  Asked,
  Line,
  Verify,
  Auth,
  Fastauth,
  Delete,
  After,
  Skip,
  ◌>>=◌,
  fits,
  next_of,
  next,
  ended,
  deleted,
  number_after,
  access_to,
  asked_by,
  verified_by,
  user_alone,
  with_words,
  made,
  named,
  accessed,
  verify_line,
  request_by,
  request_of,
  requested,
  longest_line,
  read,
}
use Rattle.request_files.specs.Answers.{name_fault_words, refusal_words, verify_fault_words}
use Rattle.audit_records.specs.Feedless.{IsFeedless}
use Rattle.audit_records.proofs.Feedless.{decimal-feedless, read_id-feedless, read_group-feedless, either, always, if-map, if-then, if-ok}
use Rattle.audit_records.proofs.FeedlessNames.{resource_name-feedless}
use Rattle.request_files.specs.OneLine.{IsFeedlessNamed}

-- ---- what a line names
pub record IsFeedlessAccess (access : Access) : Type 0 where
  pub class : IsFeedless access.class
  pub name : IsFeedless access.name.text

abbrev pub IsFeedlessLine : Line → Type 0
IsFeedlessLine (Verify acee request) = IsFeedless acee
IsFeedlessLine (Auth acee access) = IsFeedless acee × IsFeedlessAccess access
IsFeedlessLine (Fastauth acee access) = IsFeedless acee × IsFeedlessAccess access
IsFeedlessLine (Delete acee) = IsFeedless acee
IsFeedlessLine (After number) = Unit {0}
IsFeedlessLine Skip = Unit {0}

abbrev pub IsFeedlessRefusal : LineRefusal → Type 0
IsFeedlessRefusal (BadLine place) = Unit {0}
IsFeedlessRefusal (NoAcee acee) = IsFeedless acee
IsFeedlessRefusal (AceeExists acee) = IsFeedless acee
IsFeedlessRefusal AceesFull = Unit {0}
IsFeedlessRefusal (BadName acee fault) = IsFeedless acee
IsFeedlessRefusal LineTooLong = Unit {0}

abbrev pub IsFeedlessRead : Result Line LineRefusal → Type 0
IsFeedlessRead (Ok line) = IsFeedlessLine line
IsFeedlessRead (Err why) = IsFeedlessRefusal why

bound : {A B : Type 0} (P : A → Type 0) (Q : B → Type 0) (r : Result A ℕ) (f : A → Result B ℕ) → IfOk r P → ((a : A) → P a → IfOk (f a) Q) → IfOk (r >>= f) Q
bound P Q (Ok a) f h is = is a h
bound P Q (Err place) f h is = tt

any : {A : Type 0} (r : Result A ℕ) → IfOk r (λ a. Unit {0})
any (Ok a) = tt
any (Err place) = tt

fitted : (o : Option (List ℕ)) (place : ℕ) → IfSome o IsFeedless → IfOk (fits o place) IsFeedless
fitted None place h = tt
fitted (Some id) place h = h

all-said : {X : Type 0} (P : X → Type 0) (words : List LineWord) (said : X) → P said → IfOk (ended words said) P
all-said P [] said h = h
all-said P (word ∷ words) said h = tt

abbrev IsFeedlessSaid : List ℕ × UnreadLine → Type 0
IsFeedlessSaid said = IsFeedless said.0

next-id : (unread : UnreadLine) → IfOk (next id_named unread) IsFeedlessSaid
unfolding next
next-id unread = by unread.words
  where
    by : (words : List LineWord) → IfOk (next_of id_named words unread.end) IsFeedlessSaid
    by [] = tt
    by (word ∷ words) =
        bound IsFeedless IsFeedlessSaid (fits (id_named word.text) word.place) (λ said. Ok (said, record { words = words; end = unread.end }))
        (fitted (id_named word.text) word.place (if-ok IsFeedless (id_of (folded word.text)) (λ id h. read_id-feedless (folded word.text) id h))) (λ said h. h)

key-feedless : (key value : List ℕ) → IfSome (keyed key value) (λ word. IfSome (group_in word) IsFeedless)
key-feedless key value =
    either (λ o. IfSome o (λ word. IfSome (group_in word) IsFeedless)) (bytes_eq key (codes "GROUP")) _ _
    (if-map (λ word. IfSome (group_in word) IsFeedless) _ (group_named value) (if-ok IsFeedless (group_of (folded value)) (λ group h. read_group-feedless (folded value) group h)))
    (either (λ o. IfSome o (λ word. IfSome (group_in word) IsFeedless)) (bytes_eq key (codes "APPL")) _ _
    (if-map (λ word. IfSome (group_in word) IsFeedless) _ (id_named value) (always (id_named value) tt))
    (either (λ o. IfSome o (λ word. IfSome (group_in word) IsFeedless)) (bytes_eq key (codes "SECLABEL")) _ _
    (if-map (λ word. IfSome (group_in word) IsFeedless) _ (id_named value) (always (id_named value) tt))
    (if-then (λ class. Unit {0}) (λ word. IfSome (group_in word) IsFeedless) (port_at value)
    (λ class _. if-map (λ word. IfSome (group_in word) IsFeedless) _ (id_named value) (always (id_named value) tt)) (port_class_of key) (always (port_class_of key) tt))))

group-feedless : (text : List ℕ) → IfSome (group_word text) IsFeedless
group-feedless text =
    if-then (λ word. IfSome (group_in word) IsFeedless) IsFeedless group_in (λ word h. h) (operand_word text)
    (if-then (λ value. Unit {0}) (λ word. IfSome (group_in word) IsFeedless) (keyed (key_of text)) (λ value _. key-feedless (key_of text) value) (value_of text) (always (value_of text) tt))

with_group-feedless : (id : List ℕ) (words : List LineWord) → IsFeedless id → IfOk (with_group id words) IsFeedlessNamed
with_group-feedless id [] h = record { id = h; group = tt }
with_group-feedless id (word ∷ words) h =
    bound IsFeedless IsFeedlessNamed (fits (group_word word.text) word.place) (λ group. ended words record { id = id; group = Some group }) (fitted (group_word word.text) word.place (group-feedless word.text))
    (λ group k. all-said IsFeedlessNamed words (record { id = id; group = Some group }) (record { id = h; group = k }))

issuer_by-feedless : (unread : UnreadLine) → IfOk (issuer_by unread) IsFeedlessNamed
unfolding issuer_by
issuer_by-feedless unread =
    bound IsFeedlessSaid IsFeedlessNamed (next id_named unread) (λ id. with_group id.0 id.1.words) (next-id unread) (λ id h. with_group-feedless id.0 id.1.words h)

issuer_behind-feedless : (words : List LineWord) (end : ℕ) → IfOk (issuer_behind words end) IsFeedlessNamed
issuer_behind-feedless [] end = tt
issuer_behind-feedless (verb ∷ words) end = issuer_by-feedless (record { words = words; end = end })

told-place : (r : Result NamedIssuer ℕ) → IfOk r IsFeedlessNamed → IfOk (result_map_both (λ (issuer : NamedIssuer). issuer) BadLine r) IsFeedlessNamed
told-place (Ok issuer) h = h
told-place (Err place) h = tt

pub issuer-feedless : (bytes : List ℕ) → IfOk (issuer_of_line bytes) IsFeedlessNamed
unfolding issuer_of_line
issuer-feedless bytes =
    let unread = line_at 1 bytes in
    either (λ r. IfOk r IsFeedlessNamed) (nat_lt longest_line (length bytes)) (Err LineTooLong) _ tt (told-place (issuer_behind unread.words unread.end) (issuer_behind-feedless unread.words unread.end))

deleted-feedless : (unread : UnreadLine) → IfOk (deleted unread) IsFeedless
unfolding deleted
deleted-feedless unread =
    bound IsFeedlessSaid IsFeedless (next id_named unread) (λ acee. ended acee.1.words acee.0) (next-id unread) (λ acee h. all-said IsFeedless acee.1.words acee.0 h)

record IsFeedlessAsked (asked : Asked) : Type 0 where
  acee : IsFeedless asked.acee
  access : IfOk asked.access IsFeedlessAccess

abbrev IsFeedlessNameSaid : Result Spelled NameFault × UnreadLine → Type 0
IsFeedlessNameSaid said = IfOk said.0 (λ (name : Spelled). IsFeedless name.text)

resource-feedless : (kind : NameKind) (text : List ℕ) (read : Result Spelled NameFault) → resource_of kind text ≡ read → IfOk read (λ (name : Spelled). IsFeedless name.text)
resource-feedless kind text (Ok name) is = resource_name-feedless kind text name is
resource-feedless kind text (Err fault) is = tt

next-name : (kind : NameKind) (unread : UnreadLine) → IfOk (next (name_word kind) unread) IsFeedlessNameSaid
unfolding next
next-name kind unread = by unread.words
  where
    by : (words : List LineWord) → IfOk (next_of (name_word kind) words unread.end) IsFeedlessNameSaid
    by [] = tt
    by (word ∷ words) = resource-feedless kind (folded word.text) (resource_of kind (folded word.text)) refl

access-feedless : (class : List ℕ) (level : Level) (name : Result Spelled NameFault) → IsFeedless class → IfOk name (λ (name : Spelled). IsFeedless name.text) → IfOk (access_to class level name) IsFeedlessAccess
access-feedless class level (Ok name) h k = record { class = h; name = k }
access-feedless class level (Err fault) h k = tt

asked-feedless : (unread : UnreadLine) → IfOk (asked_by unread) IsFeedlessAsked
unfolding asked_by
asked-feedless unread =
    bound IsFeedlessSaid IsFeedlessAsked (next id_named unread) _ (next-id unread)
    (λ acee h. bound IsFeedlessSaid IsFeedlessAsked (next id_named acee.1) _ (next-id acee.1)
    (λ class i. bound IsFeedlessNameSaid IsFeedlessAsked (next (name_word (kind_in class.0)) class.1) _ (next-name (kind_in class.0) class.1)
    (λ name k. bound (λ level. Unit {0}) IsFeedlessAsked (next level_word name.1) _ (any (next level_word name.1))
    (λ level _. all-said IsFeedlessAsked level.1.words _ (record { acee = h; access = access-feedless class.0 level.0 name.0 i k })))))

verified-feedless : (unread : UnreadLine) → IfOk (verified_by unread) (λ verified. IsFeedlessLine (verify_line verified))
unfolding verified_by
verified-feedless unread =
    bound IsFeedlessSaid (λ verified. IsFeedlessLine (verify_line verified)) (next id_named unread) _ (next-id unread)
    (λ acee h. bound (λ user. Unit {0}) (λ verified. IsFeedlessLine (verify_line verified)) (next id_named acee.1) _ (any (next id_named acee.1))
    (λ user _. bound (λ request. Unit {0}) (λ verified. IsFeedlessLine (verify_line verified)) (with_words (user_alone user.0) user.1.words) _ (any (with_words (user_alone user.0) user.1.words))
    (λ request _. h)))

made-feedless : {X : Type 0} (P : X → Type 0) (line_for : X → Line) → ((x : X) → P x → IsFeedlessLine (line_for x)) → (r : Result X ℕ) → IfOk r P → IsFeedlessRead (made line_for r)
made-feedless P line_for is (Ok said) h = is said h
made-feedless P line_for is (Err place) h = tt

named-feedless : (line_for : Access → Line) (acee : List ℕ) → ((access : Access) → IsFeedlessAccess access → IsFeedlessLine (line_for access)) → IsFeedless acee → (access : Result Access NameFault) → IfOk access IsFeedlessAccess → IsFeedlessRead (named line_for acee access)
named-feedless line_for acee is h (Ok access) k = is access k
named-feedless line_for acee is h (Err fault) k = h

accessed-feedless : (line_for : List ℕ → Access → Line) → ((acee : List ℕ) (access : Access) → IsFeedless acee → IsFeedlessAccess access → IsFeedlessLine (line_for acee access)) → (r : Result Asked ℕ) → IfOk r IsFeedlessAsked → IsFeedlessRead (accessed line_for r)
accessed-feedless line_for is (Ok asked) h = named-feedless (line_for asked.acee) asked.acee (λ access k. is asked.acee access h.acee k) h.acee asked.access h.access
accessed-feedless line_for is (Err place) h = tt

request-feedless : (verb : List ℕ) (place : ℕ) (unread : UnreadLine) → IsFeedlessRead (request_by verb place unread)
request-feedless verb place unread =
    either IsFeedlessRead (bytes_eq verb (codes "VERIFY")) _ _ (made-feedless (λ verified. IsFeedlessLine (verify_line verified)) verify_line (λ verified h. h) (verified_by unread) (verified-feedless unread))
    (either IsFeedlessRead (bytes_eq verb (codes "AUTH")) _ _ (accessed-feedless Auth (λ acee access h k. (h, k)) (asked_by unread) (asked-feedless unread))
    (either IsFeedlessRead (bytes_eq verb (codes "FASTAUTH")) _ _ (accessed-feedless Fastauth (λ acee access h k. (h, k)) (asked_by unread) (asked-feedless unread))
    (either IsFeedlessRead (bytes_eq verb (codes "DELETE")) _ _ (made-feedless IsFeedless Delete (λ acee h. h) (deleted unread) (deleted-feedless unread))
    (either IsFeedlessRead (bytes_eq verb (codes "*AFTER")) _ _ (made-feedless (λ number. Unit {0}) After (λ number h. tt) (number_after unread) (any (number_after unread))) tt))))

line-feedless : (unread : UnreadLine) → IsFeedlessRead (requested unread)
unfolding requested
line-feedless unread = by unread.words
  where
    by : (words : List LineWord) → IsFeedlessRead (request_of words unread.end)
    by [] = tt
    by (verb ∷ words) = request-feedless (folded verb.text) verb.place (record { words = words; end = unread.end })

pub read-feedless : (bytes : List ℕ) → IsFeedlessRead (read bytes)
unfolding read
read-feedless bytes =
    either IsFeedlessRead (nat_lt longest_line (length bytes)) (Err LineTooLong) _ tt
    (either IsFeedlessRead (starts_with nat_eq bytes (codes "/*")) (Ok Skip) (requested (line_at 1 bytes)) tt (line-feedless (line_at 1 bytes)))

-- ---- the words
fault-words : (fault : NameFault) → IsFeedless (name_fault_words fault)
fault-words name.Empty = refl
fault-words name.TooLong = refl
fault-words (name.EmptyQualifier number) = decimal-feedless number
fault-words (name.QualifierTooLong number) = decimal-feedless number
fault-words (name.BadByte place) = decimal-feedless place
fault-words (name.StarInside place) = decimal-feedless place
fault-words name.GenericFirst = refl

pub refusal-words : (why : LineRefusal) → IsFeedlessRefusal why → IsFeedless (refusal_words why)
refusal-words (BadLine place) h = decimal-feedless place
refusal-words (NoAcee acee) h = h
refusal-words (AceeExists acee) h = h
refusal-words AceesFull h = refl
refusal-words (BadName acee fault) h = fault-words fault
refusal-words LineTooLong h = refl

pub verify-words : (fault : VerifyFault) → IsFeedless (verify_fault_words fault)
verify-words verify.NotDefined = refl
verify-words other = refl

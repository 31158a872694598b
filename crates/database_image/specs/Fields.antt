-- The fields of an image: identifiers, ranks, sets of categories, flags.
use Rattle.std.specs.Prelude.{ℕ, ◌==◌, ◌/◌, ◌%◌, ◌-◌, nat_lt, nat_le, Bool, true, false, not, List, [], ◌∷◌, ◌++◌, length, replicate, Option, Some, None, option_map, is_ok, bytes_eq, codes, if◌then◌else◌}
use Rattle.std.specs.List.{find, before_first, list_any}
use Rattle.byteorder.specs.Endian.{big_number, little_bytes, little_number}
use Rattle.access_levels.specs.Spelling.{id_of, group_of}
use Rattle.access_levels.specs.declared.entries.Who.{Who}
use Rattle.access_levels.specs.declared.entries.Who.TheVariants.{Star, Named}
use Rattle.database_image.specs.Forms.{Form, Spelling, field}

-- ---- what numbers are lawful
abbrev pub any : {A : Type 0} → A → Bool
any x = true

abbrev pub below : ℕ → ℕ → Bool
below limit n = nat_lt n limit

abbrev pub at_most : ℕ → ℕ → Bool
at_most limit n = nat_le n limit

-- ---- identifiers: eight bytes, with blanks behind the spelling
abbrev pub filled : List ℕ → List ℕ
filled text = text ++ replicate (8 - length text) 32

abbrev pub is_blank : ℕ → Bool
is_blank byte = byte == 32

-- What stands before the first blank, where nothing but blanks stands behind it.
abbrev pub front : List ℕ → List ℕ
front bytes = before_first is_blank bytes

abbrev pub text_in : List ℕ → Option (List ℕ)
text_in bytes = if bytes_eq (filled (front bytes)) bytes then Some (front bytes) else None

abbrev pub of_text : {A : Type 0} → (List ℕ → Option A) → Option (List ℕ) → Option A
of_text value None = None
of_text value (Some text) = value text

abbrev pub filled_spelling : {A : Type 0} → (A → List ℕ) → (List ℕ → Option A) → Spelling A
filled_spelling text value = record { width = 8; spelled = λ x. filled (text x); value = λ bytes. of_text value (text_in bytes) }

-- any identifier, and the name of a group
abbrev pub id_text : List ℕ → Option (List ℕ)
id_text text = if is_ok (id_of text) then Some text else None

abbrev pub group_text : List ℕ → Option (List ℕ)
group_text text = if is_ok (group_of text) then Some text else None

abbrev pub itself : List ℕ → List ℕ
itself text = text

abbrev pub id : (List ℕ → Bool) → Form (List ℕ)
id is_lawful = field (filled_spelling itself id_text) is_lawful

abbrev pub group_name : (List ℕ → Bool) → Form (List ℕ)
group_name is_lawful = field (filled_spelling itself group_text) is_lawful

-- one that may be left out: then all are blanks
abbrev pub text_or_none : Option (List ℕ) → List ℕ
text_or_none None = []
text_or_none (Some text) = text

abbrev pub unless_blank : (List ℕ → Option (List ℕ)) → List ℕ → Option (Option (List ℕ))
unless_blank value [] = Some None
unless_blank value (byte ∷ text) = option_map Some (value (byte ∷ text))

abbrev pub label : Form (Option (List ℕ))
label = field (filled_spelling text_or_none (unless_blank id_text)) any

abbrev pub group_or_none : (Option (List ℕ) → Bool) → Form (Option (List ℕ))
group_or_none is_lawful = field (filled_spelling text_or_none (unless_blank group_text)) is_lawful

-- whom an entry speaks of
abbrev pub who_text : Who → List ℕ
who_text Star = codes "*"
who_text (Named id) = id

abbrev pub who_of : List ℕ → Option Who
who_of text = if bytes_eq text (codes "*") then Some Star else option_map Named (id_text text)

abbrev pub who : (Who → Bool) → Form Who
who is_lawful = field (filled_spelling who_text who_of) is_lawful

-- ---- one of these values, by its rank: one byte
abbrev pub rank_spelling : {A : Type 0} → (A → ℕ) → List A → Spelling A
rank_spelling rank values = record { width = 1; spelled = λ x. rank x ∷ []; value = λ bytes. find (λ x. rank x == big_number 1 bytes) values }

abbrev pub ranked : {A : Type 0} → (A → ℕ) → List A → Form A
ranked rank values = field (rank_spelling rank values) any

-- ---- a set of categories: 32 bytes, of which the first has the numbers 0 to 7, and the lowest bit the lowest of them
abbrev pub set_spelling : Spelling ℕ
set_spelling = record { width = 32; spelled = little_bytes 32; value = λ bytes. Some (little_number 32 bytes) }

abbrev pub category_set : (ℕ → Bool) → Form ℕ
category_set is_lawful = field set_spelling is_lawful

-- ---- so many bytes of text
abbrev pub text_spelling : {A : Type 0} → (A → List ℕ) → (List ℕ → Option A) → ℕ → Spelling A
text_spelling text value width = record { width = width; spelled = text; value = value }

-- ---- flags: a number, in which each has a bit
abbrev pub bit : ℕ → Bool → ℕ
bit value true = value
bit value false = 0

abbrev pub is_set : ℕ → ℕ → Bool
is_set flags value = flags / value % 2 == 1

-- ---- names that stood before
abbrev pub is_new : List (List ℕ) → List ℕ → Bool
is_new before name = not (list_any (bytes_eq name) before)

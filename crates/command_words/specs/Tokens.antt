-- The words and values of a text, each with its place. Places count the bytes of the command's text from 1.
use Rattle.std.specs.Prelude.{◌≡◌, ℕ, ◌+◌, ◌-◌, zero, suc, List, [], ◌∷◌, Bool, true, false, ◌&&◌, not, ◌==◌, if◌then◌else◌, Result, Ok, Err, take, length, ◌<◌, ◌^◌}
use Rattle.command_words.specs.declared.quoting.Quoting.{Quoting}
use Rattle.command_words.specs.declared.quoting.Quoting.TheVariants.{Ignored, Outside, Inside, Met, BeforeName, AtName, InName}
use Rattle.command_words.specs.Bytes.{is_blank_byte, is_gap_byte}
use Rattle.command_words.specs.Quotes.{after, hides, next_word, word_len}

-- A text that is still to be read: how quotes count at the front of its words, whether it begins behind a word with
-- nothing but blanks and tabs between, the place of its first byte, and its bytes.
pub record Unread : Type 0 where
  pub quoting : Quoting
  pub tied : Bool
  pub place : ℕ
  pub bytes : List ℕ

-- what stands inside the parenthesis at place p
abbrev pub within : ℕ → List ℕ → Unread
within p bytes = record { quoting = Outside; tied = false; place = suc p; bytes = bytes }

-- A word, with its place and its bytes as they were written. A value in parentheses: whether it stands behind a word
-- (with nothing but blanks and tabs between, and within another value with nothing at all), the place of its
-- parenthesis, and what stands inside. A value that nothing closes: the same, and the place of what isn't closed.
-- A closing parenthesis that closes nothing.
pub data Token : Type 0 where
  Word : ℕ → List ℕ → Token
  Group : Bool → ℕ → Unread → Token
  Open : Bool → ℕ → ℕ → Token
  Close : ℕ → Token

-- how many parentheses are open inside a value behind the byte b
abbrev pub depth_after : Quoting → ℕ → ℕ → ℕ
depth_after q b depth = if hides q then depth else if b == 40 then suc depth else if b == 41 then depth - 1 else depth

-- what isn't closed at the end of the text: the quotes that are open, else the outermost parenthesis
abbrev pub unclosed : Quoting → ℕ → ℕ
unclosed Ignored outer = outer
unclosed Outside outer = outer
unclosed (Inside q) outer = q
unclosed (Met q) outer = outer
unclosed BeforeName outer = outer
unclosed AtName outer = outer
unclosed (InName q) outer = q

-- The place of the parenthesis that closes the one at the place outer, or the place of what isn't closed.
abbrev pub group_end : ℕ → Quoting → ℕ → ℕ → List ℕ → Result ℕ ℕ
group_end outer q depth p [] = Err (unclosed q outer)
group_end outer q depth p (b ∷ bs) =
    if not (hides q) && b == 41 && depth == 0 then Ok p
    else group_end outer (after q p b) (depth_after q b depth) (suc p) bs

-- a value that is bounded at the place end, and what follows its closing parenthesis; or one that isn't bounded
abbrev pub grouped : Result ℕ ℕ → Bool → ℕ → List ℕ → (ℕ → List Token) → List Token
grouped (Ok end) tied p bs rest = Group tied p (within p (take (end - suc p) bs)) ∷ rest (end - p)
grouped (Err place) tied p bs rest = Open tied p place ∷ []

-- a word that begins with b and goes on for k bytes, and what follows it
abbrev pub worded : ℕ → ℕ → ℕ → List ℕ → (ℕ → List Token) → List Token
worded k b p bs rest = Word p (b ∷ take k bs) ∷ rest k

-- whether a value behind the byte b, which parts words, would still be that of the word in front
abbrev pub stays_tied : Quoting → Bool → ℕ → Bool
stays_tied Ignored tied b = tied && is_blank_byte b
stays_tied Outside tied b = false
stays_tied (Inside q) tied b = false
stays_tied (Met q) tied b = false
stays_tied BeforeName tied b = tied && is_blank_byte b
stays_tied AtName tied b = tied && is_blank_byte b
stays_tied (InName q) tied b = false

-- The tokens of a text from the left. The number says how many bytes still belong to the token in front.
abbrev pub tokens_from : Quoting → Bool → ℕ → ℕ → List ℕ → List Token
tokens_from q tied skip p [] = []
tokens_from q tied (suc k) p (b ∷ bs) = tokens_from q tied k (suc p) bs
tokens_from q tied zero p (b ∷ bs) =
    if is_gap_byte b then tokens_from q (stays_tied q tied b) zero (suc p) bs
    else if b == 41 then Close p ∷ tokens_from (next_word q) false zero (suc p) bs
    else if b == 40 then grouped (group_end p Outside 0 (suc p) bs) tied p bs (λ k. tokens_from (next_word q) false k (suc p) bs)
    else worded (word_len (after q p b) (suc p) bs) b p bs (λ k. tokens_from (next_word q) true k (suc p) bs)

unfoldable pub tokens : Unread → List Token
tokens t = tokens_from t.quoting t.tied 0 t.place t.bytes

-- the text of a command
abbrev pub of_command : List ℕ → Unread
of_command bytes = record { quoting = Ignored; tied = false; place = 1; bytes = bytes }

-- the text of a command, whose second word may be a name in quotes
abbrev pub of_naming_command : List ℕ → Unread
of_naming_command bytes = record { quoting = BeforeName; tied = false; place = 1; bytes = bytes }

-- a word that begins with b at place p, and the tokens behind it
abbrev pub word_then : Quoting → ℕ → ℕ → List ℕ → List Token
word_then q b p bs = worded (word_len (after q p b) (suc p) bs) b p bs (λ k. tokens_from (next_word q) true k (suc p) bs)

-- no byte that parts words stands in front
abbrev pub BeginsWithNoGap : List ℕ → Type 0
BeginsWithNoGap [] = Unit {0}
BeginsWithNoGap (b ∷ bs) = is_gap_byte b ≡ false

-- a word ends within the places that the code counts
abbrev pub IsInReach : Token → Type 0
IsInReach (Word p w) = p + length w < 2 ^ 30
IsInReach (Group tied p t) = Unit {0}
IsInReach (Open tied p place) = Unit {0}
IsInReach (Close p) = Unit {0}

-- How quotes hide bytes: between two quotes blanks, commas and parentheses part nothing. In a value a quote that is
-- written twice between them closes nothing; of a name in quotes the next quote is the closing one.
use Rattle.std.specs.Prelude.{ℕ, suc, List, [], ◌∷◌, Bool, true, false, ◌||◌, ◌==◌, if◌then◌else◌}
use Rattle.command_words.specs.declared.quoting.Quoting.{Quoting}
use Rattle.command_words.specs.declared.quoting.Quoting.TheVariants.{Ignored, Outside, Inside, Met, BeforeName, AtName, InName}
use Rattle.command_words.specs.Bytes.{is_word_byte}

-- how the byte behind b, which stands at place p, stands to quotes
abbrev pub after : Quoting → ℕ → ℕ → Quoting
after Ignored p b = Ignored
after Outside p b = if b == 39 then Inside p else Outside
after (Inside q) p b = if b == 39 then Met q else Inside q
after (Met q) p b = if b == 39 then Inside q else Outside
after BeforeName p b = BeforeName
after AtName p b = if b == 39 then InName p else Ignored
after (InName q) p b = if b == 39 then Ignored else InName q

-- whether a byte that stands so is hidden
abbrev pub hides : Quoting → Bool
hides Ignored = false
hides Outside = false
hides (Inside q) = true
hides (Met q) = false
hides BeforeName = false
hides AtName = false
hides (InName q) = true

-- how quotes count at the front of the next word: the one behind the first may be a name in quotes, and none behind
-- that
abbrev pub next_word : Quoting → Quoting
next_word BeforeName = AtName
next_word AtName = Ignored
next_word q = q

-- how many bytes, from the front on, still belong to a word
abbrev pub word_len : Quoting → ℕ → List ℕ → ℕ
word_len q p [] = 0
word_len q p (b ∷ bs) = if hides q || is_word_byte b then suc (word_len (after q p b) (suc p) bs) else 0

-- a text as it stands between quotes, each quote twice
abbrev pub doubled : List ℕ → List ℕ
doubled [] = []
doubled (b ∷ bs) = if b == 39 then 39 ∷ (39 ∷ doubled bs) else b ∷ doubled bs

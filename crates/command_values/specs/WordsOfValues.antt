-- The words of a value: each is refused at its first faulty byte before it is judged.
use Rattle.std.specs.Prelude.{ℕ, ◌==◌, Bool, false, if◌then◌else◌, List, [], ◌∷◌, unwrap_or, Option, None, Some, Result, Ok, Err}
use Rattle.command_words.specs.declared.quoting.Quoting.{Quoting}
use Rattle.command_words.specs.declared.quoting.Quoting.TheVariants.{Outside}
use Rattle.command_words.specs.ValuedWords.{ValuedWord, Alone, Valued, Unclosed, Parenthesis, faulty_at}
use Rattle.command_values.specs.declared.faults.Syntax.{Syntax}
use Rattle.command_values.specs.declared.faults.Syntax.TheVariants as faults
use Rattle.command_values.specs.Results.{◌>>=◌}

-- Where quotes count, a word that begins with one is a text in quotes: whatever stands in it, it is judged as a whole.
abbrev pub begins_with_quote : List ℕ → Bool
begins_with_quote [] = false
begins_with_quote (b ∷ w) = b == 39

abbrev pub is_in_quotes : Quoting → List ℕ → Bool
is_in_quotes Outside w = begins_with_quote w
is_in_quotes q w = false

-- The first faulty byte of any other word that begins at p.
abbrev pub fault_in : Quoting → ℕ → List ℕ → Option ℕ
fault_in q p w = if is_in_quotes q w then None else faulty_at q p w

-- A word with a faulty byte is refused at that byte before it is judged.
abbrev pub clean_if : Option ℕ → List ℕ → Result (List ℕ) Syntax
clean_if None w = Ok w
clean_if (Some place) w = Err (faults.BadValue place)

abbrev pub clean : Quoting → ℕ → List ℕ → Result (List ℕ) Syntax
clean q p w = clean_if (fault_in q p w) w

-- where an item is refused: at its first faulty byte, else where it begins
abbrev pub refused_at : Quoting → ValuedWord → ℕ
refused_at q (Alone p w) = unwrap_or (fault_in q p w) p
refused_at q (Valued p w t) = unwrap_or (fault_in q p w) p
refused_at q (Unclosed p w place) = unwrap_or (fault_in q p w) p
refused_at q (Parenthesis p) = p

-- a word of a value, which has no value of its own, with its place
abbrev pub word_of : Quoting → ValuedWord → Result (ℕ × List ℕ) Syntax
word_of q (Alone p w) = clean q p w >>= λ w. Ok (p, w)
word_of q (Valued p w t) = Err (faults.BadValue (refused_at q (Valued p w t)))
word_of q (Unclosed p w place) = Err (faults.BadValue (refused_at q (Unclosed p w place)))
word_of q (Parenthesis p) = Err (faults.BadValue p)

-- behind a value of one word nothing may stand
abbrev pub stray : Quoting → List ValuedWord → Option ℕ
stray q [] = None
stray q (i ∷ is) = Some (refused_at q i)

abbrev pub unless_stray : {A : Type 0} → Option ℕ → A → Result A Syntax
unless_stray None v = Ok v
unless_stray (Some place) v = Err (faults.BadValue place)

-- the word of a value of one word, its place, and the place of what stands behind it; where there is none it is refused
-- at place p
abbrev pub held : Quoting → ℕ → List ValuedWord → Result (ℕ × List ℕ × Option ℕ) Syntax
held q p [] = Err (faults.BadValue p)
held q p (i ∷ is) = word_of q i >>= λ w. Ok (w.0, w.1, stray q is)

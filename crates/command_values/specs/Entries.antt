-- Whose entries PERMIT means, and at which port of entry.
use Rattle.std.specs.Prelude.{ℕ, List, [], ◌∷◌, ◌++◌, codes, Result, Ok, Err}
use Rattle.access_levels.specs.declared.entries.Who.{Who}
use Rattle.access_levels.specs.declared.entries.Who.TheVariants.{Star, Named}
use Rattle.access_levels.specs.declared.entries.Condition.{Condition}
use Rattle.access_levels.specs.Level.{port_class_name}
use Rattle.command_words.specs.declared.quoting.Quoting.TheVariants.{Ignored}
use Rattle.command_words.specs.Tokens.{tokens}
use Rattle.command_words.specs.ValuedWords.{ValuedWord, Alone, Valued, Unclosed, Parenthesis, valued_words}
use Rattle.command_values.specs.declared.faults.Syntax.{Syntax}
use Rattle.command_values.specs.declared.faults.Syntax.TheVariants as faults
use Rattle.command_values.specs.Results.{◌>>=◌, or_fault}
use Rattle.command_values.specs.NamedWords.{id_named, port_class_named}
use Rattle.command_values.specs.WordsOfValues.{clean, refused_at, stray, held, unless_stray}

abbrev pub star_alone : List Who
star_alone = Star ∷ []

-- how users and groups are written, `*` for everyone
abbrev pub who_text : Who → List ℕ
who_text Star = codes "*"
who_text (Named x) = x

abbrev pub more_whos_text : List Who → List ℕ
more_whos_text [] = []
more_whos_text (w ∷ ws) = 32 ∷ (who_text w ++ more_whos_text ws)

abbrev pub whos_text : List Who → List ℕ
whos_text [] = []
whos_text (w ∷ ws) = who_text w ++ more_whos_text ws

-- the name of the port, in the parentheses behind the class at place p
abbrev pub port_name : ℕ → List ValuedWord → Result (List ℕ) Syntax
port_name p is = held Ignored p is >>= λ h. or_fault (id_named h.1) (faults.BadValue h.0) >>= λ x. unless_stray h.2 x

abbrev pub port_of : ValuedWord → Result Condition Syntax
port_of (Valued p w t) = clean Ignored p w >>= λ w. or_fault (port_class_named w) (faults.BadValue p) >>= λ c. port_name p (valued_words (tokens t)) >>= λ x. Ok (record { class = c; name = x })
port_of (Alone p w) = Err (faults.BadValue (refused_at Ignored (Alone p w)))
port_of (Unclosed p w place) = Err (faults.BadValue (refused_at Ignored (Unclosed p w place)))
port_of (Parenthesis p) = Err (faults.BadValue p)

-- one port of entry; where there is none it is refused at place p
abbrev pub port : ℕ → List ValuedWord → Result Condition Syntax
port p [] = Err (faults.BadValue p)
port p (i ∷ is) = port_of i >>= λ c. unless_stray (stray Ignored is) c

abbrev pub port_text : Condition → List ℕ
port_text c = port_class_name c.class ++ (40 ∷ (c.name ++ 41 ∷ []))

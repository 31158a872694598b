-- The pieces that the code reads, as tokens.
use Rattle.std.specs.Prelude.{◌≡◌, List, [], ◌∷◌, Option, MatchOption}
use Rattle.command_words.specs.declared.tokens.Piece.{Piece}
use Rattle.command_words.specs.declared.tokens.Piece.TheVariants as piece
use Rattle.command_words.specs.declared.valued_words.ValuedWord as item
use Rattle.command_words.specs.declared.valued_words.ValuedWord.TheVariants as found
use Rattle.command_words.specs.ValuedWords.{ValuedWord, Alone, Valued, Unclosed, Parenthesis}
use Rattle.command_words.specs.Tokens.{Unread, Token, Word, Group, Open, Close, tokens, IsInReach}

abbrev pub seen : Piece → Token
seen (piece.Word p w) = Word p w.now
seen (piece.Group tied p t) = Group tied p t
seen (piece.Open tied p place) = Open tied p place
seen (piece.Close p) = Close p

-- what a list of tokens begins with, and what follows it
abbrev pub PieceAt : Option (Piece × Unread) → List Token → Type 0
PieceAt found ts = MatchOption found (ts ≡ []) (λ t. (ts ≡ seen t.0 ∷ tokens t.1) × IsInReach (seen t.0))

abbrev pub seen_valued : item.ValuedWord → ValuedWord
seen_valued (found.Alone p w) = Alone p w.now
seen_valued (found.Valued p w t) = Valued p w.now t
seen_valued (found.Unclosed p w place) = Unclosed p w.now place
seen_valued (found.Parenthesis p) = Parenthesis p

-- What the reader of lines does at each call.
use Rattle.std.specs.Prelude.{ℕ, ◌+◌, ◌^◌, ◌<◌, ◌≡◌, Bool, true, false, List, [], ◌∷◌, ◌++◌, length, IfSome, Result, Ok, Err}
use Rattle.std.specs.Io.KnownBytes.{prepend_known, IsAtEnd}
use Rattle.racf_outside.specs.Causes.{Rose}
use Rattle.racf_outside.specs.Lines as text
use Rattle.racf_outside.specs.declared.lines.Line.{Line}
use Rattle.racf_outside.specs.declared.lines.Line.TheVariants as line
use Rattle.racf_outside.specs.declared.lines.LineFault.{LineFault}
use Rattle.racf_outside.specs.declared.lines.LineFault.TheVariants.{ReadFault, InputTooLong}
use Rattle.racf_outside.specs.Reader.{Reader}

-- what ended a line: a line feed, or nothing where the input ended
abbrev pub end_of : Bool → List ℕ
end_of false = 10 ∷ []
end_of true = []

-- Where the bytes are told, the lines of what was unread are this one, and then those of what is still unread.
abbrev pub GivesFirst : text.Line → Reader → Reader → Type 0
GivesFirst line old new =
    IfSome old.unread (λ bytes. IfSome new.unread (λ rest. text.lines bytes ≡ line ∷ text.lines rest))

-- A line was taken whose bytes are `raw`, and with them its line feed, or the input's end behind at least one byte.
pub record TakesLine (raw : List ℕ) (old new : Reader) : Type 0 where
  pub begun : old.ended ≡ false
  pub no_feed : text.NoFeed raw
  pub taken : old.unread ≡ prepend_known (raw ++ end_of new.ended) new.unread
  pub counted : new.passed ≡ old.passed + length (raw ++ end_of new.ended)
  pub some : new.ended ≡ true → 0 < length raw
  pub at_end : new.ended ≡ true → IsAtEnd new.unread
  pub first : GivesFirst (text.line_of raw) old new

-- The input has ended, and no line was left.
pub record TakesEnd (old new : Reader) : Type 0 where
  pub ended : new.ended ≡ true
  pub at_end : IsAtEnd new.unread
  pub kept : new.unread ≡ old.unread
  pub counted : new.passed ≡ old.passed
  pub none : IfSome old.unread (λ bytes. text.lines bytes ≡ [])

-- A read failed behind `raw`, the front of a line; nothing that the source gave is held back.
pub record TakesFront (raw : List ℕ) (old new : Reader) : Type 0 where
  pub begun : old.ended ≡ false
  pub no_feed : text.NoFeed raw
  pub taken : old.unread ≡ prepend_known raw new.unread
  pub counted : new.passed ≡ old.passed + length raw
  pub goes_on : new.ended ≡ false
  pub none_held : new.left ≡ new.unread
  pub cause : Rose old.faults new.faults

-- The first 2^28 bytes of the input end with `raw`, the front of a line, and `next` came behind them.
pub record TakesTooMuch (raw : List ℕ) (next : ℕ) (old new : Reader) : Type 0 where
  pub begun : old.ended ≡ false
  pub no_feed : text.NoFeed raw
  pub taken : old.unread ≡ prepend_known (raw ++ next ∷ []) new.unread
  pub limit : old.passed + length raw ≡ 2 ^ 28
  pub counted : new.passed ≡ 2 ^ 28
  pub goes_on : new.ended ≡ false

-- What the next line is, or the end, or the fault in its place.
abbrev pub Nexts : Result Line LineFault → Reader → Reader → Type 0
Nexts (Ok (line.Text shown)) old new =
    (raw : List ℕ) × TakesLine raw old new × (text.line_of raw ≡ text.Text shown.now)
Nexts (Ok line.TooLong) old new = (raw : List ℕ) × TakesLine raw old new × (text.line_of raw ≡ text.TooLong)
Nexts (Ok line.End) old new = TakesEnd old new
Nexts (Err ReadFault) old new = (raw : List ℕ) × TakesFront raw old new
Nexts (Err InputTooLong) old new = (raw : List ℕ) × (next : ℕ) × TakesTooMuch raw next old new

-- How the reader of lines comes to a line: piece by piece.
use Rattle.std.specs.Prelude.{ℕ, ◌+◌, ◌^◌, ◌<◌, ◌≤◌, ◌≡◌, true, false, List, [], ◌∷◌, ◌++◌, length, take, slice_index, IsTrue, Result, Ok, Err}
use Rattle.std.specs.Io.BufRead.{strip_last}
use Rattle.std.specs.Io.KnownBytes.{prepend_known, IsAtEnd}
use Rattle.racf_outside.specs.Causes.{Rose}
use Rattle.racf_outside.specs.Lines as text
use Rattle.racf_outside.specs.Next.{TakesLine, TakesEnd, TakesFront, TakesTooMuch}
use Rattle.racf_outside.specs.Reader.{Reader, has_feed, KeepsSource}
use Rattle.racf_outside.specs.declared.lines.LineFault.{LineFault}
use Rattle.racf_outside.specs.declared.lines.LineFault.TheVariants.{ReadFault, InputTooLong}
use Rattle.racf_outside.specs.declared.scanner.Piece.{Piece}
use Rattle.racf_outside.specs.declared.scanner.Piece.TheVariants as piece
use Rattle.racf_outside.specs.declared.scanner.Found.{Found}
use Rattle.racf_outside.specs.declared.scanner.Found.TheVariants as found
use Rattle.racf_outside.specs.LineBuffer.{Begun, IsBegun}

-- the first line feed of these bytes stands here
pub record IsFirstFeed (bytes : List ℕ) (place : ℕ) : Type 0 where
  pub within : place < length bytes
  pub none_before : text.NoFeed (take place bytes)
  pub here : slice_index bytes place ≡ 10

-- The next line lies whole in the bytes at hand: `size` bytes, and then its line feed.
pub record LiesAtHand (now : Reader) (size : ℕ) : Type 0 where
  pub going : now.ended ≡ false
  pub feed : IsFirstFeed now.held size
  pub fits : size ≤ 4096
  pub within : now.passed + size < 2 ^ 28

-- The line `raw` was taken, which isn't too long, and the source was not read.
pub record TakesHeld (raw : List ℕ) (old new : Reader) : Type 0 where
  pub line : TakesLine raw old new
  pub text : text.line_of raw ≡ text.Text (strip_last 13 raw)
  pub source : KeepsSource old new
  pub within : new.passed ≤ 2 ^ 28

-- The next bytes of a line were taken, at least one, and more of it may come.
pub record TakesMore (raw : List ℕ) (old new : Reader) (line_old line_new : Begun) : Type 0 where
  pub no_feed : text.NoFeed raw
  pub some : 0 < length raw
  pub taken : old.unread ≡ prepend_known raw new.unread
  pub counted : new.passed ≡ old.passed + length raw
  pub goes_on : new.ended ≡ false
  pub text : line_new.text ≡ take 4096 (line_old.text ++ raw)
  pub size : line_new.size ≡ line_old.size + length raw

-- The last bytes of a line were taken, and its line feed.
pub record TakesFeed (raw : List ℕ) (old new : Reader) (line_old line_new : Begun) : Type 0 where
  pub no_feed : text.NoFeed raw
  pub taken : old.unread ≡ prepend_known (raw ++ 10 ∷ []) new.unread
  pub counted : new.passed ≡ old.passed + (length raw + 1)
  pub goes_on : new.ended ≡ false
  pub text : line_new.text ≡ take 4096 (line_old.text ++ raw)
  pub size : line_new.size ≡ line_old.size + length raw

-- The input has ended.
pub record TakesNone (old new : Reader) (line_old line_new : Begun) : Type 0 where
  pub ended : new.ended ≡ true
  pub at_end : IsAtEnd new.unread
  pub kept : new.unread ≡ old.unread
  pub counted : new.passed ≡ old.passed
  pub line : line_new ≡ line_old

-- A read failed; nothing was taken, and nothing that the source gave is held back.
pub record FailsToRead (old new : Reader) : Type 0 where
  pub kept : new.unread ≡ old.unread
  pub counted : new.passed ≡ old.passed
  pub goes_on : new.ended ≡ false
  pub none_held : new.left ≡ new.unread
  pub cause : Rose old.faults new.faults

-- One more byte came behind the first 2^28.
pub record GoesTooFar (next : ℕ) (old new : Reader) : Type 0 where
  pub taken : old.unread ≡ prepend_known (next ∷ []) new.unread
  pub limit : old.passed ≡ 2 ^ 28
  pub counted : new.passed ≡ old.passed
  pub goes_on : new.ended ≡ false

-- what one piece of a line is
abbrev pub Pieces : Result Piece LineFault → Reader → Reader → Begun → Begun → Type 0
Pieces (Ok piece.More) old new line_old line_new = (raw : List ℕ) × TakesMore raw old new line_old line_new
Pieces (Ok piece.Feed) old new line_old line_new = (raw : List ℕ) × TakesFeed raw old new line_old line_new
Pieces (Ok piece.End) old new line_old line_new = TakesNone old new line_old line_new
Pieces (Err ReadFault) old new line_old line_new = FailsToRead old new
Pieces (Err InputTooLong) old new line_old line_new = (next : ℕ) × GoesTooFar next old new

-- what was found: a line, whose text is begun in `line`, or the end, or a fault
abbrev pub Finds : Result Found LineFault → Reader → Reader → Begun → Type 0
Finds (Ok found.Text) old new line =
    (raw : List ℕ) × TakesLine raw old new × (text.line_of raw ≡ text.Text (strip_last 13 line.text))
Finds (Ok found.TooLong) old new line = (raw : List ℕ) × TakesLine raw old new × (text.line_of raw ≡ text.TooLong)
Finds (Ok found.End) old new line = TakesEnd old new
Finds (Err ReadFault) old new line = (raw : List ℕ) × TakesFront raw old new
Finds (Err InputTooLong) old new line = (raw : List ℕ) × (next : ℕ) × TakesTooMuch raw next old new

-- The source was not read, and the end of a line is still at hand.
pub record HoldsOn (old now : Reader) : Type 0 where
  pub still : IsTrue (has_feed now.held)
  pub source : KeepsSource old now

-- The front `raw` of a line has been taken since `old`, and is begun in `line`.
pub record IsScanned (raw : List ℕ) (old now : Reader) (line : Begun) : Type 0 where
  pub was_going : old.ended ≡ false
  pub goes_on : now.ended ≡ false
  pub no_fewer : old.faults ≤ now.faults
  pub within : now.passed ≤ 2 ^ 28
  pub no_feed : text.NoFeed raw
  pub taken : old.unread ≡ prepend_known raw now.unread
  pub counted : now.passed ≡ old.passed + length raw
  pub begun : IsBegun raw line
  pub held : IsTrue (has_feed old.held) → HoldsOn old now

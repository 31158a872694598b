-- What the reading of the next statement does: which bytes it takes from the reader of lines, and what they are.
use Rattle.std.specs.Prelude.{◌≡◌, ℕ, ◌+◌, ◌^◌, ◌<◌, true, false, Option, Result, Ok, Err, List, [], ◌∷◌, ◌++◌, length}
use Rattle.std.specs.Option.{option_to_list}
use Rattle.std.specs.Io.KnownBytes.{prepend_known, IsAtEnd}
use Rattle.racf_outside.specs.Causes.{Rose}
use Rattle.racf_outside.specs.Reader.{Reader}
use Rattle.racf_outside.specs.Next.{TakesEnd}
use Rattle.statements.specs.declared.statement.Kind.{Kind}
use Rattle.statements.specs.declared.statement.Statement.{Statement}
use Rattle.statements.specs.declared.stopping.Stop.{Stop}
use Rattle.statements.specs.declared.stopping.Stop.TheVariants.{End, ReadFault, InputTooLong, NoMemory}
use Rattle.statements.specs.Runs.{Input}
use Rattle.statements.specs.Inputs.{statements_of}

-- The bytes are exactly these statements: whatever comes next, the statements go on with those of what comes.
pub record IsWalked {I : Type 0} (input : Input I) (bytes : List ℕ) (items : List I) : Type 0 where
  pub whole : (more : List ℕ) → input.whole_items (bytes ++ more) ≡ items ++ input.whole_items more
  pub all : (more : List ℕ) → input.items (bytes ++ more) ≡ items ++ input.items more

-- The bytes are the last ones of the input, and exactly these statements.
pub record IsLast {I : Type 0} (input : Input I) (bytes : List ℕ) (items : List I) (unread : Option (List ℕ)) : Type 0 where
  pub all : input.items bytes ≡ items
  pub at_end : IsAtEnd unread

-- Some bytes were taken, which are these statements: nothing comes behind them where the input has ended.
pub record TakesStatements {I : Type 0} (input : Input I) (items : List I) (bytes : List ℕ) (old new : Reader) : Type 0 where
  pub begun : old.ended ≡ false
  pub some : 0 < length bytes
  pub taken : old.unread ≡ prepend_known bytes new.unread
  pub counted : new.passed ≡ old.passed + length bytes
  pub goes_on : new.ended ≡ false → IsWalked input bytes items
  pub last : new.ended ≡ true → IsLast input bytes items new.unread

-- A read failed behind these bytes, in which no statement has ended; nothing that the source gave is held back.
pub record TakesFront {I : Type 0} (input : Input I) (bytes : List ℕ) (old new : Reader) : Type 0 where
  pub begun : old.ended ≡ false
  pub none : input.whole_items bytes ≡ []
  pub taken : old.unread ≡ prepend_known bytes new.unread
  pub none_held : new.left ≡ new.unread
  pub cause : Rose old.faults new.faults

-- The first 2^28 bytes of the input end with these, in which no statement has ended, and one more byte came.
pub record TakesTooMuch {I : Type 0} (input : Input I) (bytes : List ℕ) (next : ℕ) (old new : Reader) : Type 0 where
  pub begun : old.ended ≡ false
  pub none : input.whole_items bytes ≡ []
  pub taken : old.unread ≡ prepend_known (bytes ++ next ∷ []) new.unread
  pub limit : old.passed + length bytes ≡ 2 ^ 28

-- Why no item comes.
abbrev pub Stops : {I : Type 0} → Input I → Stop → Reader → Reader → Type 0
Stops input End old new = TakesEnd old new
Stops input ReadFault old new = (bytes : List ℕ) × TakesFront input bytes old new
Stops input InputTooLong old new = (bytes : List ℕ) × (next : ℕ) × TakesTooMuch input bytes next old new
Stops input NoMemory old new = Unit {0}

-- What the next statement is, or that the next line is skipped, or why no statement comes.
abbrev pub NextsStatement : Kind → Result (Option Statement) Stop → Reader → Reader → Type 0
NextsStatement kind (Ok item) old new = (bytes : List ℕ) × TakesStatements (statements_of kind) (option_to_list item) bytes old new
NextsStatement kind (Err stop) old new = Stops (statements_of kind) stop old new

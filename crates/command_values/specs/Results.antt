-- Reading answers a value, or the first fault.
use Rattle.std.specs.Prelude.{◌≡◌, Option, None, Some, Result, Ok, Err}
use Rattle.command_values.specs.declared.faults.Syntax.{Syntax}
use Rattle.command_values.specs.declared.faults.ParseFault.{ParseFault}
use Rattle.command_values.specs.declared.faults.ParseFault.TheVariants as reasons

infixl 10 ◌>>=◌
abbrev pub ◌>>=◌ : {A B : Type 0} → Result A Syntax → (A → Result B Syntax) → Result B Syntax
(Ok x) >>= f = f x
(Err e) >>= f = Err e

-- the value that there is, or this fault
abbrev pub or_fault : {A : Type 0} → Option A → Syntax → Result A Syntax
or_fault None e = Err e
or_fault (Some x) e = Ok x

-- What a function returned, seen by view, is what reading gives, unless memory ran out.
abbrev pub Fails : {Y : Type 0} → ParseFault → Result Y Syntax → Type 0
Fails (reasons.Syntax e) read = read ≡ Err e
Fails reasons.NoMemory read = Unit {0}

abbrev pub Gives : {X Y : Type 0} → (X → Y) → Result X ParseFault → Result Y Syntax → Type 0
Gives view (Ok x) read = read ≡ Ok (view x)
Gives view (Err e) read = Fails e read

-- the same of a function that takes no memory
abbrev pub Finds : {X Y : Type 0} → (X → Y) → Result X Syntax → Result Y Syntax → Type 0
Finds view (Ok x) read = read ≡ Ok (view x)
Finds view (Err e) read = read ≡ Err e

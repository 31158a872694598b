-- Reading, one field behind another: what was read with the bytes behind it, or the first fault. A fault is told by how
-- many bytes are left where the field begins that has no lawful value.
use Rattle.std.specs.Prelude.{◌≡◌, ℕ, ◌<◌, Bool, List, get_or, length, Result, Ok, Err, if◌then◌else◌}
use Rattle.database_image.specs.declared.faults.ReadFault.{ReadFault}
use Rattle.database_image.specs.declared.faults.ReadFault.TheVariants as faults

-- The numbers of a list of bytes are bytes.
abbrev pub AreBytes : List ℕ → Type 0
AreBytes bytes = (i : ℕ) → get_or bytes i 0 < 256

abbrev pub Reading : Type 0 → Type 0
Reading A = Result (A × List ℕ) ℕ

-- What is read next, where there was no fault before.
infixl 10 ◌>>=◌
abbrev pub ◌>>=◌ : {A B : Type 0} → Result A ℕ → (A → Result B ℕ) → Result B ℕ
(Ok x) >>= f = f x
(Err left) >>= f = Err left

-- What was read, where the field that these bytes begin with is lawful.
abbrev pub where_lawful : {A : Type 0} → Bool → List ℕ → A → Result A ℕ
where_lawful lawful bytes x = if lawful then Ok x else Err (length bytes)

-- ---- what a function answered

-- It is what is read, unless memory ran out.
abbrev pub Fails : {A : Type 0} → ReadFault → Result A ℕ → Type 0
Fails faults.NoMemory reading = Unit {0}
Fails (faults.At left) reading = reading ≡ Err left

abbrev pub Gives : {X A : Type 0} → (X → A) → Result X ReadFault → Result A ℕ → Type 0
Gives view (Ok x) reading = reading ≡ Ok (view x)
Gives view (Err fault) reading = Fails fault reading

-- Of values that may be there.
use Rattle.std.proofs.Common.{◌≡◌, false, Option, Some, None, is_some, refl, true≢false}

pub none_from_is_some : {A : Type 0} (o : Option A) → is_some o ≡ false → o ≡ None
none_from_is_some None h = refl
none_from_is_some (Some x) h = absurd (true≢false h)

-- Of two tests of which one holds, or both.
use Rattle.std.proofs.Common.{◌≡◌, Bool, true, false, ◌&&◌, ◌||◌, refl}

pub either : {P : Type 0} (a b : Bool) → (a || b) ≡ true → (a ≡ true → P) → (b ≡ true → P) → P
either true b h one other = one refl
either false b h one other = other h

pub both : {P : Type 0} (a b : Bool) → (a && b) ≡ true → (a ≡ true → b ≡ true → P) → P
both true b h k = k refl h
both false b h k = absurd (cc (h))

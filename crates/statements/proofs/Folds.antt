-- A machine's state and output over one list of items and then another.
use Rattle.std.proofs.Common.{◌≡◌, ℕ, List, [], ◌∷◌, ◌++◌, None, Some, refl, sym, ◌∙◌, ap, append_assoc, append-nil}
use Rattle.std.specs.Prelude.{Option}
use Rattle.std.specs.Io.KnownBytes.{append_known}
use Rattle.statements.specs.Runs.{Machine, after, output}

pub after-append : {S I : Type 0} (m : Machine S I) (items more : List I) (s : S) → after m (items ++ more) s ≡ after m more (after m items s)
after-append m [] more s = refl
after-append m (i ∷ items) more s = after-append m items more (m.step i s)

pub output-append : {S I : Type 0} (m : Machine S I) (items more : List I) (s : S) → output m (items ++ more) s ≡ output m items s ++ output m more (after m items s)
output-append m [] more s = refl
output-append m (i ∷ items) more s =
    ap (λ text. m.text i s ++ text) (output-append m items more (m.step i s)) ∙ sym (append_assoc (m.text i s) (output m items (m.step i s)) _)

pub append_known-append : (known : Option (List ℕ)) (xs ys : List ℕ) → append_known known (xs ++ ys) ≡ append_known (append_known known xs) ys
append_known-append None xs ys = refl
append_known-append (Some bytes) xs ys = ap Some (sym (append_assoc bytes xs ys))

pub append_known-nil : (known : Option (List ℕ)) → append_known known [] ≡ known
append_known-nil None = refl
append_known-nil (Some bytes) = ap Some (append-nil bytes)

-- Items read one behind another, as loops do.
use Rattle.std.proofs.Common.{◌≡◌, ℕ, suc, ◌+◌, ◌-◌, ◌<◌, ◌≤◌, List, [], ◌∷◌, ◌++◌, Ok, Err, refl, sym, ◌∙◌, arith}
use Rattle.database_image.specs.declared.faults.ReadFault.{ReadFault}
use Rattle.database_image.specs.declared.faults.ReadFault.TheVariants as faults
use Rattle.database_image.specs.Reading.{Reading, Fails}
use Rattle.database_image.specs.Forms.{Form, items_from}

pub goes_on : {A : Type 0} (item : List A → Form A) (count i : ℕ) (before : List A) (left : List ℕ) (x : A) (after : List ℕ) (total : Reading (List A)) → i < count → (item before).reading left ≡ Ok (x, after)
    → items_from item (count - i) before left ≡ total → items_from item (count - (i + 1)) (before ++ x ∷ []) after ≡ total
goes_on item count i before left x after total lt h so_far =
    let k : count - i ≡ suc (count - (i + 1)) = omega arith in
    let one : items_from item (count - i) before left ≡ items_from item (count - (i + 1)) (before ++ x ∷ []) after = rw (k, h) refl in
    sym one ∙ so_far

pub ends : {A : Type 0} (e : ReadFault) (item : List A → Form A) (count i : ℕ) (before : List A) (left : List ℕ) (total : Reading (List A)) → i < count → Fails e ((item before).reading left)
    → items_from item (count - i) before left ≡ total → Fails e total
ends faults.NoMemory item count i before left total lt h so_far = tt
ends (faults.At n) item count i before left total lt h so_far =
    let k : count - i ≡ suc (count - (i + 1)) = omega arith in
    let one : items_from item (count - i) before left ≡ Err n = rw (k, h) refl in
    sym so_far ∙ one

pub is_done : {A : Type 0} (item : List A → Form A) (count i : ℕ) (before : List A) (left : List ℕ) (total : Reading (List A)) → count ≤ i → items_from item (count - i) before left ≡ total → total ≡ Ok (before, left)
is_done item count i before left total le so_far =
    let k : count - i ≡ 0 = omega arith in
    let one : items_from item (count - i) before left ≡ Ok (before, left) = rw k refl in
    sym so_far ∙ one

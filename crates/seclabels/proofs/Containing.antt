-- A set of categories contains another exactly where it has each of its numbers.
use Rattle.std.proofs.Common.{◌≡◌, ℕ, zero, suc, ◌+◌, ◌<◌, ◌≤◌, Bool, true, false, not, ◌&&◌, cond, Option, Some, None, is_none, sym, refl, ◌∙◌, ap, ⊎_elim, arith, true≢false}
use Rattle.std.specs.Prelude.{IsTrue, ◌↔◌}
use Rattle.std.specs.List.{find, range_with_len}
use Rattle.std.proofs.lemmas.Bool.{cases_eq, cases_Bool, and_parts, and_from, leb-true, le-leb}
use Rattle.access_levels.specs.Category.{is_member, is_missing, first_missing}
use Rattle.access_levels.proofs.Missing.{find_none}
use Rattle.seclabels.specs.declared.labels.Label.{Label}
use Rattle.seclabels.specs.Labels.{contains, dominates}

-- A search of numbers in order that finds none.
none_passes : (p : ℕ → Bool) (a n : ℕ) → find p (range_with_len a n) ≡ None → (m : ℕ) → a ≤ m → m < a + n → p m ≡ false
none_passes p a zero h m low high = absurd (omega arith)
none_passes p a (suc n) h m low high =
    let rest : Option ℕ = find p (range_with_len (a + 1) n) in
    ⊎_elim
    (λ (here : p a ≡ true). let found : Some a ≡ None = sym (ap (λ b. cond b (Some a) rest) here) ∙ h in absurd cc)
    (λ (miss : p a ≡ false). ⊎_elim
    (λ (same : a ≡ m). ap p (sym same) ∙ miss)
    (λ (other : a ≡ m → ⊥). none_passes p (a + 1) n (sym (ap (λ b. cond b (Some a) rest) miss) ∙ h) m (omega arith) (omega arith))
    (cases_eq a m))
    (cases_Bool (p a))

none_is_None : (o : Option ℕ) → is_none o ≡ true → o ≡ None
none_is_None None h = refl
none_is_None (Some n) h = absurd (true≢false (sym h))

-- A number isn't missing exactly where it is in the set, if it is wanted.
there : (wanted has : Bool) → (wanted && not has) ≡ false → wanted ≡ true → has ≡ true
there true true h w = refl
there true false h w = absurd (true≢false h)
there false has h w = absurd (true≢false (sym w))

not_missing : (wanted has : Bool) → (wanted ≡ true → has ≡ true) → (wanted && not has) ≡ false
not_missing true true h = refl
not_missing true false h = absurd (true≢false (sym (h refl)))
not_missing false has h = refl

-- The set has each number of the other.
abbrev pub HasEach : (set other : ℕ) → Type 0
HasEach set other = (n : ℕ) → n < 256 → IsTrue (is_member other n) → IsTrue (is_member set n)

each-contained : (set other : ℕ) → IsTrue (contains set other) → HasEach set other
unfolding first_missing
each-contained set other h n small = there _ _ (none_passes (is_missing set other) 0 256 (none_is_None _ h) n (omega arith) (omega arith))

contained-each : (set other : ℕ) → HasEach set other → IsTrue (contains set other)
unfolding first_missing
contained-each set other each = ap is_none (find_none (is_missing set other) 0 256 (λ m low high. not_missing _ _ (each m (omega arith))))

-- Dominance as a relation.
pub dominates-each : (label other : Label) → IsTrue (dominates label other) ↔ ((other.level ≤ label.level) × HasEach label.categories other.categories)
dominates-each label other = (
  λ h. let parts = and_parts _ _ h in (leb-true _ _ parts.0, each-contained _ _ parts.1),
  λ h. and_from _ _ (le-leb _ _ h.0) (contained-each _ _ h.1),
)

-- Where the level is high enough, the categories decide.
pub contains-relation : (label other : Label) → other.level ≤ label.level → IsTrue (contains label.categories other.categories) ↔ ((other.level ≤ label.level) × HasEach label.categories other.categories)
contains-relation label other low = (λ h. (low, each-contained _ _ h), λ h. contained-each _ _ h.1)

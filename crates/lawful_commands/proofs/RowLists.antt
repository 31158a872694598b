-- What holds of each row of a list, and that no two rows have one name, after a row was added, changed, put or dropped.
use Rattle.std.proofs.Common.{◌≡◌, ℕ, ◌≤◌, Bool, true, false, cond, ◌||◌, ◌&&◌, not, List, [], ◌∷◌, ◌++◌, length, map, None, Some, bytes_eq, refl, sym, ap, ◌∙◌, true≢false, arith}
use Rattle.std.specs.Prelude.{find, filter, sum_by}
use Rattle.std.specs.List.{AllByRecursion, IsDistinct, list_any, list_all}
use Rattle.std.proofs.lemmas.Bool.{and_parts, not-true}
use Rattle.std.proofs.lemmas.List.Sums.{sum_by-cons}
use Rattle.racf_profiles.specs.Edits.{drop_row}
use Rattle.racf_profiles.proofs.EditLaws.{all-drop_row}
use Rattle.row_tables.specs.ChangedRow.{at_row}
use Rattle.access_lists.specs.Lists.{entry_put}

-- ---- what holds of each
pub all-each : {X : Type 0} (P Q : X → Type 0) → ((x : X) → P x → Q x) → (xs : List X) → AllByRecursion P xs → AllByRecursion Q xs
all-each P Q f [] h = tt
all-each P Q f (x ∷ xs) h = (f x h.0, all-each P Q f xs h.1)

pub both-each : {X : Type 0} (P Q R : X → Type 0) → ((x : X) → P x → Q x → R x) → (xs : List X) → AllByRecursion P xs → AllByRecursion Q xs → AllByRecursion R xs
both-each P Q R f [] p q = tt
both-each P Q R f (x ∷ xs) p q = (f x p.0 q.0, both-each P Q R f xs p.1 q.1)

pub all-push : {X : Type 0} (P : X → Type 0) (xs : List X) (x : X) → AllByRecursion P xs → P x → AllByRecursion P (xs ++ x ∷ [])
all-push P [] x h p = (p, tt)
all-push P (y ∷ ys) x h p = (h.0, all-push P ys x h.1 p)

pub all-both : {X : Type 0} (P : X → Type 0) (xs ys : List X) → AllByRecursion P xs → AllByRecursion P ys → AllByRecursion P (xs ++ ys)
all-both P [] ys h k = k
all-both P (x ∷ xs) ys h k = (h.0, all-both P xs ys h.1 k)

pub all-map : {X K : Type 0} (key : X → K) (P : K → Type 0) (xs : List X) → AllByRecursion (λ x. P (key x)) xs → AllByRecursion P (map key xs)
all-map key P [] h = tt
all-map key P (x ∷ xs) h = (h.0, all-map key P xs h.1)

pub all-unmap : {X K : Type 0} (key : X → K) (P : K → Type 0) (xs : List X) → AllByRecursion P (map key xs) → AllByRecursion (λ x. P (key x)) xs
all-unmap key P [] h = tt
all-unmap key P (x ∷ xs) h = (h.0, all-unmap key P xs h.1)

pub all-filter : {X : Type 0} (P : X → Type 0) (stays : X → Bool) (xs : List X) → AllByRecursion P xs → AllByRecursion P (filter stays xs)
all-filter P stays [] h = tt
all-filter P stays (x ∷ xs) h = by (stays x) (all-filter P stays xs h.1)
  where
    by : (b : Bool) → AllByRecursion P (filter stays xs) → AllByRecursion P (cond b (x ∷ filter stays xs) (filter stays xs))
    by true rest = (h.0, rest)
    by false rest = rest

-- the row that is changed is the one that is found
pub all-at : {X : Type 0} (P : X → Type 0) (it : X → Bool) (change : X → X) (xs : List X) → ((x : X) → find it xs ≡ Some x → P x → P (change x)) → AllByRecursion P xs → AllByRecursion P (at_row it change xs)
all-at P it change [] f h = tt
all-at {X = X} P it change (x ∷ xs) f h = by (it x) refl (λ g. all-at P it change xs g h.1)
  where
    by : (b : Bool) → it x ≡ b → (((y : X) → find it xs ≡ Some y → P y → P (change y)) → AllByRecursion P (at_row it change xs)) → AllByRecursion P (cond b (change x ∷ xs) (x ∷ at_row it change xs))
    by true e rest = (f x (ap (λ c. cond c (Some x) (find it xs)) e) h.0, h.1)
    by false e rest = (h.0, rest (λ y found. f y (ap (λ c. cond c (Some x) (find it xs)) e ∙ found)))

pub all-put : {X : Type 0} (P : X → Type 0) (it : X → Bool) (row : X) (xs : List X) → P row → AllByRecursion P xs → AllByRecursion P (entry_put it row xs)
all-put P it row [] p h = (p, tt)
all-put P it row (x ∷ xs) p h = by (it x) (all-put P it row xs p h.1)
  where
    by : (b : Bool) → AllByRecursion P (entry_put it row xs) → AllByRecursion P (cond b (row ∷ xs) (x ∷ entry_put it row xs))
    by true rest = (p, h.1)
    by false rest = (h.0, rest)

-- ---- rows that are found
pub none-found : {X : Type 0} (it : X → Bool) (xs : List X) → find it xs ≡ None → AllByRecursion (λ x. it x ≡ false) xs
none-found it [] none = tt
none-found it (x ∷ xs) none = by (it x) refl (none-found it xs)
  where
    by : (b : Bool) → it x ≡ b → (find it xs ≡ None → AllByRecursion (λ y. it y ≡ false) xs) → (it x ≡ false) × AllByRecursion (λ y. it y ≡ false) xs
    by true e rest = let some : find it (x ∷ xs) ≡ Some x = ap (λ c. cond c (Some x) (find it xs)) e in cc
    by false e rest = (e, rest (sym (ap (λ c. cond c (Some x) (find it xs)) e) ∙ none))

pub found-none : {X : Type 0} (it : X → Bool) (xs : List X) → AllByRecursion (λ x. it x ≡ false) xs → find it xs ≡ None
found-none it [] h = refl
found-none it (x ∷ xs) h = ap (λ b. cond b (Some x) (find it xs)) h.0 ∙ found-none it xs h.1

pub none-any : {X : Type 0} (p : X → Bool) (xs : List X) → list_any p xs ≡ false → AllByRecursion (λ x. p x ≡ false) xs
none-any p [] h = tt
none-any p (x ∷ xs) h = by (p x) refl h (none-any p xs)
  where
    by : (b : Bool) → p x ≡ b → (b || list_any p xs) ≡ false → (list_any p xs ≡ false → AllByRecursion (λ y. p y ≡ false) xs) → (p x ≡ false) × AllByRecursion (λ y. p y ≡ false) xs
    by true e k rest = absurd (true≢false k)
    by false e k rest = (e, rest k)

-- ---- no two rows have one name
pub distinct-none : {K : Type 0} (like : K → K → Bool) → IsDistinct like []
unfolding IsDistinct
distinct-none like = tt

pub distinct-one : {K : Type 0} (like : K → K → Bool) (key : K) → IsDistinct like (key ∷ [])
unfolding IsDistinct
distinct-one like key = (tt, tt)

-- names of which a test finds no two the same
abbrev are_apart : List (List ℕ) → Bool
are_apart [] = true
are_apart (name ∷ names) = not (list_any (bytes_eq name) names) && are_apart names

pub names-apart : (names : List (List ℕ)) → are_apart names ≡ true → IsDistinct bytes_eq names
unfolding IsDistinct
names-apart [] h = tt
names-apart (name ∷ names) h =
    let parts = and_parts (not (list_any (bytes_eq name) names)) (are_apart names) h in
    (none-any (bytes_eq name) names (not-true (list_any (bytes_eq name) names) parts.0), names-apart names parts.1)

pub map-itself : {X : Type 0} (xs : List X) → map (λ (x : X). x) xs ≡ xs
map-itself [] = refl
map-itself (x ∷ xs) = ap (λ rest. x ∷ rest) (map-itself xs)

module _ {X K : Type 0} (same : K → K → Bool) (key : X → K) where
  pub distinct-push : (xs : List X) (x : X) → IsDistinct same (map key xs) → AllByRecursion (λ y. same (key y) (key x) ≡ false) xs → IsDistinct same (map key (xs ++ x ∷ []))
  unfolding IsDistinct
  distinct-push [] x d others = (tt, tt)
  distinct-push (y ∷ ys) x d others =
      (all-map key (λ k. same (key y) k ≡ false) (ys ++ x ∷ []) (all-push (λ z. same (key y) (key z) ≡ false) ys x (all-unmap key (λ k. same (key y) k ≡ false) ys d.0) others.0), distinct-push ys x d.1 others.1)

  pub distinct-drop : (goes : X → Bool) (xs : List X) → IsDistinct same (map key xs) → IsDistinct same (map key (drop_row goes xs))
  unfolding IsDistinct
  distinct-drop goes [] d = tt
  distinct-drop goes (x ∷ xs) d = by (goes x) (distinct-drop goes xs d.1)
    where
      by : (b : Bool) → IsDistinct same (map key (drop_row goes xs)) → IsDistinct same (map key (cond b xs (x ∷ drop_row goes xs)))
      by true rest = d.1
      by false rest = (all-map key (λ k. same (key x) k ≡ false) (drop_row goes xs) (all-drop_row (λ z. same (key x) (key z) ≡ false) goes xs (all-unmap key (λ k. same (key x) k ≡ false) xs d.0)), rest)

  pub distinct-filter : (stays : X → Bool) (xs : List X) → IsDistinct same (map key xs) → IsDistinct same (map key (filter stays xs))
  unfolding IsDistinct
  distinct-filter stays [] d = tt
  distinct-filter stays (x ∷ xs) d = by (stays x) (distinct-filter stays xs d.1)
    where
      by : (b : Bool) → IsDistinct same (map key (filter stays xs)) → IsDistinct same (map key (cond b (x ∷ filter stays xs) (filter stays xs)))
      by true rest = (all-map key (λ k. same (key x) k ≡ false) (filter stays xs) (all-filter (λ z. same (key x) (key z) ≡ false) stays xs (all-unmap key (λ k. same (key x) k ≡ false) xs d.0)), rest)
      by false rest = rest

  -- a row put in place of the one that has its name, or last; what is like the one that goes is like the new one
  pub distinct-put : ((a b c : K) → same a b ≡ true → same a c ≡ false → same b c ≡ false) → (it : X → Bool) (row : X) → ((x : X) → it x ≡ same (key x) (key row)) → (xs : List X)
      → IsDistinct same (map key xs) → IsDistinct same (map key (entry_put it row xs))
  unfolding IsDistinct
  distinct-put like it row named [] d = (tt, tt)
  distinct-put like it row named (x ∷ xs) d = by (it x) refl (distinct-put like it row named xs d.1)
    where
      by : (b : Bool) → it x ≡ b → IsDistinct same (map key (entry_put it row xs)) → IsDistinct same (map key (cond b (row ∷ xs) (x ∷ entry_put it row xs)))
      by true e rest = (all-each (λ k. same (key x) k ≡ false) (λ k. same (key row) k ≡ false) (λ k f. like (key x) (key row) k (sym (named x) ∙ e) f) (map key xs) d.0, d.1)
      by false e rest = (all-map key (λ k. same (key x) k ≡ false) (entry_put it row xs) (all-put (λ z. same (key x) (key z) ≡ false) it row xs (sym (named x) ∙ e) (all-unmap key (λ k. same (key x) k ≡ false) xs d.0)), rest)

-- a change that keeps names
pub names-at : {X K : Type 0} (key : X → K) (it : X → Bool) (change : X → X) → ((x : X) → key (change x) ≡ key x) → (xs : List X) → map key (at_row it change xs) ≡ map key xs
names-at key it change keeps [] = refl
names-at key it change keeps (x ∷ xs) = by (it x) (names-at key it change keeps xs)
  where
    by : (b : Bool) → map key (at_row it change xs) ≡ map key xs → map key (cond b (change x ∷ xs) (x ∷ at_row it change xs)) ≡ key x ∷ map key xs
    by true rest = ap (λ k. k ∷ map key xs) (keeps x)
    by false rest = ap (λ ks. key x ∷ ks) rest

pub length-at : {X : Type 0} (it : X → Bool) (change : X → X) (xs : List X) → length (at_row it change xs) ≡ length xs
length-at it change [] = refl
length-at it change (x ∷ xs) = by (it x) (length-at it change xs)
  where
    by : (b : Bool) → length (at_row it change xs) ≡ length xs → length (cond b (change x ∷ xs) (x ∷ at_row it change xs)) ≡ length (x ∷ xs)
    by true rest = refl
    by false rest = omega (arith, rest)

-- ---- tests
pub any-at : {X : Type 0} (p : X → Bool) (it : X → Bool) (change : X → X) → ((x : X) → p (change x) ≡ p x) → (xs : List X) → list_any p (at_row it change xs) ≡ list_any p xs
any-at p it change keeps [] = refl
any-at p it change keeps (x ∷ xs) = by (it x) (any-at p it change keeps xs)
  where
    by : (b : Bool) → list_any p (at_row it change xs) ≡ list_any p xs → list_any p (cond b (change x ∷ xs) (x ∷ at_row it change xs)) ≡ (p x || list_any p xs)
    by true rest = ap (λ c. c || list_any p xs) (keeps x)
    by false rest = ap (λ c. p x || c) rest

pub any-push : {X : Type 0} (p : X → Bool) (xs : List X) (x : X) → list_any p xs ≡ true → list_any p (xs ++ x ∷ []) ≡ true
any-push p [] x h = absurd (true≢false (sym h))
any-push p (y ∷ ys) x h = by (p y) h (any-push p ys x)
  where
    by : (b : Bool) → (b || list_any p ys) ≡ true → (list_any p ys ≡ true → list_any p (ys ++ x ∷ []) ≡ true) → (b || list_any p (ys ++ x ∷ [])) ≡ true
    by true e rest = refl
    by false e rest = rest e

-- a test that each passes, and what holds of each
pub all-passes : {X : Type 0} (p : X → Bool) (xs : List X) → list_all p xs ≡ true → AllByRecursion (λ x. p x ≡ true) xs
all-passes p [] h = tt
all-passes p (x ∷ xs) h = by (p x) refl h (all-passes p xs)
  where
    by : (b : Bool) → p x ≡ b → (b && list_all p xs) ≡ true → (list_all p xs ≡ true → AllByRecursion (λ y. p y ≡ true) xs) → (p x ≡ true) × AllByRecursion (λ y. p y ≡ true) xs
    by true e k rest = (e, rest k)
    by false e k rest = absurd (true≢false (sym k))

pub passes-all : {X : Type 0} (p : X → Bool) (xs : List X) → AllByRecursion (λ x. p x ≡ true) xs → list_all p xs ≡ true
passes-all p [] h = refl
passes-all p (x ∷ xs) h = ap (λ b. b && list_all p xs) h.0 ∙ passes-all p xs h.1

pub all_pass-each : {X : Type 0} (p q : X → Bool) → ((x : X) → p x ≡ true → q x ≡ true) → (xs : List X) → list_all p xs ≡ true → list_all q xs ≡ true
all_pass-each p q f xs h = passes-all q xs (all-each (λ x. p x ≡ true) (λ x. q x ≡ true) f xs (all-passes p xs h))

pub all_pass-filter : {X : Type 0} (p : X → Bool) (stays : X → Bool) (xs : List X) → list_all p xs ≡ true → list_all p (filter stays xs) ≡ true
all_pass-filter p stays xs h = passes-all p (filter stays xs) (all-filter (λ x. p x ≡ true) stays xs (all-passes p xs h))

pub all_pass-push : {X : Type 0} (p : X → Bool) (xs : List X) (x : X) → list_all p xs ≡ true → p x ≡ true → list_all p (xs ++ x ∷ []) ≡ true
all_pass-push p xs x h e = passes-all p (xs ++ x ∷ []) (all-push (λ y. p y ≡ true) xs x (all-passes p xs h) e)

-- ---- sums
pub sum-at-le : {X : Type 0} (weight : X → ℕ) (it : X → Bool) (change : X → X) (xs : List X) → ((x : X) → find it xs ≡ Some x → weight (change x) ≤ weight x) → sum_by weight (at_row it change xs) ≤ sum_by weight xs
sum-at-le weight it change [] less = omega arith
sum-at-le {X = X} weight it change (x ∷ xs) less = by (it x) refl (sum-at-le weight it change xs)
  where
    by : (b : Bool) → it x ≡ b → (((y : X) → find it xs ≡ Some y → weight (change y) ≤ weight y) → sum_by weight (at_row it change xs) ≤ sum_by weight xs)
        → sum_by weight (cond b (change x ∷ xs) (x ∷ at_row it change xs)) ≤ sum_by weight (x ∷ xs)
    by true e rest =
        let own : weight (change x) ≤ weight x = less x (ap (λ b. cond b (Some x) (find it xs)) e) in
        let now : sum_by weight (change x ∷ xs) ≤ sum_by weight (x ∷ xs) = omega (arith, own, sum_by-cons weight (change x) xs, sum_by-cons weight x xs) in
        now
    by false e rest =
        let others : sum_by weight (at_row it change xs) ≤ sum_by weight xs = rest (λ y found. less y (ap (λ b. cond b (Some x) (find it xs)) e ∙ found)) in
        let now : sum_by weight (x ∷ at_row it change xs) ≤ sum_by weight (x ∷ xs) = omega (arith, others, sum_by-cons weight x (at_row it change xs), sum_by-cons weight x xs) in
        now

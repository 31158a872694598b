-- What a pattern covers, from place to place.
use Rattle.std.proofs.Common.{◌≡◌, ℕ, suc, ◌-◌, ◌<◌, ◌≤◌, Bool, true, false, cond, not, ◌&&◌, ◌||◌, eqb, List, [], ◌∷◌, length, take, drop, refl, ap, sym, ◌∙◌, arith}
use Rattle.std.specs.List.{join_with_byte}
use Rattle.std.proofs.lemmas.List.{drop_more, drop_all, length-drop}
use Rattle.std.proofs.lemmas.Bool.Decides.{nat_tests}
use Rattle.std.proofs.lemmas.Bool.{or_left, or_right, and_parts}
use Rattle.generic_names.specs.declared.kind.NameKind.{NameKind}
use Rattle.generic_names.specs.Spelled.{is_empty}
use Rattle.generic_names.specs.Covers.{is_double, is_open, matches, begins, some_end, first_and_rest, covers_all}
use Rattle.generic_names.proofs.Bools.{either}

-- two tests that hold together are one
pub same_tests : (a b : Bool) → (a ≡ true → b ≡ true) → (b ≡ true → a ≡ true) → a ≡ b
same_tests true b there back = sym (there refl)
same_tests false true there back = back refl
same_tests false false there back = refl

-- the whole list is an end of it
pub some_end-whole : (test : List (List ℕ) → Bool) (qs : List (List ℕ)) → test qs ≡ true → some_end test qs ≡ true
some_end-whole test [] h = h
some_end-whole test (q ∷ qs) h = or_left (test (q ∷ qs)) (some_end test qs) h

-- some end of an end is an end
pub some_end-twice : (test : List (List ℕ) → Bool) (qs : List (List ℕ)) → some_end (λ end. some_end test end) qs ≡ true → some_end test qs ≡ true
some_end-twice test [] h = h
some_end-twice test (q ∷ qs) h =
    elim (some_end test (q ∷ qs)) as (λ v. (v || some_end (λ end. some_end test end) qs) ≡ true → (some_end test qs ≡ true → v ≡ true) → v ≡ true) [
      | true ↦ λ g k. refl
      | false ↦ λ g k. k (some_end-twice test qs g)
    ] h (or_right (test (q ∷ qs)) (some_end test qs))

-- tests that agree agree on the ends
pub some_end-same : (test other : List (List ℕ) → Bool) → ((qs : List (List ℕ)) → test qs ≡ other qs) → (qs : List (List ℕ)) → some_end test qs ≡ some_end other qs
some_end-same test other agree [] = agree []
some_end-same test other agree (q ∷ qs) = rw (agree (q ∷ qs), some_end-same test other agree qs) refl

-- any test for the empty list passes at some end
pub some_end-all : (qs : List (List ℕ)) → some_end (λ end. is_empty end) qs ≡ true
some_end-all [] = refl
some_end-all (q ∷ qs) = some_end-all qs

module _ (kind : NameKind) (p : List ℕ) (ps : List (List ℕ)) where
  -- `**` leaves some end
  pub covers_all-double : (name : List (List ℕ)) → is_double p ≡ true → covers_all kind (p ∷ ps) name ≡ some_end (λ end. covers_all kind ps end) name
  covers_all-double name double = ap (λ b. cond b (some_end (λ end. covers_all kind ps end) name) (cond (is_open kind (is_empty ps) p) (not (is_empty name) && begins (take (length p - 1) p) (join_with_byte 46 name)) (first_and_rest (λ q. matches p q) (λ rest. covers_all kind ps rest) name))) double

  -- an open qualifier takes any rest
  pub covers_all-open : (q : List ℕ) (qs : List (List ℕ)) → is_double p ≡ false → is_open kind (is_empty ps) p ≡ true → covers_all kind (p ∷ ps) (q ∷ qs) ≡ begins (take (length p - 1) p) (join_with_byte 46 (q ∷ qs))
  covers_all-open q qs double open_ended = rw (double, open_ended) refl

  -- any other takes one qualifier
  pub covers_all-one : (q : List ℕ) (qs : List (List ℕ)) → is_double p ≡ false → is_open kind (is_empty ps) p ≡ false → covers_all kind (p ∷ ps) (q ∷ qs) ≡ (matches p q && covers_all kind ps qs)
  covers_all-one q qs double open_ended = rw (double, open_ended) refl

  -- and only `**` takes none
  pub covers_all-none : is_double p ≡ false → covers_all kind (p ∷ ps) [] ≡ false
  covers_all-none double = rw double (elim (is_open kind (is_empty ps) p) as (λ v. cond v false false ≡ false) [ true ↦ refl | false ↦ refl ])

  -- behind a qualifier that takes just one, the rest covers an end of what is left
  pub some_end-one : (q : List ℕ) (qs : List (List ℕ)) → is_double p ≡ false → is_open kind (is_empty ps) p ≡ false → some_end (λ end. covers_all kind (p ∷ ps) end) (q ∷ qs) ≡ true → some_end (λ end. covers_all kind ps end) qs ≡ true
  some_end-one q [] double one h =
      let here : (matches p q && covers_all kind ps []) || covers_all kind (p ∷ ps) [] ≡ true = rw (covers_all-one q [] double one) at h in
      let none : covers_all kind (p ∷ ps) [] ≡ false = covers_all-none double in
      either _ _ here (λ now. (and_parts (matches p q) _ now).1) (λ later. absurd (cc (later, none)))
  some_end-one q (r ∷ qs) double one h =
      let here : (matches p q && covers_all kind ps (r ∷ qs)) || some_end (λ end. covers_all kind (p ∷ ps) end) (r ∷ qs) ≡ true = rw (covers_all-one q (r ∷ qs) double one) at h in
      either _ _ here
      (λ now. some_end-whole (λ end. covers_all kind ps end) (r ∷ qs) ((and_parts (matches p q) _ now).1))
      (λ later. or_right (covers_all kind ps (r ∷ qs)) _ (some_end-one r qs double one later))

-- A walk from a pattern P₀ and a name N₀ has come to P and N. It is as good from there, and where the pattern
-- covers some end of the name, what is left of it covers some end of what is left.
module _ (kind : NameKind) (P₀ N₀ P N : List (List ℕ)) (same : covers_all kind P₀ N₀ ≡ covers_all kind P N) (some : some_end (λ end. covers_all kind P₀ end) N₀ ≡ true → some_end (λ end. covers_all kind P end) N ≡ true) (p : List ℕ) (ps : List (List ℕ)) (first : P ≡ p ∷ ps) where
  -- at `**`
  pub walk-double-same : is_double p ≡ true → covers_all kind P₀ N₀ ≡ some_end (λ end. covers_all kind ps end) N
  walk-double-same double = same ∙ ap (λ (qs : List (List ℕ)). covers_all kind qs N) first ∙ covers_all-double kind p ps N double

  pub walk-double-some : is_double p ≡ true → some_end (λ end. covers_all kind P₀ end) N₀ ≡ some_end (λ end. covers_all kind ps end) N
  walk-double-some double = same_tests _ _
      (λ h. some_end-twice (λ end. covers_all kind ps end) N (sym (some_end-same (λ end. covers_all kind P end) (λ end. some_end (λ rest. covers_all kind ps rest) end) (λ end. ap (λ (qs : List (List ℕ)). covers_all kind qs end) first ∙ covers_all-double kind p ps end double) N) ∙ some h))
      (λ h. some_end-whole (λ end. covers_all kind P₀ end) N₀ (walk-double-same double ∙ h))

  -- where nothing of the name is left
  pub walk-none : N ≡ [] → is_double p ≡ false → covers_all kind P₀ N₀ ≡ false
  walk-none none double = same ∙ rw (first, none) (covers_all-none kind p ps double)

  module _ (q : List ℕ) (qs : List (List ℕ)) (next : N ≡ q ∷ qs) (double : is_double p ≡ false) where
    -- at an open qualifier
    pub walk-open : is_open kind (is_empty ps) p ≡ true → covers_all kind P₀ N₀ ≡ begins (take (length p - 1) p) (join_with_byte 46 N)
    walk-open open_ended = same ∙ rw (first, next) (covers_all-open kind p ps q qs double open_ended)

    -- at one that doesn't match
    pub walk-unlike : is_open kind (is_empty ps) p ≡ false → matches p q ≡ false → covers_all kind P₀ N₀ ≡ false
    walk-unlike one unlike = same ∙ rw (first, next) (covers_all-one kind p ps q qs double one ∙ ap (λ b. b && covers_all kind ps qs) unlike)

    -- and at one that does
    pub walk-like-same : is_open kind (is_empty ps) p ≡ false → matches p q ≡ true → covers_all kind P₀ N₀ ≡ covers_all kind ps qs
    walk-like-same one like = same ∙ rw (first, next) (covers_all-one kind p ps q qs double one ∙ ap (λ b. b && covers_all kind ps qs) like)

    pub walk-like-some : is_open kind (is_empty ps) p ≡ false → some_end (λ end. covers_all kind P₀ end) N₀ ≡ true → some_end (λ end. covers_all kind ps end) qs ≡ true
    walk-like-some one h = some_end-one kind p ps q qs double one (rw (first, next) at (some h))

-- code that compares by places agrees with the words by cases
pub is_empty-length : {A : Type 0} (xs : List A) → is_empty xs ≡ eqb (length xs) 0
is_empty-length [] = refl
is_empty-length (x ∷ xs) = let n : eqb (suc (length xs)) 0 ≡ false = grind (arith, nat_tests) in sym n

-- a match that has come to the end of the text
pub begins-short : (front text : List ℕ) (i : ℕ) → i < length front → length text ≤ i → begins (drop i front) (drop i text) ≡ false
begins-short front text i h past = rw (drop_more front i 0 h, drop_all i text past) refl

matches-nil : (q : List ℕ) → matches [] q ≡ is_empty q
matches-nil [] = refl
matches-nil (b ∷ bs) = refl

-- a match that has come to the end of the pattern's qualifier
pub matches-end : (pattern q : List ℕ) (i : ℕ) → length pattern ≡ i → i ≤ length q → matches (drop i pattern) (drop i q) ≡ eqb (length pattern) (length q)
matches-end pattern q i at h =
    let n : length (drop i q) ≡ length q - i = length-drop i q in
    let same : eqb (length q - i) 0 ≡ eqb (length pattern) (length q) = grind (arith, nat_tests) in
    rw (drop_all i pattern (omega arith)) (matches-nil (drop i q) ∙ is_empty-length (drop i q) ∙ ap (λ (k : ℕ). eqb k 0) n ∙ same)

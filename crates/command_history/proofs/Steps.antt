-- Each step keeps the rule of the book.
use Rattle.std.proofs.Common.{◌≡◌, ◌≢◌, ℕ, ◌+◌, ◌<◌, ◌≤◌, ◌==◌, Bool, true, false, zero, suc, List, [], ◌∷◌, ◌++◌, length, None, refl, ap, sym, ◌∙◌, subst, arith, inl, ⊎_elim, length-append, length-set, get_or-set_other, get_or-set_same, slice_set}
use Rattle.std.proofs.lemmas.List.{append-nil, set-get_or, get_or_append_left}
use Rattle.std.proofs.lemmas.Bool.{cases_lt}
use Rattle.std.proofs.lemmas.Bool.Decides.{nat_tests}
use prog.Atomic.{either}
use Rattle.logbook.specs.Pages.{Cell, cell, keeps, gives, adds, Nib, nib, no_nib, may_make, may_write, step, Moves, Goes}
use Rattle.command_history.specs.declared.events.Event.{Event}
use Rattle.command_history.specs.declared.events.Event.TheVariants.{Added, Ended}
use Rattle.command_history.specs.Events.{is_ended, ends_last}
use Rattle.command_history.specs.Rules.{IsKept, Takes, Adds}
use Rattle.command_history.proofs.Extensions.{prefix_whole}

abbrev pub shown : List Event → List Event
shown log = []

abbrev pub moved : List Event → List Event → ℕ → Type 0
moved xs ys n = Unit {0}

-- ---- cells

-- a word at home is there
there : (cells : List Cell) (key : ℕ) → (cell cells key).1 ≡ true → key < length cells
there [] key home = absurd (cc home)
there (c ∷ cells) zero home = omega arith
there (c ∷ cells) (suc key) home = let rest = there cells key home in omega arith

-- a word at home that becomes what it was
same_word : (cells : List Cell) (n : ℕ) → n ≡ (cell cells 0).0 → (cell cells 0).1 ≡ true → slice_set cells 0 (n, true) ≡ cells
same_word cells n is home =
    let c : (n, true) ≡ cell cells 0 = λ i. (is i, sym home i) in
    ap (λ (c : Cell). slice_set cells 0 c) c ∙ set-get_or cells 0 (0, false)

unchanged_so : (n : ℕ) (b : Bool) → (n == 0) ≡ b → either (n == 0) 0 n ≡ n
unchanged_so n true is = let here : n ≡ 0 = grind (arith, nat_tests) in rw is (sym here)
unchanged_so n false is = rw is refl

-- an exchange of 0 for 0 leaves the number as it is
unchanged : (n : ℕ) → either (n == 0) 0 n ≡ n
unchanged n = unchanged_so n (n == 0) refl

head_home : (cells : List Cell) (log : List Event) → IsKept cells log → (cell cells 0).1 ≡ true
head_home cells log kept = kept.home 0 (omega arith)

-- Where a word is away, its event isn't there.
still_away : (cells : List Cell) (log : List Event) (key : ℕ) → IsKept cells log → (cell cells key).1 ≡ false → length log + 2 ≤ key
still_away cells log key kept away =
    ⊎_elim (λ lt. absurd (cc (kept.home key lt, away))) (λ le. le) (cases_lt key (length log + 2))

-- with nothing added
kept_same : (cells : List Cell) (log : List Event) (n : ℕ) → IsKept cells log → n ≡ (cell cells 0).0 → IsKept (slice_set cells 0 (n, true)) (log ++ [])
kept_same cells log n kept is =
    subst (λ (c : List Cell). IsKept c (log ++ [])) (sym (same_word cells n is (head_home cells log kept)))
    (subst (λ (l : List Event). IsKept cells l) (sym (append-nil log)) kept)

-- ---- a step that adds an event

ends_push : (events : List Event) (event : Event) → is_ended events ≡ false → ends_last (events ++ event ∷ []) ≡ true
ends_push [] (Added entry) goes = refl
ends_push [] (Ended doubt) goes = refl
ends_push (Added entry ∷ events) event goes = ends_push events event goes
ends_push (Ended doubt ∷ events) event goes = absurd (cc goes)

-- the word of the next event comes home
kept_add : (cells : List Cell) (log : List Event) (e : Event) (key value : ℕ) → IsKept cells log → key ≡ length log + 2 → key < length cells → is_ended log ≡ false
    → IsKept (slice_set cells key (value, true)) (log ++ e ∷ [])
kept_add cells log e key value kept is lt goes =
    record {
      count = ap (λ (c : Cell). c.0) (get_or-set_other cells key 0 (value, true) (0, false) (λ z. omega arith)) ∙ (kept.count ∙ sym (length-set cells key (value, true)));
      home = λ k h. ⊎_elim
          (λ low. ap (λ (c : Cell). c.1) (get_or-set_other cells key k (value, true) (0, false) (λ z. omega arith)) ∙ kept.home k low)
          (λ high. let here : k ≡ key = omega (arith, length-append log (e ∷ [])) in
          subst (λ (j : ℕ). (cell (slice_set cells key (value, true)) j).1 ≡ true) (sym here) (ap (λ (c : Cell). c.1) (get_or-set_same cells key (value, true) (0, false) lt)))
          (cases_lt k (length log + 2));
      last = ends_push log e goes;
    }

pub adds_moves : (v : List Event) (p : Nib) (e : Event) → p.right ≡ may_write → p.key ≡ length v + 2 → is_ended v ≡ false
    → Moves IsKept shown moved 0 (v, (p, None)) (λ n. either (n == 0) 0 n) (Adds (step 0 0 0 e) (v, (p, None)))
adds_moves v p e may key goes cells log kept pre away =
    let bound = still_away cells log p.key kept (away may).1 in
    let same : v ≡ log = prefix_whole v log pre (omega arith) in
    let is : p.key ≡ length log + 2 = key ∙ ap (λ (l : List Event). length l + 2) same in
    let goes' : is_ended log ≡ false = subst (λ (l : List Event). is_ended l ≡ false) same goes in
    let head = same_word cells (either ((cell cells 0).0 == 0) 0 (cell cells 0).0) (unchanged (cell cells 0).0) (head_home cells log kept) in (
      there cells 0 (head_home cells log kept),
      head_home cells log kept,
      (
        gives,
        e ∷ [],
        None,
        may,
        subst (λ (c : List Cell). IsKept (slice_set c p.key (p.value, true)) (log ++ e ∷ [])) (sym head)
            (kept_add cells log e p.key p.value kept is (away may).0 goes'),
        inl (refl, refl),
        (ap (λ (l : List Event). l ++ e ∷ []) (sym same), ends_push log e goes'),
      ),
    )

-- ---- a step that takes a turn

-- what the first word becomes leaves the others as they are
home_set : (cells : List Cell) (k m : ℕ) → (cell cells k).1 ≡ true → (cell (slice_set cells 0 (m, true)) k).1 ≡ true
home_set [] k m home = home
home_set (c ∷ cells) zero m home = refl
home_set (c ∷ cells) (suc k) m home = home

-- a further word, which is away
kept_take : (cells : List Cell) (log : List Event) (n : ℕ) → IsKept cells log → n ≡ (cell cells 0).0 + 1 → IsKept (slice_set cells 0 (n, true) ++ (0, false) ∷ []) (log ++ [])
kept_take cells log n kept is =
    let l' = length-set cells 0 (n, true) in
    let lt0 : 0 < length (slice_set cells 0 (n, true)) = subst (λ (k : ℕ). 0 < k) (sym l') (there cells 0 (head_home cells log kept)) in
    let P : List Event → Type 0 = λ l. IsKept (slice_set cells 0 (n, true) ++ (0, false) ∷ []) l in
    subst P (sym (append-nil log))
    (record {
      count = ap (λ (c : Cell). c.0) (get_or_append_left (slice_set cells 0 (n, true)) ((0, false) ∷ []) (0, false) 0 lt0 ∙ get_or-set_same cells 0 (n, true) (0, false) (there cells 0 (head_home cells log kept)))
          ∙ omega (arith, length-append (slice_set cells 0 (n, true)) ((0, false) ∷ []), l', kept.count, is);
      home = λ k h. let home = kept.home k h in
          let lt = there cells k home in
          let kept_there : k < length (slice_set cells 0 (n, true)) = subst (λ (j : ℕ). k < j) (sym l') lt in
          ap (λ (c : Cell). c.1) (get_or_append_left (slice_set cells 0 (n, true)) ((0, false) ∷ []) (0, false) k kept_there)
          ∙ home_set cells k n home;
      last = kept.last;
    })

takes_goes : (v : List Event) (e : Event) (place : ℕ) (cells : List Cell) (log : List Event) → IsKept cells log
    → (b : Bool) → ((cell cells 0).0 == place + 2) ≡ b
    → Goes IsKept shown moved 0 (v, (no_nib, None)) (λ n. either (n == place + 2) (place + 3) n) (Takes (step 0 (place + 2) (place + 3) e) (v, (no_nib, None))) cells log
takes_goes v e place cells log kept true is =
    let here : (cell cells 0).0 ≡ place + 2 = grind (arith, nat_tests) in
    let n : either ((cell cells 0).0 == place + 2) (place + 3) (cell cells 0).0 ≡ (cell cells 0).0 + 1 = rw is (omega arith) in (
      adds,
      [],
      None,
      tt,
      kept_take cells log (either ((cell cells 0).0 == place + 2) (place + 3) (cell cells 0).0) kept n,
      inl (refl, refl),
      λ found. ap (λ (k : ℕ). nib may_make k 0) (sym kept.count ∙ here),
    )
takes_goes v e place cells log kept false is =
    let n : either ((cell cells 0).0 == place + 2) (place + 3) (cell cells 0).0 ≡ (cell cells 0).0 = rw is refl in
    let other : (cell cells 0).0 ≢ place + 2 = λ here. grind (arith, nat_tests) in (
      keeps,
      [],
      None,
      tt,
      kept_same cells log (either ((cell cells 0).0 == place + 2) (place + 3) (cell cells 0).0) kept n,
      inl (refl, refl),
      λ found. absurd (other found),
    )

pub takes_moves : (v : List Event) (e : Event) (place : ℕ)
    → Moves IsKept shown moved 0 (v, (no_nib, None)) (λ n. either (n == place + 2) (place + 3) n) (Takes (step 0 (place + 2) (place + 3) e) (v, (no_nib, None)))
takes_moves v e place cells log kept pre away =
    (there cells 0 (head_home cells log kept), head_home cells log kept, takes_goes v e place cells log kept ((cell cells 0).0 == place + 2) refl)

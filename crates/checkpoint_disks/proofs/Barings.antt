-- What a crash leaves while a file is made one without a checkpoint.
use Rattle.std.proofs.Common.{ℕ, ◌-◌, ◌<◌, ◌≤◌, ◌≡◌, ◌∙◌, inl, inr, true, false, ◌&&◌, min, eqb, ltb, List, [], ◌∷◌, ◌++◌, length, take, drop, get_or, Option, refl, sym, ap, subst, arith, length-append}
use Rattle.std.proofs.lemmas.List.{drop_at, drop_all, drop_more, take-append-drop, length-take, get_or-take, get_or-drop, get_or_past}
use Rattle.std.proofs.lemmas.Bool.{eqb-true, ne_eqb, lt-ltb, le-ltb, and_left, cases_eq, cases_lt}
use Rattle.racf_outside.specs.Crashes.{Leaves, StaysIn}
use Rattle.racf_outside.specs.Disk.{History}
use Rattle.racf_outside.specs.Moments.{Moment, IsImage, durable, written, cut_to, synced}
use Rattle.racf_outside.proofs.Images.{durable-leaves}
use Rattle.racf_outside.proofs.Runs.{StaysIn-weaker}
use Rattle.racf_journal.proofs.Places.{written_byte, around_byte}
use Rattle.checkpoint_disks.specs.Baring.{SaysNothing, IsBaring}
use Rattle.checkpoint_disks.specs.Compacting.{with_head}
use Rattle.checkpoint_disks.specs.Files.{head_is_open}

-- the head gate, read into one byte
pub gate_opened : (count : ℕ) (into file : List ℕ) → length into ≡ 1 → count ≡ min (length into) (length file - 8) → take count into ≡ take count (drop 8 file)
    → (ltb 0 (length (take count into)) && eqb (get_or (take count into) 0 0) 1) ≡ head_is_open file
gate_opened count into file size counted same = elim (cases_lt 8 (length file)) [
  | inl within ↦
      let one : length (take count into) ≡ 1 = omega (arith, size, counted, length-take count into) in
      ap (λ b. b && eqb (get_or (take count into) 0 0) 1) (lt-ltb 0 (length (take count into)) (omega (arith, one)))
      ∙ ap (λ b. eqb b 1) (ap (λ (l : List ℕ). get_or l 0 0) same ∙ get_or-take count (drop 8 file) 0 0 (omega (arith, size, counted)) ∙ get_or-drop 8 file 0 0)
  | inr past ↦
      let none : length (take count into) ≡ 0 = omega (arith, size, counted, length-take count into) in
      and_left (ltb 0 (length (take count into))) _ (le-ltb 0 (length (take count into)) (omega (arith, none))) ∙ ap (λ b. eqb b 1) (sym (get_or_past file 8 0 past))
]

-- ---- the gate is closed

pub record Shuts (before : List ℕ) (m : Moment) : Type 0 where
  pub first : Leaves (IsBaring before) m
  pub within : 8 ≤ length m.bytes
  pub closed : Leaves (IsBaring before) (written 8 (0 ∷ []) m)
  pub kept : Leaves (IsBaring before) (synced (written 8 (0 ∷ []) m))
  pub shut : head_is_open (synced (written 8 (0 ∷ []) m)).bytes ≡ false

module _ (base rest : List ℕ) (at : length base ≡ 8) where
  abbrev whole : List ℕ
  whole = base ++ 1 ∷ rest

  gate_is : (any : ℕ) → get_or (base ++ any ∷ rest) 8 0 ≡ any
  gate_is any = sym (get_or-drop 8 (base ++ any ∷ rest) 0 0) ∙ ap (λ (l : List ℕ). get_or l 0 0) (drop_at base (any ∷ rest) 8 at)

  any_gate : (any : ℕ) (image : List ℕ) → image ≡ base ++ any ∷ rest → IsBaring whole image
  any_gate any image is = elim (cases_eq any 1) [
    | inl opened ↦ inl (is ∙ ap (λ g. base ++ g ∷ rest) opened)
    | inr closed ↦ inr (inl (ap head_is_open is ∙ ap (λ g. eqb g 1) (gate_is any) ∙ ne_eqb any 1 closed))
  ]

  shut_bytes : (written 8 (0 ∷ []) (durable whole)).bytes ≡ base ++ 0 ∷ rest
  shut_bytes = written_byte 8 base rest 1 0 at

  shuts_here : Shuts whole (durable whole)
  shuts_here = record {
    first = durable-leaves (IsBaring whole) whole (inl refl);
    within = omega (arith, at, length-append base (1 ∷ rest));
    closed = record {
      each = λ image i. let one = around_byte 8 base rest 1 0 image at i in any_gate one.0 image one.1;
    };
    kept = subst (λ (l : List ℕ). Leaves (IsBaring whole) (durable l)) (sym shut_bytes) (durable-leaves (IsBaring whole) (base ++ 0 ∷ rest) (any_gate 0 (base ++ 0 ∷ rest) refl));
    shut = ap head_is_open shut_bytes ∙ ap (λ g. eqb g 1) (gate_is 0);
  }

pub shuts : (before : List ℕ) (m : Moment) → m ≡ durable m.bytes → m.bytes ≡ before → head_is_open m.bytes ≡ true → Shuts before m
shuts before m still same opened =
    let gate : get_or m.bytes 8 0 ≡ 1 = eqb-true (get_or m.bytes 8 0) 1 opened in
    let long : 8 < length m.bytes = gate_within m.bytes gate in
    let base : List ℕ = take 8 m.bytes in
    let rest : List ℕ = drop 9 m.bytes in
    let at : length base ≡ 8 = omega (arith, length-take 8 m.bytes, long) in
    let file : m.bytes ≡ base ++ 1 ∷ rest = sym (take-append-drop 8 m.bytes) ∙ ap (λ (l : List ℕ). base ++ l) (drop_more m.bytes 8 0 long ∙ ap (λ g. g ∷ rest) gate) in
    subst (λ (b : List ℕ). Shuts b m) (sym file ∙ same) (subst (Shuts (base ++ 1 ∷ rest)) (sym (still ∙ ap durable file)) (shuts_here base rest at))
  where
    gate_within : (file : List ℕ) → get_or file 8 0 ≡ 1 → 8 < length file
    gate_within file gate = elim (cases_lt 8 (length file)) [
      | inl within ↦ within
      | inr past ↦ absurd (omega (arith, gate, get_or_past file 8 0 past))
    ]

-- a disk that is left as it is
pub still_leaves : (before : List ℕ) (m : Moment) → m ≡ durable m.bytes → m.bytes ≡ before → Leaves (IsBaring before) m
still_leaves before m still same = subst (Leaves (IsBaring before)) (sym (still ∙ ap durable same)) (durable-leaves (IsBaring before) before (inl refl))

-- ---- what stands behind it is cut off

pub record Bares (m : Moment) : Type 0 where
  pub first : Leaves SaysNothing m
  pub cut : Leaves SaysNothing (cut_to 9 m)
  pub kept : Leaves SaysNothing (synced (cut_to 9 m))
  pub put : Leaves SaysNothing (written 0 (with_head 0 []) (synced (cut_to 9 m)))
  pub ended : Leaves SaysNothing (synced (written 0 (with_head 0 []) (synced (cut_to 9 m))))
  pub is : synced (written 0 (with_head 0 []) (synced (cut_to 9 m))) ≡ durable (with_head 0 [])

module _ (file : List ℕ) (closed : head_is_open file ≡ false) where
  short : length (take 9 file) ≤ 9
  short = omega (arith, length-take 9 file)

  bare_is : (written 0 (with_head 0 []) (durable (take 9 file))).bytes ≡ with_head 0 []
  bare_is = ap (λ (l : List ℕ). with_head 0 [] ++ l) (drop_all 9 (take 9 file) short)

  cut_says : (image : List ℕ) → IsImage (cut_to 9 (durable file)) image → SaysNothing image
  cut_says image i = elim (cases_lt 8 (length file)) [
    | inl long ↦ inl (ap (λ g. eqb g 1) (i.stays 8 (omega (arith, long)) refl ∙ get_or-take 9 file 8 0 (omega arith)) ∙ closed)
    | inr few ↦ inr (omega (arith, i.no_longer, few))
  ]

  bares_here : Bares (durable file)
  bares_here = record {
    first = durable-leaves SaysNothing file (inl closed);
    cut = record { each = cut_says };
    kept = durable-leaves SaysNothing (take 9 file) (inr short);
    put = record { each = λ image i. inr (omega (arith, i.no_longer, short)) };
    ended = subst (λ (l : List ℕ). Leaves SaysNothing (durable l)) (sym bare_is) (durable-leaves SaysNothing (with_head 0 []) (inl refl));
    is = ap durable bare_is;
  }

pub bares : (m : Moment) → (m ≡ durable m.bytes) × (head_is_open m.bytes ≡ false) → Bares m
bares m is = subst Bares (sym is.0) (bares_here m.bytes is.1)

pub nothing_is : (before : List ℕ) (a b : Option History) → StaysIn SaysNothing a b → StaysIn (IsBaring before) a b
nothing_is before a b s = StaysIn-weaker (IsBaring before) s (λ h told file says. inr says)

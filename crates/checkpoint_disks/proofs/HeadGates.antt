-- What a crash leaves while the head gate is closed, and while it is opened.
use Rattle.std.proofs.Common.{ℕ, ◌≤◌, ◌≡◌, ◌∙◌, inl, inr, true, false, not, ◌&&◌, ◌-◌, min, eqb, ltb, List, [], ◌∷◌, ◌++◌, length, take, drop, get_or, refl, sym, ap, subst, arith}
use Rattle.std.proofs.lemmas.List.{drop_more, take_all, take-append-drop, length-take, get_or-take, get_or-drop}
use Rattle.std.proofs.lemmas.Bool.{eqb-true, ne_eqb, lt-ltb, le-ltb, ltb-true, ltb-false, not-true, not-false, and_parts, and_left, and_cases, cases_eq, cases_lt, false≢true}
use Rattle.std.proofs.lemmas.Slice.Eq.{bytes_eq-Decides}
use Rattle.racf_outside.specs.Crashes.{Leaves}
use Rattle.racf_outside.specs.Moments.{Moment, durable, written, synced}
use Rattle.racf_outside.proofs.Images.{front_stays, durable-leaves}
use Rattle.checkpoint_disks.specs.Files.{magic, is_formatted, head_is_open}
use Rattle.checkpoint_disks.specs.Compacting.{with_head, IsIdle, IsClosed, HoldsClosed, HoldsBody, IsClosing, IsOpening}
use Rattle.racf_journal.proofs.Places.{unwritten_before, around_byte, written_byte}

-- the head gate, read into one byte
pub gate_read : (count : ℕ) (into file : List ℕ) → length into ≡ 1 → count ≡ min (length into) (length file - 8) → take count into ≡ take count (drop 8 file)
    → (ltb 0 (length (take count into)) && not (eqb (get_or (take count into) 0 0) 1)) ≡ (ltb 8 (length file) && not (head_is_open file))
gate_read count into file size counted same = elim (cases_lt 8 (length file)) [
  | inl within ↦
      let one : length (take count into) ≡ 1 = omega (arith, size, counted, length-take count into) in
      ap (λ b. b && not (eqb (get_or (take count into) 0 0) 1)) (lt-ltb 0 (length (take count into)) (omega (arith, one)) ∙ sym (lt-ltb 8 (length file) within))
      ∙ ap (λ b. ltb 8 (length file) && not (eqb b 1)) (ap (λ (l : List ℕ). get_or l 0 0) same ∙ get_or-take count (drop 8 file) 0 0 (omega (arith, size, counted)) ∙ get_or-drop 8 file 0 0)
  | inr past ↦
      let none : length (take count into) ≡ 0 = omega (arith, size, counted, length-take count into) in
      and_left (ltb 0 (length (take count into))) _ (le-ltb 0 (length (take count into)) (omega (arith, none))) ∙ sym (and_left (ltb 8 (length file)) _ (le-ltb 8 (length file) past))
]

-- nothing is asked of a file
pub anything : (m : Moment) → Leaves (λ file. Unit {0}) m
anything m = record { each = λ image i. tt }

-- a file that begins as it has to and has a head gate
pub parts : (file : List ℕ) → is_formatted file ≡ true → 9 ≤ length file → file ≡ with_head (get_or file 8 0) (drop 9 file)
parts file formatted long =
    let front : take 8 file ≡ magic = (bytes_eq-Decides (take 8 file) magic).0 formatted in
    let back : drop 8 file ≡ get_or file 8 0 ∷ drop 9 file = drop_more file 8 0 (omega arith) in
    sym (take-append-drop 8 file) ∙ ap (λ (l : List ℕ). l ++ drop 8 file) front ∙ ap (λ (l : List ℕ). magic ++ l) back

-- any byte but X'01' closes it
pub closed_with : (gate : ℕ) (body : List ℕ) → (gate ≡ 1 → ⊥) → IsClosed (with_head gate body)
closed_with gate body closed = record { formatted = refl; closed = ne_eqb gate 1 closed }

idle_with : (gate : ℕ) (body : List ℕ) → IsIdle (durable (with_head gate body))
idle_with gate body = record { formatted = refl; durable = refl }

pub holds_with : (gate : ℕ) (body : List ℕ) → (gate ≡ 1 → ⊥) → HoldsClosed (durable (with_head gate body))
holds_with gate body closed = record { idle = idle_with gate body; gate = omega arith; closed = ne_eqb gate 1 closed }

-- a file at a moment at which nothing is in doubt
idle_is : (m : Moment) → IsIdle m → 9 ≤ length m.bytes → m ≡ durable (with_head (get_or m.bytes 8 0) (drop 9 m.bytes))
idle_is m idle long = idle.durable ∙ ap durable (parts m.bytes idle.formatted long)

-- ---- closing it
pub record Closes (before : List ℕ) (m : Moment) : Type 0 where
  pub first : Leaves (IsClosing before) m
  pub closed : Leaves (IsClosing before) (written 8 (0 ∷ []) m)
  pub kept : Leaves (IsClosing before) (synced (written 8 (0 ∷ []) m))
  pub holds : HoldsClosed (synced (written 8 (0 ∷ []) m))

one_byte : (body : List ℕ) → (written 8 (0 ∷ []) (durable (with_head 1 body))).bytes ≡ with_head 0 body
one_byte body = written_byte 8 magic body 1 0 refl

any_gate : (any : ℕ) (body image : List ℕ) → image ≡ with_head any body → IsClosing (with_head 1 body) image
any_gate any body image is = elim (cases_eq any 1) [
  | inl opened ↦ inl (is ∙ ap (λ g. with_head g body) opened)
  | inr closed ↦ inr (inl (subst IsClosed (sym is) (closed_with any body closed)))
]

closes_here : (body : List ℕ) → Closes (with_head 1 body) (durable (with_head 1 body))
closes_here body = record {
  first = durable-leaves (IsClosing (with_head 1 body)) (with_head 1 body) (inl refl);
  closed = record {
    each = λ image i. let one = around_byte 8 magic body 1 0 image refl i in any_gate one.0 body image one.1;
  };
  kept = subst (λ (l : List ℕ). Leaves (IsClosing (with_head 1 body)) (durable l)) (sym (one_byte body)) (durable-leaves (IsClosing (with_head 1 body)) (with_head 0 body) (inr (inl (closed_with 0 body (λ no. absurd (omega arith))))));
  holds = subst (λ (l : List ℕ). HoldsClosed (durable l)) (sym (one_byte body)) (holds_with 0 body (λ no. absurd (omega arith)));
}

closes_open : (before : List ℕ) (m : Moment) → IsIdle m → m.bytes ≡ before → 9 ≤ length m.bytes → head_is_open m.bytes ≡ true → Closes before m
closes_open before m idle same long opened =
    let gate : get_or m.bytes 8 0 ≡ 1 = eqb-true (get_or m.bytes 8 0) 1 opened in
    let file : m.bytes ≡ with_head 1 (drop 9 m.bytes) = parts m.bytes idle.formatted long ∙ ap (λ g. with_head g (drop 9 m.bytes)) gate in
    subst (λ (b : List ℕ). Closes b m) (sym file ∙ same) (subst (Closes (with_head 1 (drop 9 m.bytes))) (sym (idle.durable ∙ ap durable file)) (closes_here (drop 9 m.bytes)))

-- where there is none yet, it is written behind the front
first_gate : (written 8 (0 ∷ []) (durable magic)).bytes ≡ with_head 0 []
first_gate = refl

gating_leaves : Leaves (IsClosing magic) (written 8 (0 ∷ []) (durable magic))
gating_leaves = record {
  each = λ image i.
      let stays : image ≡ magic ++ drop 8 image = front_stays (written 8 (0 ∷ []) (durable magic)) magic (0 ∷ []) image first_gate (omega arith) (λ p below. unwritten_before p 8 9 below) i in
      inr (inr (
        omega arith,
        record {
          formatted = (bytes_eq-Decides (take 8 image) magic).1 (ap (take 8) stays);
          ends = i.no_longer;
        },
      ));
}

gates_here : Closes magic (durable magic)
gates_here = record {
  first = durable-leaves (IsClosing magic) magic (inl refl);
  closed = gating_leaves;
  kept = durable-leaves (IsClosing magic) (with_head 0 []) (inr (inl (closed_with 0 [] (λ no. absurd (omega arith)))));
  holds = holds_with 0 [] (λ no. absurd (omega arith));
}

front_long : (file : List ℕ) → is_formatted file ≡ true → 8 ≤ length file
front_long file is = let same : take 8 file ≡ magic = (bytes_eq-Decides (take 8 file) magic).0 is in omega (arith, ap length same, length-take 8 file)

-- a gate may be written into every such file
pub gate_within : (m : Moment) → IsIdle m → 8 ≤ length m.bytes
gate_within m idle = front_long m.bytes idle.formatted

closes_none : (before : List ℕ) (m : Moment) → IsIdle m → m.bytes ≡ before → length m.bytes ≤ 8 → Closes before m
closes_none before m idle same short =
    let file : m.bytes ≡ magic = sym (take_all 8 m.bytes short) ∙ (bytes_eq-Decides (take 8 m.bytes) magic).0 idle.formatted in
    subst (λ (b : List ℕ). Closes b m) (sym file ∙ same) (subst (Closes magic) (sym (idle.durable ∙ ap durable file)) gates_here)

pub closes : (before : List ℕ) (m : Moment) → IsIdle m → m.bytes ≡ before → (ltb 8 (length m.bytes) && not (head_is_open m.bytes)) ≡ false → Closes before m
closes before m idle same unclosed = elim (and_cases (ltb 8 (length m.bytes)) (not (head_is_open m.bytes)) unclosed) [
  | inl short ↦ closes_none before m idle same (ltb-false 8 (length m.bytes) short)
  | inr opened ↦ elim (cases_lt 8 (length m.bytes)) [
    | inl long ↦ closes_open before m idle same long (not-false (head_is_open m.bytes) opened)
    | inr short ↦ closes_none before m idle same short
  ]
]

-- a gate that was read, and is closed
pub reads_held : (m : Moment) → IsIdle m → (ltb 8 (length m.bytes) && not (head_is_open m.bytes)) ≡ true → HoldsClosed m
reads_held m idle closed =
    let both = and_parts (ltb 8 (length m.bytes)) (not (head_is_open m.bytes)) closed in
    record { idle = idle; gate = ltb-true 8 (length m.bytes) both.0; closed = not-true (head_is_open m.bytes) both.1 }

-- a disk that is left as it is
pub left_alone : (P : List ℕ → Type 0) (before : List ℕ) (m : Moment) → IsIdle m → m.bytes ≡ before → P before → Leaves P m
left_alone P before m idle same p = subst (Leaves P) (sym (idle.durable ∙ ap durable same)) (durable-leaves P before p)

pub idle_leaves : (before : List ℕ) (m : Moment) → IsIdle m → m.bytes ≡ before → Leaves (IsClosing before) m
idle_leaves before m idle same = left_alone (IsClosing before) before m idle same (inl refl)

-- ---- opening it
pub record Opens (body : List ℕ) (m : Moment) : Type 0 where
  pub first : Leaves (IsOpening body) m
  pub opened : Leaves (IsOpening body) (written 8 (1 ∷ []) m)
  pub kept : Leaves (IsOpening body) (synced (written 8 (1 ∷ []) m))
  pub held : synced (written 8 (1 ∷ []) m) ≡ durable (with_head 1 body)

other_byte : (gate : ℕ) (body : List ℕ) → (written 8 (1 ∷ []) (durable (with_head gate body))).bytes ≡ with_head 1 body
other_byte gate body = written_byte 8 magic body gate 1 refl

some_gate : (any : ℕ) (body image : List ℕ) → image ≡ with_head any body → IsOpening body image
some_gate any body image is = elim (cases_eq any 1) [
  | inl opened ↦ inr (is ∙ ap (λ g. with_head g body) opened)
  | inr closed ↦ inl (subst IsClosed (sym is) (closed_with any body closed))
]

opens_here : (gate : ℕ) (body : List ℕ) → (gate ≡ 1 → ⊥) → Opens body (durable (with_head gate body))
opens_here gate body closed = record {
  first = durable-leaves (IsOpening body) (with_head gate body) (inl (closed_with gate body closed));
  opened = record {
    each = λ image i. let one = around_byte 8 magic body gate 1 image refl i in some_gate one.0 body image one.1;
  };
  kept = subst (λ (l : List ℕ). Leaves (IsOpening body) (durable l)) (sym (other_byte gate body)) (durable-leaves (IsOpening body) (with_head 1 body) (inr refl));
  held = ap durable (other_byte gate body);
}

pub not_open : (file : List ℕ) → head_is_open file ≡ false → get_or file 8 0 ≡ 1 → ⊥
not_open file closed one = false≢true (sym closed ∙ ap (λ g. eqb g 1) one)

pub opens : (body : List ℕ) (m : Moment) → HoldsBody body m → Opens body m
opens body m holds =
    let idle = holds.held.idle in
    subst (λ (b : List ℕ). Opens b m) holds.is
    (subst (Opens (drop 9 m.bytes)) (sym (idle_is m idle holds.held.gate)) (opens_here (get_or m.bytes 8 0) (drop 9 m.bytes) (not_open m.bytes holds.held.closed)))

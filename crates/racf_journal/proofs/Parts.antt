-- A file that is read is its front, its records and an end.
use Rattle.std.proofs.Common.{ℕ, zero, suc, ◌+◌, ◌-◌, ◌≤◌, ◌≡◌, ◌∙◌, Bool, true, cond, eqb, ltb, List, [], ◌∷◌, ◌++◌, length, take, drop, Result, Ok, Err, refl, sym, ap, subst, arith, append_assoc, length-append, inl, inr}
use Rattle.std.proofs.lemmas.List.{take-append-drop, take_at, length-take-le}
use Rattle.std.proofs.lemmas.Bool.{cases_Bool, eqb-true, ltb-false, cond-true, cond-false}
use Rattle.std.proofs.Math.Seq.{take-append-add}
use Rattle.racf_journal.specs.declared.fault.JournalFault.{JournalFault}
use Rattle.racf_journal.specs.declared.fault.JournalFault.TheVariants.{NotFormatted, Damaged}
use Rattle.racf_journal.specs.Reading.{Reading, claims, is_formatted, ends_at, and_then_read, walk, reading, IsEnd, spelled}
use Rattle.racf_journal.specs.Repair.{IsScanned, Ends}
use Rattle.racf_journal.proofs.Walks.{IsRecord-front}
use Rattle.racf_journal.proofs.Opens.{base_size, base_whole, ends_read, reading-formatted, reading-unformatted}

never : {T : Type 0} (fault : JournalFault) (found : Reading) → ◌≡◌ {A = Result Reading JournalFault} (Err fault) (Ok found) → T
never fault found e = cc

same_Ok : (x y : Reading) → ◌≡◌ {A = Result Reading JournalFault} (Ok x) (Ok y) → x ≡ y
same_Ok x y e = cc

-- an end is no record
ended : (place : ℕ) (bytes : List ℕ) (found : Reading) → IsEnd bytes → ends_at place ≡ Ok found → IsScanned place bytes found.records found.gate
ended place bytes found is e =
    subst (λ (r : Reading). IsScanned place bytes r.records r.gate) (same_Ok (record { records = []; gate = place }) found e) (record { end = bytes; split = refl; ends = is; lawful = tt; to = omega arith })

-- one record, and what else was read
more_read : (first : List ℕ) (more : Result Reading JournalFault) (found : Reading) → and_then_read first more ≡ Ok found → (rest : Reading) × (more ≡ Ok rest) × (record { records = first ∷ rest.records; gate = rest.gate } ≡ found)
more_read first (Ok rest) found e = (rest, refl, same_Ok (record { records = first ∷ rest.records; gate = rest.gate }) found e)
more_read first (Err fault) found e = never fault found e

one_more : (place gate : ℕ) (bytes : List ℕ) (rest found : Reading) → gate ≡ 1 → claims bytes ≤ length bytes → IsScanned (suc place + claims bytes) (drop (claims bytes) bytes) rest.records rest.gate → record { records = take (claims bytes) bytes ∷ rest.records; gate = rest.gate } ≡ found
    → IsScanned place (gate ∷ bytes) found.records found.gate
one_more place gate bytes rest found is whole s e = subst (λ (r : Reading). IsScanned place (gate ∷ bytes) r.records r.gate) e (record {
  end = s.end;
  split = ap (λ g. g ∷ bytes) is ∙ ap (λ (l : List ℕ). 1 ∷ l) (sym (take-append-drop n bytes) ∙ ap (λ (l : List ℕ). take n bytes ++ l) s.split ∙ sym (append_assoc (take n bytes) (spelled rest.records) s.end));
  ends = s.ends;
  lawful = (IsRecord-front bytes whole, s.lawful);
  to = omega (arith, s.to, length-append (take n bytes) (spelled rest.records), length-take-le n bytes whole);
})
  where
    n : ℕ
    n = claims bytes

pub parts : (skip place : ℕ) (bytes : List ℕ) (found : Reading) → skip ≤ length bytes → walk skip place bytes ≡ Ok found → IsScanned (place + skip) (drop skip bytes) found.records found.gate
parts zero place [] found within e = let same : place ≡ place + 0 = omega arith in subst (λ p. IsScanned p [] found.records found.gate) same (ended place [] found refl e)
parts (suc skip) place [] found within e = absurd (omega arith)
parts (suc skip) place (byte ∷ bytes) found within e =
    let same : suc place + skip ≡ place + suc skip = omega arith in
    subst (λ p. IsScanned p (drop skip bytes) found.records found.gate) same (parts skip (suc place) bytes found (omega arith) e)
parts zero place (gate ∷ []) found within e = let same : place ≡ place + 0 = omega arith in subst (λ p. IsScanned p (gate ∷ []) found.records found.gate) same (ended place (gate ∷ []) found refl e)
parts zero place (gate ∷ byte ∷ bytes) found within e =
    let same : place ≡ place + 0 = omega arith in
    let body : List ℕ = byte ∷ bytes in
    let then : Result Reading JournalFault = and_then_read (take (claims body) body) (walk (claims body) (suc place) body) in
    let is_short : Bool = ltb (length body) (claims body) in
    subst (λ p. IsScanned p (gate ∷ body) found.records found.gate) same (elim (cases_Bool (eqb gate 1)) [
      | inr closed ↦ ended place (gate ∷ body) found closed (sym (cond-false (eqb gate 1) (cond is_short (Err (Damaged place)) then) (ends_at place) closed) ∙ e)
      | inl is_open ↦
          let here : cond is_short (Err (Damaged place)) then ≡ Ok found = sym (cond-true (eqb gate 1) (cond is_short (Err (Damaged place)) then) (ends_at place) is_open) ∙ e in
          elim (cases_Bool is_short) [
            | inl short ↦ never (Damaged place) found (sym (cond-true is_short (Err (Damaged place)) then short) ∙ here)
            | inr whole ↦
                let le : claims body ≤ length body = ltb-false (length body) (claims body) whole in
                let more = more_read (take (claims body) body) (walk (claims body) (suc place) body) found (sym (cond-false is_short (Err (Damaged place)) then whole) ∙ here) in
                one_more place gate body more.0 found (eqb-true gate 1 is_open) le (parts (claims (byte ∷ bytes)) (suc place) (byte ∷ bytes) more.0 le more.1) more.2
          ]
    ])

-- a front of an end is an end
end_front : (n : ℕ) (bytes : List ℕ) → IsEnd bytes → IsEnd (take n bytes)
end_front zero bytes is = refl
end_front (suc n) [] is = refl
end_front (suc zero) (gate ∷ bytes) is = refl
end_front (suc (suc n)) (gate ∷ []) is = refl
end_front (suc (suc n)) (gate ∷ byte ∷ bytes) is = is

-- a file that is read begins as it has to
pub formatted : (start : ℕ) (file : List ℕ) (found : Reading) → reading start file ≡ Ok found → is_formatted start file ≡ true
formatted start file found reads = elim (cases_Bool (is_formatted start file)) [
  | inl is ↦ is
  | inr not_so ↦ never NotFormatted found (sym (reading-unformatted start file not_so) ∙ reads)
]

module _ (start : ℕ) (file : List ℕ) (found : Reading) (least : 8 ≤ start) (within : start ≤ length file) (reads : reading start file ≡ Ok found) where
  s : IsScanned start (drop start file) found.records found.gate
  s = let same : start + 0 ≡ start = omega arith in
      subst (λ p. IsScanned p (drop start file) found.records found.gate) same (parts zero start (drop start file) found (omega arith) (sym (reading-formatted start file (formatted start file found reads)) ∙ reads))

  abbrev front : List ℕ
  front = take start file ++ spelled found.records

  size : length front ≡ found.gate
  size = base_size start found.gate found.records file (drop start file) least within (formatted start file found reads) refl s

  whole : file ≡ front ++ s.end
  whole = base_whole start found.gate found.records file (drop start file) least within (formatted start file found reads) refl s

  reads_other : (other : List ℕ) → Ends front other → reading start other ≡ Ok found
  reads_other other e = (ends_read start found.gate found.records file (drop start file) least within (formatted start file found reads) refl s other e).1

  pub reads_cut : (end : ℕ) → found.gate ≤ end → reading start (take end file) ≡ Ok found
  reads_cut end behind =
      let n : ℕ = end - found.gate in
      let place : end ≡ length front + n = omega (arith, size) in
      reads_other (take end file) (record {
        end = take n s.end;
        split = ap (take end) whole ∙ ap (λ k. take k (front ++ s.end)) place ∙ take-append-add front s.end n;
        ends = end_front n s.end s.ends;
      })

  pub reads_rewritten : (byte : ℕ) → reading start (take found.gate file ++ byte ∷ []) ≡ Ok found
  reads_rewritten byte = reads_other (take found.gate file ++ byte ∷ []) (record {
    end = byte ∷ [];
    split = ap (λ (l : List ℕ). l ++ byte ∷ []) (ap (take found.gate) whole ∙ take_at front s.end found.gate size);
    ends = refl;
  })

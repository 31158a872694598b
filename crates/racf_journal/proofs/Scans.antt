-- How the records of a file are found, one after another, and how its bytes are read.
use Rattle.std.proofs.Common.{ℕ, ◌+◌, ◌-◌, ◌<◌, ◌≤◌, ◌≡◌, ◌∙◌, inl, inr, min, Bool, true, false, ◌||◌, List, [], ◌∷◌, ◌++◌, length, take, drop, Ok, Err, sym, ap, arith, append_assoc, length-append}
use Rattle.std.specs.Prelude.{bytes_eq}
use Rattle.std.specs.List.{AllByRecursion}
use Rattle.std.proofs.lemmas.List.{take_rest, take_min, take_all, take-take, drop-take, drop-drop, take-append-drop, length-take-le}
use Rattle.std.proofs.lemmas.Bool.{eqb-true, le-ltb, cases_lt}
use Rattle.racf_journal.specs.declared.fault.JournalFault.TheVariants.{Damaged}
use Rattle.racf_journal.specs.Reading.{magic, is_formatted, claims, IsRecord, walk, is_open, spelled}
use Rattle.racf_journal.proofs.Walks.{walk_to_damage, walk_to_end, IsRecord-front, lawful-push, spelled-push}

-- an open gate is X'01', and something follows it
pub open_is : (bytes : List ℕ) → is_open bytes ≡ true → (bytes ≡ 1 ∷ drop 1 bytes) × (0 < length (drop 1 bytes))
open_is [] is = cc
open_is (gate ∷ []) is = cc
open_is (gate ∷ byte ∷ bytes) is = (ap (λ g. g ∷ byte ∷ bytes) (eqb-true gate 1 is), omega arith)

module _ (bytes : List ℕ) (records : List (List ℕ)) (rest : List ℕ) (split : bytes ≡ spelled records ++ rest) (lawful : AllByRecursion IsRecord records) (is : is_open rest ≡ true) where
  -- a gate without a whole record
  pub scanned_damage : (start gate : ℕ) → gate ≡ start + length (spelled records) → length (drop 1 rest) < claims (drop 1 rest) → walk 0 start bytes ≡ Err (Damaged gate)
  scanned_damage start gate to short =
      ap (walk 0 start) (split ∙ ap (λ (l : List ℕ). spelled records ++ l) (open_is rest is).0)
      ∙ walk_to_damage records start (drop 1 rest) lawful (open_is rest is).1 short
      ∙ ap (λ n. Err (Damaged n)) (sym to)

  -- one record more
  module _ (first : List ℕ) (more : List (List ℕ)) (whole : claims (drop 1 rest) ≤ length (drop 1 rest)) (front : first ≡ take (claims (drop 1 rest)) (drop 1 rest)) (pushed : more ≡ records ++ first ∷ []) where
    size : length first ≡ claims (drop 1 rest)
    size = ap length front ∙ length-take-le (claims (drop 1 rest)) (drop 1 rest) whole

    pub scanned_split : bytes ≡ spelled more ++ take (length rest - (1 + length first)) (drop (1 + length first) rest)
    scanned_split =
        let behind : drop (1 + length first) rest ≡ drop (length first) (drop 1 rest) = sym (drop-drop (length first) 1 rest) in
        let body : first ++ drop (length first) (drop 1 rest) ≡ drop 1 rest = ap (λ (l : List ℕ). l ++ drop (length first) (drop 1 rest)) (front ∙ ap (λ n. take n (drop 1 rest)) (sym size)) ∙ take-append-drop (length first) (drop 1 rest) in
        split
        ∙ ap (λ (l : List ℕ). spelled records ++ l) ((open_is rest is).0 ∙ ap (λ (l : List ℕ). 1 ∷ l) (sym body))
        ∙ sym (append_assoc (spelled records) (1 ∷ first) (drop (length first) (drop 1 rest)))
        ∙ ap (λ (l : List ℕ). l ++ drop (length first) (drop 1 rest)) (sym (spelled-push records first) ∙ ap spelled (sym pushed))
        ∙ ap (λ (l : List ℕ). spelled more ++ l) (sym (take_rest rest (1 + length first) ∙ behind))

    pub scanned_lawful : AllByRecursion IsRecord more
    scanned_lawful = subst_more (lawful-push records first lawful (subst_first (IsRecord-front (drop 1 rest) whole)))
      where
        subst_first : IsRecord (take (claims (drop 1 rest)) (drop 1 rest)) → IsRecord first
        subst_first h = rw front h

        subst_more : AllByRecursion IsRecord (records ++ first ∷ []) → AllByRecursion IsRecord more
        subst_more h = rw pushed h

    pub scanned_to : (start gate : ℕ) → gate ≡ start + length (spelled records) → gate + (1 + length first) ≡ start + length (spelled more)
    scanned_to start gate to = omega (arith, to, ap (λ (l : List (List ℕ)). length (spelled l)) pushed, ap length (spelled-push records first), length-append (spelled records) (1 ∷ first))

-- the end
pub scanned_end : (bytes : List ℕ) (records : List (List ℕ)) (rest : List ℕ) → bytes ≡ spelled records ++ rest → AllByRecursion IsRecord records → is_open rest ≡ false → (start gate : ℕ) → gate ≡ start + length (spelled records)
    → walk 0 start bytes ≡ Ok (record { records = records; gate = gate })
scanned_end bytes records rest split lawful is start gate to =
    ap (walk 0 start) split ∙ walk_to_end records start rest lawful is ∙ ap (λ n. Ok (record { records = records; gate = n })) (sym to)

-- a piece more of what is read from a place on
pub read_more : (bytes piece more file : List ℕ) (start count : ℕ) → bytes ≡ take (length bytes) (drop start file) → length piece ≡ count → piece ≡ take count (drop (start + length bytes) file) → more ≡ bytes ++ piece → more ≡ take (length more) (drop start file)
read_more bytes piece more file start count so_far size is pushed =
    let n : ℕ = length bytes in
    let rest : List ℕ = drop start file in
    let long : length more ≡ n + count = ap length pushed ∙ length-append bytes piece ∙ ap (λ k. n + k) size in
    let front : take n (take (n + count) rest) ≡ bytes = take-take n (n + count) rest (omega arith) ∙ sym so_far in
    let back : drop n (take (n + count) rest) ≡ piece = drop-take n count rest ∙ ap (take count) (drop-drop n start file) ∙ sym is in
    pushed
    ∙ ap (λ (l : List ℕ). l ++ piece) (sym front)
    ∙ ap (λ (l : List ℕ). take n (take (n + count) rest) ++ l) (sym back)
    ∙ take-append-drop n (take (n + count) rest)
    ∙ ap (λ k. take k rest) (sym long)

-- the front of a file that is read into eight bytes
pub formatted_read : (start : ℕ) (count : ℕ) (into file : List ℕ) (formatted : Bool) → start ≤ 8 → length into ≡ 8 → count ≡ min (length into) (length file - 0) → take count into ≡ take count (drop 0 file) → formatted ≡ bytes_eq (take count into) magic → formatted ≡ is_formatted start file
formatted_read start count into file formatted low size counted same is =
    let all : count ≡ min 8 (length file) = omega (arith, size, counted) in
    is
    ∙ ap (λ (l : List ℕ). bytes_eq l magic) (same ∙ ap (λ n. take n file) all ∙ take_min 8 file)
    ∙ sym (ap (λ b. b || bytes_eq (take 8 file) magic) (le-ltb 8 start low))

-- the front of a file is read where there was room for no more of it, or no more was found
pub front_whole : (have file : List ℕ) (most block : ℕ) → have ≡ take (length have) file → length have ≤ most → 0 < block → min (min (most - length have) block) (length file - length have) ≡ 0 → have ≡ take most file
front_whole have file most block is within some none = elim (cases_lt (length have) most) [
  | inl below ↦
      let short : length file ≤ length have = omega (arith, none, some, below) in
      is ∙ take_all (length have) file short ∙ sym (take_all most file (omega (arith, short, within)))
  | inr past ↦
      let same : length have ≡ most = omega (arith, past, within) in
      is ∙ ap (λ n. take n file) same
]

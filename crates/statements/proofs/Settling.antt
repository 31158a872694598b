-- What is gathered over several writes, each of which may come to nothing.
use Rattle.std.proofs.Common.{◌≡◌, ℕ, ◌+◌, List, [], ◌++◌, length, take, inl, inr, refl, sym, ◌∙◌, ap, subst, arith, length-append}
use Rattle.std.specs.Prelude.{◌⊎◌, Option, Result, Ok, Err, IsTrue, OnErr}
use Rattle.std.specs.Io.KnownBytes.{append_known}
use Rattle.racf_outside.specs.Reader.{Reader, has_feed, KeepsSource}
use Rattle.statements.specs.Gathering.{Settles, IsCutShort, IsPrompt}
use Rattle.std.proofs.Math.Seq.{take-append-add}
use Rattle.statements.proofs.Folds.{append_known-append, append_known-nil}

pub Settles-none : (gathered : List ℕ) (before : Option (List ℕ)) → Settles gathered gathered before before
Settles-none gathered before = inl (refl, refl)

pub Settles-then : (gathered rest last : List ℕ) (before now then : Option (List ℕ)) → Settles gathered rest before now → Settles rest last now then → Settles gathered last before then
Settles-then gathered rest last before now then (inl kept) (inl same) = inl (same.0 ∙ kept.0, same.1 ∙ kept.1)
Settles-then gathered rest last before now then (inl kept) (inr wrote) =
    inr (wrote.0, wrote.1 ∙ ap (append_known now) kept.0 ∙ ap (λ known. append_known known gathered) kept.1)
Settles-then gathered rest last before now then (inr wrote) (inl same) = inr (same.0 ∙ wrote.0, same.1 ∙ wrote.1)
Settles-then gathered rest last before now then (inr wrote) (inr nothing) =
    inr (nothing.0, nothing.1 ∙ ap (append_known now) wrote.0 ∙ append_known-nil now ∙ wrote.1)

-- where nothing waits, nothing comes to wait
none_left : (rest last : List ℕ) (now then : Option (List ℕ)) → Settles rest last now then → rest ≡ [] → last ≡ []
none_left rest last now then (inl same) none = same.0 ∙ none
none_left rest last now then (inr wrote) none = wrote.0

-- The source was not read, and not read again.
kept_then : (old mid new : Reader) → KeepsSource old mid → KeepsSource mid new → KeepsSource old new
kept_then old mid new first second = record { left = second.left ∙ first.left; faults = second.faults ∙ first.faults }

-- No reply waited so far, and none waits while the next line is read.
pub prompt_then : (rest last : List ℕ) (now then : Option (List ℕ)) (old mid new : Reader) → IsPrompt rest old mid → Settles rest last now then
    → (last ≡ []) ⊎ IsTrue (has_feed mid.held) → (IsTrue (has_feed mid.held) → KeepsSource mid new) → IsPrompt last old new
prompt_then rest last now then old mid new so_far settled (inl none) held = inl none
prompt_then rest last now then old mid new (inl none) settled (inr at_hand) held = inl (none_left rest last now then settled none)
prompt_then rest last now then old mid new (inr kept) settled (inr at_hand) held = inr (kept_then old mid new kept (held at_hand))

-- a write that failed later failed in what was gathered first
pub cut_later : (gathered rest : List ℕ) (before now then : Option (List ℕ)) → Settles gathered rest before now → IsCutShort rest now then → IsCutShort gathered before then
cut_later gathered rest before now then (inl kept) cut =
    subst (λ (bytes : List ℕ). IsCutShort bytes before then) kept.0 (subst (λ (known : Option (List ℕ)). IsCutShort rest known then) kept.1 cut)
cut_later gathered rest before now then (inr wrote) cut =
    let size : length rest ≡ 0 = ap length wrote.0 in
    absurd (omega (arith, cut.short, size))

-- and what was gathered then stays
pub kept_later : (gathered rest last : List ℕ) (before now then : Option (List ℕ)) → Settles gathered rest before now → IsCutShort rest now then → last ≡ rest → last ≡ gathered
kept_later gathered rest last before now then (inl kept) cut same = same ∙ kept.0
kept_later gathered rest last before now then (inr wrote) cut same =
    let size : length rest ≡ 0 = ap length wrote.0 in
    absurd (omega (arith, cut.short, size))

-- what holds at a fault
pub at_fault : {T E P : Type 0} (r : Result T E) → P → OnErr r P
at_fault (Ok value) h = tt
at_fault (Err why) h = h

-- a text that was written whole, and one behind it that was cut short
pub cut_behind : (first second : List ℕ) (before now then : Option (List ℕ)) → now ≡ append_known before first → IsCutShort second now then → IsCutShort (first ++ second) before then
cut_behind first second before now then wrote cut =
    record {
      count = length first + cut.count;
      short = let short = cut.short in omega (arith, short, length-append first second);
      front =
          cut.front
          ∙ ap (λ known. append_known known (take cut.count second)) wrote
          ∙ sym (append_known-append before first (take cut.count second))
          ∙ ap (append_known before) (sym (take-append-add first second cut.count));
    }

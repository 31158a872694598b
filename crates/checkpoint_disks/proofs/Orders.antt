-- What two files say while the one is made bare before the other.
use Rattle.std.proofs.Common.{ℕ, ◌≤◌, ◌^◌, ◌≡◌, ◌∙◌, inl, inr, Bool, true, false, ◌&&◌, cond, eqb, ltb, List, [], length, Option, Some, None, Result, Ok, Err, refl, sym, ap, arith}
use Rattle.std.proofs.lemmas.Bool.{le-ltb, lt-ltb, cases_Bool, cond-true, cond-false, false≢true}
use Rattle.checkpoint_disks.specs.declared.counting.Side.{Side}
use Rattle.checkpoint_disks.specs.declared.counting.Side.TheVariants.{First, Second}
use Rattle.checkpoint_disks.specs.declared.fault.CheckpointFault.{CheckpointFault}
use Rattle.checkpoint_disks.specs.declared.fault.CheckpointFault.TheVariants.{NotFormatted, Damaged}
use Rattle.checkpoint_disks.specs.Files.{is_formatted, head_is_open, epoch_of, head_of, CheckpointRead, contents}
use Rattle.checkpoint_disks.specs.Counting.{which, file_on, counted, said}
use Rattle.checkpoint_disks.specs.Compacting.{with_head, first_of, second_of, said_beside}
use Rattle.checkpoint_disks.specs.Baring.{SaysNothing, IsBaring, not_counting, first_to_go}
use Rattle.checkpoint_disks.proofs.Contents.{contents-head}
use Rattle.checkpoint_disks.proofs.Counts.{counted_open}

err_ok : {X : Type 0} (why : CheckpointFault) (kept : CheckpointRead) → ◌≡◌ {A = Result CheckpointRead CheckpointFault} (Err why) (Ok kept) → X
err_ok why kept e = absurd cc

-- ---- what two files say that say something

both_formatted : (f g : Bool) (read : Result CheckpointRead CheckpointFault) (kept : CheckpointRead) → cond (f && g) read (Err NotFormatted) ≡ Ok kept → (f ≡ true) × (g ≡ true) × (read ≡ Ok kept)
both_formatted true true read kept e = (refl, refl, e)
both_formatted true false read kept e = err_ok NotFormatted kept e
both_formatted false g read kept e = err_ok NotFormatted kept e

some_counted : (first second : List ℕ) (side : Option Side) (kept : CheckpointRead) → counted first second side ≡ Ok kept → (at : Side) × (side ≡ Some at) × (contents (file_on at first second) ≡ Ok kept)
some_counted first second None kept e = err_ok NotFormatted kept e
some_counted first second (Some at) kept e = (at, refl, e)

pub record Tells (first second : List ℕ) (kept : CheckpointRead) : Type 0 where
  pub first_formatted : is_formatted first ≡ true
  pub second_formatted : is_formatted second ≡ true
  pub at : Side
  pub counts : which first second ≡ Some at
  pub says : contents (file_on at first second) ≡ Ok kept

tells : (first second : List ℕ) (kept : CheckpointRead) → said first second ≡ Ok kept → Tells first second kept
tells first second kept e =
    let both = both_formatted (is_formatted first) (is_formatted second) (counted first second (which first second)) kept e in
    let some = some_counted first second (which first second) kept both.2 in
    record { first_formatted = both.0; second_formatted = both.1; at = some.0; counts = some.1; says = some.2 }

-- ---- a file that says nothing

no_epoch : (file : List ℕ) → length file ≤ 9 → head_of file ≡ Err (Damaged 9)
unfolding head_of epoch_of
no_epoch file short =
    cond-false (ltb (2 ^ 28) (length file)) _ _ (le-ltb (2 ^ 28) (length file) (omega (arith, short)))
    ∙ cond-true (eqb (epoch_of file) 0) _ _ (ap (λ n. eqb n 0) (cond-true (ltb (length file) 17) _ _ (lt-ltb (length file) 17 (omega (arith, short)))))

not_said : {X : Type 0} (file : List ℕ) (kept : CheckpointRead) → SaysNothing file → head_is_open file ≡ true → contents file ≡ Ok kept → X
not_said file kept (inl closed) opened says = absurd (false≢true (sym closed ∙ opened))
not_said file kept (inr short) opened says = err_ok (Damaged 9) kept (sym (contents-head file (Damaged 9) (no_epoch file short)) ∙ says)

-- beside it the other one is what the two say
abbrev OtherSays : (other : List ℕ) → CheckpointRead → Type 0
OtherSays other kept = (is_formatted other ≡ true) × (head_is_open other ≡ true) × (contents other ≡ Ok kept)

beside_nothing : (side : Side) (file other : List ℕ) (kept : CheckpointRead) → SaysNothing file → said_beside side file other ≡ Ok kept → OtherSays other kept
beside_nothing First file other kept nothing e = by t.at t.counts t.says
  where
    t : Tells file other kept
    t = tells file other kept e

    by : (at : Side) → which file other ≡ Some at → contents (file_on at file other) ≡ Ok kept → OtherSays other kept
    by First counts says = not_said file kept nothing (counted_open file other First counts) says
    by Second counts says = (t.second_formatted, counted_open file other Second counts, says)
beside_nothing Second file other kept nothing e = by t.at t.counts t.says
  where
    t : Tells other file kept
    t = tells other file kept e

    by : (at : Side) → which other file ≡ Some at → contents (file_on at other file) ≡ Ok kept → OtherSays other kept
    by First counts says = (t.first_formatted, counted_open other file First counts, says)
    by Second counts says = not_said file kept nothing (counted_open other file Second counts) says

-- ---- the one that goes first

sides_differ : {X : Type 0} → ◌≡◌ {A = Side} Second First → X
sides_differ e = absurd cc

sides_differ_too : {X : Type 0} → ◌≡◌ {A = Side} First Second → X
sides_differ_too e = absurd cc

none_counts : (first second : List ℕ) → head_is_open second ≡ true → which first second ≡ None → ⊥
none_counts first second opened none = by (head_is_open first) (ltb (epoch_of first) (epoch_of second)) (rw opened at none)
  where
    by : (one below : Bool) → ◌≡◌ {A = Option Side} (cond one (cond (true && below) (Some Second) (Some First)) (cond true (Some Second) None)) None → ⊥
    by true true e = cc
    by true false e = cc
    by false below e = cc

second_counts : (first second : List ℕ) → not_counting (which first second) ≡ First → head_is_open second ≡ true → which first second ≡ Some Second
second_counts first second goes opened = by (which first second) refl goes
  where
    by : (w : Option Side) → which first second ≡ w → not_counting w ≡ First → which first second ≡ Some Second
    by (Some First) is e = sides_differ e
    by (Some Second) is e = is
    by None is e = absurd (none_counts first second opened is)

first_counts : (first second : List ℕ) → not_counting (which first second) ≡ Second → which first second ≡ Some First
first_counts first second goes = by (which first second) refl goes
  where
    by : (w : Option Side) → which first second ≡ w → not_counting w ≡ Second → which first second ≡ Some First
    by (Some First) is e = is
    by (Some Second) is e = sides_differ_too e
    by None is e = sides_differ_too e

-- the other, where it may be said, is said
other_said : (side : Side) (one other : List ℕ) → first_to_go (first_of side one other) (second_of side one other) ≡ side → is_formatted other ≡ true → head_is_open other ≡ true → said_beside side one other ≡ contents other
other_said First one other goes formatted opened = elim (cases_Bool (is_formatted one)) [
  | inl both ↦
      let counts : which one other ≡ Some Second = second_counts one other (rw (both, formatted) at goes) opened in
      rw (both, formatted, counts) refl
  | inr alone ↦ sides_differ (rw alone at goes)
]
other_said Second one other goes formatted opened = elim (cases_Bool (is_formatted one)) [
  | inl both ↦
      let counts : which other one ≡ Some First = first_counts other one (rw (formatted, both) at goes) in
      rw (formatted, both, counts) refl
  | inr alone ↦ sides_differ_too (rw (formatted, alone) at goes)
]

still_said : (side : Side) (one other : List ℕ) (kept : CheckpointRead) → first_to_go (first_of side one other) (second_of side one other) ≡ side → OtherSays other kept → said_beside side one other ≡ Ok kept
still_said side one other kept goes says = other_said side one other goes says.0 says.1 ∙ says.2

pub first_bared : (side : Side) (one other file : List ℕ) (kept : CheckpointRead) → first_to_go (first_of side one other) (second_of side one other) ≡ side → IsBaring one file → said_beside side file other ≡ Ok kept
    → said_beside side one other ≡ Ok kept
first_bared side one other file kept goes (inl same) e = ap (λ f. said_beside side f other) (sym same) ∙ e
first_bared side one other file kept goes (inr nothing) e = still_said side one other kept goes (beside_nothing side file other kept nothing e)

pub other_bared : (side : Side) (one other file : List ℕ) (kept : CheckpointRead) → first_to_go (first_of side one other) (second_of side one other) ≡ side → IsBaring other file → said_beside side (with_head 0 []) file ≡ Ok kept
    → said_beside side one other ≡ Ok kept
other_bared side one other file kept goes baring e = by baring (beside_nothing side (with_head 0 []) file kept (inl refl) e)
  where
    by : IsBaring other file → OtherSays file kept → said_beside side one other ≡ Ok kept
    by (inl same) says = still_said side one other kept goes (ap is_formatted (sym same) ∙ says.0, ap head_is_open (sym same) ∙ says.1, ap contents (sym same) ∙ says.2)
    by (inr nothing) says = not_said file kept nothing says.1 says.2

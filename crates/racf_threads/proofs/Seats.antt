-- The workers of a run, as they are seated one after another.
use Rattle.std.proofs.Common.{◌≡◌, suc, ◌<◌, List, [], ◌∷◌, ◌++◌, length, Some, None, refl, ap, arith, append_assoc}
use Rattle.std.specs.Prelude.{Option, IsSome}
use Rattle.std.specs.Option.{option_to_list}
use Rattle.raclist_snapshots.specs.Publishing.{Seeing}
use Rattle.racroute.specs.Core.{Passing}
use Rattle.statements.specs.declared.status.Status.TheVariants as statuses
use Rattle.racf_threads.specs.Working.{Working, new_workers}

module _ {I K : Type 0} where
  first : (pass : Option Passing) (given : Option (I × K)) (passes : List Passing) (files : List (I × K)) → (0 < length (option_to_list pass ++ passes) → IsSome pass) → IsSome given
      → record { caller = record { events = []; learned = 0 }; pass = pass; end = None; files = given; status = statuses.NoMemory } ∷ new_workers passes files
      ≡ new_workers (option_to_list pass ++ passes) (option_to_list given ++ files)
  first pass None passes files some there = cc
  first (Some pass) (Some given) passes files some there = refl
  first None (Some given) [] files some there = refl
  first None (Some given) (pass ∷ passes) files some there = let no : IsSome {T = Passing} None = some (omega arith) in cc

  -- Who takes the next seat is the next of the workers to come.
  pub seated : (workers : List (Working I K)) (caller : Seeing) (pass : Option Passing) (given : Option (I × K)) (all passes : List Passing) (whole files : List (I × K))
      → caller ≡ record { events = []; learned = 0 } → all ≡ option_to_list pass ++ passes → (0 < length all → IsSome pass) → whole ≡ option_to_list given ++ files → IsSome given
      → (workers ++ record { caller = caller; pass = pass; end = None; files = given; status = statuses.NoMemory } ∷ []) ++ new_workers passes files ≡ workers ++ new_workers all whole
  seated workers caller pass given all passes whole files new behind some after there =
      rw (new, after, behind, append_assoc) (ap (λ (l : List (Working I K)). workers ++ l) (first pass given passes files (rw behind at some) there))

-- There is a seat for each.
pub seats_count : {I K : Type 0} (passes : List Passing) (files : List (I × K)) → length (new_workers passes files) ≡ length files
seats_count passes [] = refl
seats_count [] (given ∷ files) = ap suc (seats_count [] files)
seats_count (pass ∷ passes) (given ∷ files) = ap suc (seats_count passes files)

pub one_item : {X : Type 0} (item : Option X) → IsSome item → length (option_to_list item) ≡ 1
one_item None there = cc
one_item (Some item) there = refl

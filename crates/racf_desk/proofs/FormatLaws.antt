-- What two disks stand for while a new database is written over an old one.
use Rattle.std.proofs.Common.{ℕ, ◌≡◌, ◌∙◌, ◌⊎◌, inl, inr, List, Option, Result, Ok, Err, refl, sym, ap, subst}
use Rattle.racf_outside.specs.Disk.{History}
use Rattle.racf_outside.specs.Moments.{Moment, IsImage}
use Rattle.racf_outside.proofs.Runs.{StaysIn-weaker}
use Rattle.racf_profiles.specs.NewDatabase.{new_database}
use Rattle.checkpoint_disks.specs.Files.{CheckpointRead}
use Rattle.checkpoint_disks.specs.Compacting.{new_checkpoint}
use Rattle.racf_checkpoint.specs.declared.fault.StoreFault.{StoreFault}
use Rattle.racf_checkpoint.specs.Contents.{contents, Says}
use Rattle.racf_checkpoint.specs.Formatting.{WasOrSaysNothing, WasOrIsNew, StaysBaring, StaysFormatting, WasSaid, SaysNoOlder}
use Rattle.racf_checkpoint.specs.Formatting.{LeavesNoOlder as SayNoOlder}
use Rattle.racf_checkpoint.proofs.Syncing.{nothing_stays}
use Rattle.desk_rules.specs.Position.{Position, first_position, restarted}
use Rattle.desk_rules.specs.Recovery.{unless_faulty, recovered, standing}
use Rattle.desk_rules.specs.Formatting.{MightHaveStoodFor, StandsForNoOlder, LeavesNoOlder}
use Rattle.desk_rules.proofs.RecoveryLaws.{standing_is}

-- two files that stand for a position say a checkpoint that leads there
says_it : (first second : List ℕ) (position : Position) → standing first second ≡ Ok position → (kept : CheckpointRead) × Says kept first second × (recovered kept ≡ Ok position)
says_it first second position = by (contents first second) refl
  where
    by : (read : Result CheckpointRead StoreFault) → contents first second ≡ read → unless_faulty read recovered ≡ Ok position → (kept : CheckpointRead) × Says kept first second × (recovered kept ≡ Ok position)
    by (Ok kept) is leads = (kept, is, leads)
    by (Err why) is leads = cc

first_leads : recovered (new_checkpoint 1 0 new_database) ≡ Ok (restarted first_position)
first_leads = refl

same_position : (one two : Position) → ◌≡◌ {A = Result Position StoreFault} (Ok one) (Ok two) → one ≡ two
same_position one two e = cc

stands_no_older : (one two : Moment) (first second : List ℕ) → SaysNoOlder one two first second → StandsForNoOlder one two first second
stands_no_older one two first second says position stands =
    let (kept, said, leads) = says_it first second position stands in
    by kept leads (says kept said)
  where
    by : (kept : CheckpointRead) → recovered kept ≡ Ok position → WasSaid one two kept ⊎ (kept ≡ new_checkpoint 1 0 new_database) → MightHaveStoodFor one two position ⊎ (position ≡ restarted first_position)
    by kept leads (inl (before, behind, i, j, was)) = inl (before, behind, i, j, standing_is kept before behind was ∙ leads)
    by kept leads (inr new) = inr (same_position position (restarted first_position) (sym leads ∙ ap recovered new ∙ first_leads))

pub leaves_no_older : (first second next_first next_second : Option History) → SayNoOlder first second next_first next_second → LeavesNoOlder first second next_first next_second
leaves_no_older first second next_first next_second says one two was also h e = record {
  each = λ file i. λ k f. record { each = λ other j. stands_no_older one two file other (((says one two was also h e).each file i k f).each other j) };
}

-- where nothing was done
pub nothing_older : (first second : Option History) → LeavesNoOlder first second first second
nothing_older first second one two was also h e = record {
  each = λ file i. λ k f. record {
    each = λ other j. λ position stands. inl (file, other, subst (λ m. IsImage m file) (was h e) i, subst (λ m. IsImage m other) (also k f) j, stands);
  };
}

pub nothing_bares : (a : Option History) → StaysBaring a a
nothing_bares a before was = StaysIn-weaker (WasOrSaysNothing before) (nothing_stays a before was) (λ h e file w. inl w)

pub nothing_formats : (a : Option History) → StaysFormatting a a
nothing_formats a before was = StaysIn-weaker (WasOrIsNew before) (nothing_stays a before was) (λ h e file w. inl (inl w))

-- A desk over disks that never fail is never halted, so that a stream at it ends as no disk fails.
use Rattle.std.proofs.Common.{◌≡◌, ℕ, Bool, true, false, List, inl, inr, refl, ◌∙◌, arith}
use Rattle.std.specs.Prelude.{Option, Result}
use Rattle.racf_outside.specs.Causes.{Rose}
use Rattle.racf_outside.specs.declared.streams.Failed.{Failed}
use Rattle.racf_outside.specs.Disk.{History}
use Rattle.racf_checkpoint.specs.Stored.{StoreOn}
use Rattle.desk_rules.specs.Made.{DeskOn}
use Rattle.desk_rules.specs.Position.{Position}
use Rattle.statements.specs.declared.issuer.Issuing.{Issuing}
use Rattle.statements.specs.declared.status.Status.{Status}
use Rattle.racf_stream.specs.Script.{StandsAt}
use Rattle.racf_stream.specs.Stream.{State}
use Rattle.racf_run.proofs.TopLaws.{RunsOnShelf-weaker}
use Rattle.racf_run.specs.Checking.{NeverFailed}
use Rattle.racf_run.specs.Racf.{Files, RunsOnShelf, EndsAt}

-- a count that stays at 0 doesn't rise
none_rose : Rose 0 0 → ⊥
none_rose (inl less) = grind arith
none_rose (inr most) = grind arith

not_true : (b : Bool) → (b ≡ true → ⊥) → b ≡ false
not_true true never = absurd (never refl)
not_true false never = refl

never_failed : {D : Type 0} (desk : DeskOn D) (s : State) → StandsAt desk s → (desk.halted ≡ true → Rose 0 0) → NeverFailed s
never_failed desk s stands fault = not_true s.halted (λ halts. none_rose (fault (stands.halted ∙ halts)))

module _ {S I O : Type 0} (source : S → List ℕ → Result I Failed → S → Type 0) (sink : S → List ℕ → Result O Failed → S → Type 0) (take_back : S → List ℕ → I → S → Type 0) (give_back : S → List ℕ → O → S → Type 0) (outputs : Bool) (output : S → List ℕ → Option (List ℕ)) (R W : Type 0) where
  pub runs_unfailed : {D : Type 0} (tells : D → Option History) (issuing : Issuing) (base : Position) (input : Option (List ℕ)) (start : StoreOn D) (desk : DeskOn D) → (desk.halted ≡ true → Rose 0 0)
      → (status : Status) (bytes : Option (List ℕ)) (files : Files) (old new : S) → RunsOnShelf source sink take_back give_back outputs output R W (EndsAt tells issuing base input start desk) base status bytes files old new
      → RunsOnShelf source sink take_back give_back outputs output R W NeverFailed base status bytes files old new
  runs_unfailed tells issuing base input start desk fault status bytes files old new runs =
      RunsOnShelf-weaker source sink take_back give_back outputs output R W (EndsAt tells issuing base input start desk) NeverFailed base
      (λ s ends. never_failed desk s ends.stands fault) status bytes files old new runs

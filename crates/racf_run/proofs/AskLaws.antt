-- What the word `ask` says of the shelf, by what its parts say.
use Rattle.std.proofs.Common.{◌≡◌, ℕ, Bool, true, false, List, [], None, Some, refl, sym, ◌∙◌, ap, subst}
use Rattle.std.specs.Prelude.{Option, IfSome}
use Rattle.std.specs.Io.KnownBytes.{append_known}
use Rattle.racf_outside.specs.Shelf.{told, SameOthers}
use Rattle.desk_rules.specs.Position.{Position}
use Rattle.statements.specs.declared.status.Status.{Status}
use Rattle.statements.specs.Runs.{Ran}
use Rattle.statements.proofs.Walk.{Ran-causes}
use Rattle.racf_ask.specs.Asking.{AskState, asking, ask_output, ask_status}
use Rattle.racf_run.specs.Asking.{AskedTo, IsWholeAnswer}

pub asked_to : (numbered : Bool) (base : Position) (R R2 W W2 : Type 0) (tells : Bool) (status : Status) (source input left before now : Option (List ℕ)) (name : List ℕ) (old new : List ℕ → Option (List ℕ))
    → Ran (asking numbered base) (λ (s : AskState). Unit {0}) R W status source left before now → (R → R2) → (W → W2) → source ≡ input → before ≡ told tells [] → new name ≡ now → SameOthers name old new
    → AskedTo R2 W2 numbered base tells status input name old new
asked_to numbered base R R2 W W2 tells status source input left before now name old new ran reads writes is_source is_before is_now others =
    let P : AskState → Type 0 = λ s. Unit {0} in
    let m = asking numbered base in
    record {
      left = left;
      ran =
          subst (λ (o : Option (List ℕ)). Ran m P R2 W2 status input left (told tells []) o) (sym is_now)
          (subst (λ (b : Option (List ℕ)). Ran m P R2 W2 status input left b now) is_before
          (subst (λ (s : Option (List ℕ)). Ran m P R2 W2 status s left before now) is_source
          (Ran-causes m P R R2 W W2 status source left before now reads writes ran)));
      others = others;
    }

-- a whole output
told_behind : (tells : Bool) (bytes : List ℕ) → append_known (told tells []) bytes ≡ told tells bytes
told_behind true bytes = refl
told_behind false bytes = refl

abbrev Answered : Bool → Position → Status → (before now : Option (List ℕ)) → List ℕ → Type 0
Answered numbered base status before now bytes = (now ≡ append_known before (ask_output numbered base bytes)) × (status ≡ ask_status numbered base bytes)

by_input : (numbered : Bool) (base : Position) (tells : Bool) (status : Status) (input now : Option (List ℕ)) → IfSome input (Answered numbered base status (told tells []) now) → IsWholeAnswer numbered base tells status input now
by_input numbered base tells status None now h = record { written = tt; ended = tt }
by_input numbered base tells status (Some bytes) now h = record { written = h.0 ∙ told_behind tells (ask_output numbered base bytes); ended = h.1 }

pub whole_answer : (numbered : Bool) (base : Position) (tells : Bool) (status : Status) (source input before now output : Option (List ℕ)) → IfSome source (λ bytes. (now ≡ append_known before (ask_output numbered base bytes)) × (status ≡ ask_status numbered base bytes))
    → source ≡ input → before ≡ told tells [] → output ≡ now → IsWholeAnswer numbered base tells status input output
whole_answer numbered base tells status source input before now output h is_source is_before is_now =
    subst (λ (o : Option (List ℕ)). IsWholeAnswer numbered base tells status input o) (sym is_now)
    (by_input numbered base tells status input now
    (subst (λ (b : Option (List ℕ)). IfSome input (Answered numbered base status b now)) is_before
    (subst (λ (s : Option (List ℕ)). IfSome s (Answered numbered base status before now)) is_source h)))

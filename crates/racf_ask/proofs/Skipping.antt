-- A line that is skipped gathers nothing.
use Rattle.std.proofs.Common.{◌≡◌, ℕ, ◌+◌, Bool, true, false, ◌||◌, List, [], ◌++◌, None, refl, sym, ◌∙◌, ap, subst, append-nil}
use Rattle.std.specs.Prelude.{Option, Result}
use Rattle.raclist_image.specs.Imaged.{Imaged}
use Rattle.request_files.specs.declared.acees.NamedAcee.{NamedAcee}
use Rattle.request_files.specs.declared.line.RequestLine.{RequestLine}
use Rattle.request_files.specs.declared.line.LineRefusal.{LineRefusal}
use Rattle.racf_ask.specs.Asking.{shown, with_number}
use Rattle.racf_ask.specs.Answering.{Between, Gathers, outcome_on}

pub or_false : (b : Bool) → (b || false) ≡ b
or_false true = refl
or_false false = refl

shown_none : (numbered : Bool) (number : ℕ) → shown numbered number [] ≡ []
unfolding with_number
shown_none true number = refl
shown_none false number = refl

pub skipped : (numbered : Bool) (image : Imaged) (told : Option (Result RequestLine LineRefusal)) (acees : List NamedAcee) (refused : Bool) (lines : ℕ) (s : Between) (gathered : List ℕ) → told ≡ None → s ≡ record { acees = acees; has_refused = refused; lines = lines }
    → Gathers numbered (s.lines + 1) (outcome_on image s.acees told) s (record { acees = acees; has_refused = refused; lines = lines + 1 }) gathered gathered
skipped numbered image told acees refused lines s gathered none is =
    let at : Between = record { acees = acees; has_refused = refused; lines = lines } in
    let then : Between = record { acees = acees; has_refused = refused; lines = lines + 1 } in
    let gathers : Gathers numbered (lines + 1) (outcome_on image acees None) at then gathered gathered =
    record {
      text = sym (append-nil gathered) ∙ ap (λ bytes. gathered ++ bytes) (sym (shown_none numbered (lines + 1)));
      acees = refl;
      refused = sym (or_false refused);
      lines = refl;
    } in
    subst (λ (x : Between). Gathers numbered (x.lines + 1) (outcome_on image x.acees told) x then gathered gathered) (sym is)
    (subst (λ (x : Option (Result RequestLine LineRefusal)). Gathers numbered (lines + 1) (outcome_on image acees x) at then gathered gathered) (sym none) gathers)

use Rattle.std.proofs.Common.{◌≡◌, ◌≤◌, ◌+◌, ◌∙◌, List, [], ◌∷◌, drop, ap, sym, subst, arith}
use Rattle.std.proofs.lemmas.List.{drop_more, drop_all, take_all}
use Rattle.racf_profiles.specs.declared.edits.Edit.{Edit}
use Rattle.racf_profiles.specs.State.{State, changed_state}
use Rattle.racf_profiles.specs.Lawful.{LeaveLawfulClasses}
use Rattle.raclist_image.specs.PlacedNames.{most_placed_by}
use Rattle.raclist_image.proofs.Placing.{placed_more}
use Rattle.raclist_image.proofs.state.ImageState.make_all.Goals as goal

pub make-requires : goal.make-requires
make-requires c =
    let edits = c.args.edits.now in
    let i = c.loop-edit.edit-index in
    let edit = c.edit-item.result in
    let more : drop i edits ≡ edit ∷ drop (i + 1) edits = drop_more edits i edit (omega arith) ∙ ap (λ (e : Edit). e ∷ drop (i + 1) edits) (sym c.edit-item.is) in
    (subst (λ (es : List Edit). LeaveLawfulClasses es c.loop-edit.self.rows) more c.loop-edit.invariant.leave).0

pub loop-edit-preserved : goal.loop-edit-preserved
loop-edit-preserved c =
    let edits = c.args.edits.now in
    let i = c.loop-edit.edit-index in
    let edit = c.edit-item.result in
    let more : drop i edits ≡ edit ∷ drop (i + 1) edits = drop_more edits i edit (omega arith) ∙ ap (λ (e : Edit). e ∷ drop (i + 1) edits) (sym c.edit-item.is) in
    record {
      state = ap (changed_state (drop (i + 1) edits)) c.in_ok-make.ensures.state ∙ sym (ap (λ (es : List Edit). changed_state es c.loop-edit.self) more) ∙ c.loop-edit.invariant.state;
      leave = subst (λ (s : State). LeaveLawfulClasses (drop (i + 1) edits) s.rows) (sym c.in_ok-make.ensures.state) ((subst (λ (es : List Edit). LeaveLawfulClasses es c.loop-edit.self.rows) more c.loop-edit.invariant.leave).1);
      placed = placed_more edits i edit c.edit-item.is (omega arith) c.loop-edit.placed c.in_ok-make.field-0 _ c.loop-edit.invariant.placed c.in_ok-make.ensures.placed (omega (arith, c.saturating_add-placed.ensures));
    }

pub returns-clause-state : goal.returns-clause-state
returns-clause-state c =
    let edits = c.args.edits.now in
    let none : drop c.loop-edit.edit-index edits ≡ [] = drop_all c.loop-edit.edit-index edits (omega arith) in
    sym (ap (λ (es : List Edit). changed_state es c.loop-edit.self) none) ∙ c.loop-edit.invariant.state

pub returns-clause-placed : goal.returns-clause-placed
returns-clause-placed c =
    subst (λ (es : List Edit). c.loop-edit.placed ≤ most_placed_by es) (take_all c.loop-edit.edit-index c.args.edits.now (omega arith)) c.loop-edit.invariant.placed

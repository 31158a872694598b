use Rattle.std.proofs.Common.{◌∙◌, Some, ap, sym, subst, find}
use Rattle.std.specs.Option.{option_map}
use Rattle.generic_names.specs.Best.{IsInOrder, AreNamed}
use Rattle.generic_names.specs.Laws.{IsPattern}
use Rattle.profile_index.specs.declared.entry.Entry.{Entry}
use Rattle.profile_index.specs.Indexed.{name_of, has_name, without}
use Rattle.profile_index.proofs.NamedLaws.{first-there, without-there, without-missing}
use Rattle.profile_index.proofs.PlaceLaws.{find-at, find-none, all-remove, order-remove}
use Rattle.profile_index.proofs.index.Index.remove.Goals as goal

pub returns-in-Err-clause-item : goal.returns-in-Err-clause-item
returns-in-Err-clause-item g c =
    let test = has_name c.args.name.now in
    let view = ap (λ x. x.entries) c.self.view_is in
    ap (λ o. option_map (λ e. e.item) o) (sym (ap (λ xs. find test xs) (sym view) ∙ find-none test c.self.inside.slots.entries c.in-Err.ensures.missing.none))

pub returns-in-Err-clause-entries : goal.returns-in-Err-clause-entries
returns-in-Err-clause-entries g c =
    let view = ap (λ x. x.entries) c.self.view_is in
    sym view ∙ without-missing c.args.name.now c.self.inside.slots.entries c.in-Err.field-0 c.in-Err.ensures.missing ∙ ap (λ xs. without c.args.name.now xs) view

pub invariant_of-self : goal.invariant_of-self
invariant_of-self g c =
    let items = c.self.inside.slots.entries in
    let place = c.in-Ok.place in (
      subst (λ xs. IsInOrder name_of xs) (sym c.remove.ensures.entries) (order-remove name_of items place c.self.invariant.0),
      subst (λ xs. AreNamed name_of xs) (sym c.remove.ensures.entries) (all-remove (λ e. IsPattern e.name) items place c.self.invariant.1),
    )

pub returns-in-Ok-clause-item : goal.returns-in-Ok-clause-item
returns-in-Ok-clause-item g c =
    let test = has_name c.args.name.now in
    let items = c.self.inside.slots.entries in
    let place = c.in-Ok.place in
    let gone : Entry _ = record { name = c.args.name.now; item = c.remove.result } in
    let first = first-there c.args.name.now items place c.in-Ok.ensures.there in
    ap (λ i. Some i) (c.remove.ensures.item gone)
    ∙ ap (λ o. option_map (λ e. e.item) o) (sym (find-at test items place gone first.0 first.1 (first.2 gone)) ∙ ap (λ x. find test x.entries) c.self.view_is)

pub returns-in-Ok-clause-entries : goal.returns-in-Ok-clause-entries
returns-in-Ok-clause-entries g c =
    c.remove.ensures.entries ∙ without-there c.args.name.now c.self.inside.slots.entries c.in-Ok.place c.in-Ok.ensures.there
    ∙ ap (λ xs. without c.args.name.now xs) (ap (λ x. x.entries) c.self.view_is)

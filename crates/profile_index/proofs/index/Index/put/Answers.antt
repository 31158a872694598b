use Rattle.std.proofs.Common.{◌≡◌, ◌∙◌, set, Some, refl, ap, sym, subst, find, arith}
use Rattle.std.specs.List.{insert}
use Rattle.std.specs.Option.{option_map}
use Rattle.generic_names.specs.Best.{IsInOrder, AreNamed}
use Rattle.generic_names.specs.Laws.{IsPattern}
use Rattle.profile_index.specs.declared.entry.Entry.{Entry}
use Rattle.profile_index.specs.Indexed.{name_of, has_name, AreOf, put_entry}
use Rattle.profile_index.proofs.NamedLaws.{first-there, put-there, put-missing, all-set, order-set}
use Rattle.profile_index.proofs.PlaceLaws.{find-at, find-none, all-insert, order-insert}
use Rattle.profile_index.proofs.index.Index.put.Goals as goal

pub insert-requires-clause-room : goal.insert-requires-clause-room
insert-requires-clause-room g c =
    let absent = ap (λ x. find (has_name c.args.name) x.entries) (sym c.self.view_is) ∙ find-none (has_name c.args.name) c.self.inside.slots.entries c.in-Err.ensures.missing.none in
    omega (arith, c.requires.room absent, ap (λ x. x.spare) c.self.view_is)

pub invariant_of-self : goal.invariant_of-self
invariant_of-self g c =
    let items = c.self.inside.slots.entries in
    let there = c.in-Ok.ensures.there in
    let new : Entry _ = record { name = c.args.name; item = c.args.item } in
    let is = c.replace.ensures.entries new ∙ ap (λ name. set items c.in-Ok.place (record { name = name; item = c.args.item })) (there.same new) in (
      subst (λ xs. IsInOrder name_of xs) (sym is) (order-set name_of items c.in-Ok.place new there.within there.same c.self.invariant.0),
      subst (λ xs. AreNamed name_of xs) (sym is) (all-set (λ e. IsPattern e.name) items c.in-Ok.place new c.self.invariant.1 c.is_pattern.ensures),
    )

pub invariant_of-self-in-Err : goal.invariant_of-self-in-Err
invariant_of-self-in-Err g c =
    let items = c.self.inside.slots.entries in
    let none = c.in-Err.ensures.missing in
    let new : Entry _ = record { name = c.args.name; item = c.args.item } in
    let is = c.insert.ensures.entries ∙ ap (λ e. insert items c.in-Err.place e) c.with_key.ensures in (
      subst (λ xs. IsInOrder name_of xs) (sym is) (order-insert name_of items c.in-Err.place new none.within c.self.invariant.0 none.below none.behind),
      subst (λ xs. AreNamed name_of xs) (sym is) (all-insert (λ e. IsPattern e.name) items c.in-Err.place new c.self.invariant.1 c.is_pattern.ensures),
    )

pub returns-in-Ok-clause-item : goal.returns-in-Ok-clause-item
returns-in-Ok-clause-item g c =
    let test = has_name c.args.name in
    let items = c.self.inside.slots.entries in
    let place = c.in-Ok.place in
    let new : Entry _ = record { name = c.args.name; item = c.args.item } in
    let first = first-there c.args.name items place c.in-Ok.ensures.there in
    ap (λ i. Some i) (c.replace.ensures.item new)
    ∙ ap (λ o. option_map (λ e. e.item) o) (sym (find-at test items place new first.0 first.1 (first.2 new)) ∙ ap (λ x. find test x.entries) c.self.view_is)

pub returns-in-Ok-clause-entries : goal.returns-in-Ok-clause-entries
returns-in-Ok-clause-entries g c =
    let items = c.self.inside.slots.entries in
    let there = c.in-Ok.ensures.there in
    let new : Entry _ = record { name = c.args.name; item = c.args.item } in
    c.replace.ensures.entries new ∙ ap (λ name. set items c.in-Ok.place (record { name = name; item = c.args.item })) (there.same new)
    ∙ put-there new items c.in-Ok.place there ∙ ap (λ x. put_entry new x.entries) c.self.view_is

pub returns-in-Ok-clause-kinds : goal.returns-in-Ok-clause-kinds
returns-in-Ok-clause-kinds g c =
    let items = c.self.inside.slots.entries in
    let new : Entry _ = record { name = c.args.name; item = c.args.item } in
    let kinds = subst (λ x. AreOf c.args.name.kind x.entries) (sym c.self.view_is) c.requires.kind in
    subst (λ xs. AreOf c.args.name.kind xs) (sym (c.replace.ensures.entries new ∙ ap (λ name. set items c.in-Ok.place (record { name = name; item = c.args.item })) (c.in-Ok.ensures.there.same new)))
    (all-set (λ e. e.name.kind ≡ c.args.name.kind) items c.in-Ok.place new kinds refl)

pub returns-in-Err-clause-item : goal.returns-in-Err-clause-item
returns-in-Err-clause-item g c =
    let test = has_name c.args.name in
    ap (λ o. option_map (λ e. e.item) o) (sym (ap (λ x. find test x.entries) (sym c.self.view_is) ∙ find-none test c.self.inside.slots.entries c.in-Err.ensures.missing.none))

pub returns-in-Err-clause-entries : goal.returns-in-Err-clause-entries
returns-in-Err-clause-entries g c =
    c.insert.ensures.entries ∙ ap (λ e. insert c.self.inside.slots.entries c.in-Err.place e) c.with_key.ensures
    ∙ put-missing (record { name = c.args.name; item = c.args.item }) c.self.inside.slots.entries c.in-Err.place c.in-Err.ensures.missing
    ∙ ap (λ x. put_entry (record { name = c.args.name; item = c.args.item }) x.entries) c.self.view_is

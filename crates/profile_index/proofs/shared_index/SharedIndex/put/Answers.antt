use Rattle.std.proofs.Common.{◌≡◌, ◌∙◌, ap, sym, subst, set, refl}
use Rattle.std.specs.List.{insert}
use Rattle.generic_names.specs.Best.{IsInOrder, AreNamed}
use Rattle.generic_names.specs.Laws.{IsPattern}
use Rattle.profile_index.specs.declared.entry.Entry.{Entry}
use Rattle.profile_index.specs.Indexed.{name_of, AreOf, put_entry}
use Rattle.profile_index.proofs.NamedLaws.{put-there, put-missing, order-set}
use Rattle.profile_index.proofs.PlaceLaws.{all-insert, order-insert}
use Rattle.profile_index.proofs.shared_index.SharedIndex.put.Goals as goal

pub made_of-requires-clause-ordered : goal.made_of-requires-clause-ordered
made_of-requires-clause-ordered g c =
    let items = c.self.inside.entries in
    let place = c.in-Ok.place in
    let new : Entry _ = record { name = c.args.name; item = c.args.item } in
    let there = c.in-Ok.ensures.there in
    let is = c.in_ok-replace-in-Ok.ensures.items ∙ ap (λ e. set items place e) c.in_ok-shared.ensures.ok in
    subst (λ xs. IsInOrder name_of xs) (sym is) (order-set name_of items place new there.within there.same c.self.invariant.0)

pub made_of-requires-in-Err-clause-ordered : goal.made_of-requires-in-Err-clause-ordered
made_of-requires-in-Err-clause-ordered g c =
    let items = c.self.inside.entries in
    let place = c.in-Err.place in
    let new : Entry _ = record { name = c.args.name; item = c.args.item } in
    let none = c.in-Err.ensures.missing in
    let is = c.in_ok-insert-in-Err.ensures.items ∙ ap (λ e. insert items place e) c.in_ok-shared.ensures.ok in
    subst (λ xs. IsInOrder name_of xs) (sym is) (order-insert name_of items place new none.within c.self.invariant.0 none.below none.behind)

pub made_of-requires-in-Err-clause-named : goal.made_of-requires-in-Err-clause-named
made_of-requires-in-Err-clause-named g c =
    let items = c.self.inside.entries in
    let place = c.in-Err.place in
    let new : Entry _ = record { name = c.args.name; item = c.args.item } in
    let is = c.in_ok-insert-in-Err.ensures.items ∙ ap (λ e. insert items place e) c.in_ok-shared.ensures.ok in
    subst (λ xs. AreNamed name_of xs) (sym is) (all-insert (λ e. IsPattern e.name) items place new c.self.invariant.1 c.is_pattern.ensures)

pub returns-in_ok-replace-in-Ok-clause-entries : goal.returns-in_ok-replace-in-Ok-clause-entries
returns-in_ok-replace-in-Ok-clause-entries g c =
    let items = c.self.inside.entries in
    let place = c.in-Ok.place in
    let new : Entry _ = record { name = c.args.name; item = c.args.item } in
    c.made_of.ensures.what
    ∙ c.in_ok-replace-in-Ok.ensures.items
    ∙ ap (λ e. set items place e) c.in_ok-shared.ensures.ok
    ∙ put-there new items place c.in-Ok.ensures.there
    ∙ ap (λ xs. put_entry new xs) c.self.view_is

pub returns-in_ok-insert-in-Err-clause-entries : goal.returns-in_ok-insert-in-Err-clause-entries
returns-in_ok-insert-in-Err-clause-entries g c =
    let items = c.self.inside.entries in
    let place = c.in-Err.place in
    let new : Entry _ = record { name = c.args.name; item = c.args.item } in
    c.made_of-in-Err.ensures.what
    ∙ c.in_ok-insert-in-Err.ensures.items
    ∙ ap (λ e. insert items place e) c.in_ok-shared.ensures.ok
    ∙ put-missing new items place c.in-Err.ensures.missing
    ∙ ap (λ xs. put_entry new xs) c.self.view_is

pub returns-in_ok-insert-in-Err-clause-kinds : goal.returns-in_ok-insert-in-Err-clause-kinds
returns-in_ok-insert-in-Err-clause-kinds g c =
    let items = c.self.inside.entries in
    let place = c.in-Err.place in
    let new : Entry _ = record { name = c.args.name; item = c.args.item } in
    let kinds = subst (λ xs. AreOf c.args.name.kind xs) (sym c.self.view_is) c.requires in
    let is = c.made_of-in-Err.ensures.what ∙ c.in_ok-insert-in-Err.ensures.items ∙ ap (λ e. insert items place e) c.in_ok-shared.ensures.ok in
    subst (λ xs. AreOf c.args.name.kind xs) (sym is) (all-insert (λ e. e.name.kind ≡ c.args.name.kind) items place new kinds refl)

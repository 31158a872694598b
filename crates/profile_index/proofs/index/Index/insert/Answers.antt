use Rattle.std.proofs.Common.{◌≡◌, ◌≢◌, true, false, length, get_or, refl, arith, ap, sym, subst, ◌∙◌}
use Rattle.std.specs.List.{insert}
use Rattle.generic_names.specs.Best.{IsInOrder, AreNamed}
use Rattle.generic_names.specs.Laws.{IsPattern}
use Rattle.profile_index.specs.Indexed.{name_of, with_entry, AreOf, IsAbsent}
use Rattle.profile_index.proofs.KeyLaws.{before-within}
use Rattle.profile_index.proofs.OrderedLaws.{all-at, behind-strict}
use Rattle.profile_index.proofs.PlaceLaws.{all-insert, order-insert, with_entry-at, absent-at}
use Rattle.profile_index.proofs.index.Index.insert.Goals as goal

pub invariant_of-self : goal.invariant_of-self
invariant_of-self g c =
    let name = c.args.name in
    let items = c.self.inside.slots.entries in
    let place = c.end_below-place.result in
    let view = ap (λ x. x.entries) c.self.view_is in
    let inserted = c.insert.ensures.entries ∙ ap (λ e. insert items c.end_below-place.result e) c.with_key.ensures in
    let named = c.self.invariant.1 in
    let kinds = subst (λ xs. AreOf name.kind xs) (sym view) c.requires.kind in
    let absent = absent-at name items (subst (λ xs. IsAbsent name xs) (sym view) c.requires.absent) in
    let lawful = c.is_pattern.ensures in
    let within = c.end_below-place.ensures.within in
    let below = before-within name_of items c.self.invariant.1 c.order_key-key.result true 0 place within c.end_below-place.ensures.below name c.is_pattern.ensures c.order_key-key.ensures in
    let above = before-within name_of items c.self.invariant.1 c.order_key-key.result false place (length items) (omega arith) c.end_below-place.ensures.above name c.is_pattern.ensures c.order_key-key.ensures in (
      subst (λ xs. IsInOrder name_of xs) (sym inserted) (order-insert name_of items place _ within c.self.invariant.0 below
          (λ k d low high. behind-strict (get_or items k d).name name (all-at (λ e. IsPattern e.name) items named k d high) lawful (all-at (λ e. e.name.kind ≡ name.kind) items kinds k d high) (all-at (λ e. e.name ≢ name) items absent k d high) (above k d low high))),
      subst (λ xs. AreNamed name_of xs) (sym inserted) (all-insert (λ e. IsPattern e.name) items place _ named lawful),
    )

pub returns-clause-entries : goal.returns-clause-entries
returns-clause-entries g c =
    let name = c.args.name in
    let items = c.self.inside.slots.entries in
    let place = c.end_below-place.result in
    let view = ap (λ x. x.entries) c.self.view_is in
    let inserted = c.insert.ensures.entries ∙ ap (λ e. insert items c.end_below-place.result e) c.with_key.ensures in
    let within = c.end_below-place.ensures.within in
    let below = before-within name_of items c.self.invariant.1 c.order_key-key.result true 0 place within c.end_below-place.ensures.below name c.is_pattern.ensures c.order_key-key.ensures in
    let above = before-within name_of items c.self.invariant.1 c.order_key-key.result false place (length items) (omega arith) c.end_below-place.ensures.above name c.is_pattern.ensures c.order_key-key.ensures in
    inserted ∙ sym (with_entry-at items place (record { name = c.args.name; item = c.args.item }) within below above) ∙ ap (λ xs. with_entry (record { name = c.args.name; item = c.args.item }) xs) view

pub returns-clause-kinds : goal.returns-clause-kinds
returns-clause-kinds g c =
    let name = c.args.name in
    let items = c.self.inside.slots.entries in
    let view = ap (λ x. x.entries) c.self.view_is in
    let inserted = c.insert.ensures.entries ∙ ap (λ e. insert items c.end_below-place.result e) c.with_key.ensures in
    let kinds = subst (λ xs. AreOf name.kind xs) (sym view) c.requires.kind in
    subst (λ xs. AreOf name.kind xs) (sym inserted) (all-insert (λ e. e.name.kind ≡ name.kind) items c.end_below-place.result _ kinds refl)

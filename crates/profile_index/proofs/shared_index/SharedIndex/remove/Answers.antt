use Rattle.std.proofs.Common.{◌≡◌, ◌∙◌, ap, sym, subst}
use Rattle.generic_names.specs.Best.{IsInOrder, AreNamed}
use Rattle.generic_names.specs.Laws.{IsPattern}
use Rattle.profile_index.specs.Indexed.{name_of, AreOf, without}
use Rattle.profile_index.proofs.NamedLaws.{without-there, without-missing}
use Rattle.profile_index.proofs.PlaceLaws.{all-remove, order-remove}
use Rattle.profile_index.proofs.shared_index.SharedIndex.remove.Goals as goal

pub made_of-requires-clause-ordered : goal.made_of-requires-clause-ordered
made_of-requires-clause-ordered g c =
    subst (λ xs. IsInOrder name_of xs) (sym c.in_ok-remove-in-Ok.ensures.items) (order-remove name_of c.self.inside.entries c.in-Ok.place c.self.invariant.0)

pub made_of-requires-clause-named : goal.made_of-requires-clause-named
made_of-requires-clause-named g c =
    subst (λ xs. AreNamed name_of xs) (sym c.in_ok-remove-in-Ok.ensures.items) (all-remove (λ e. IsPattern e.name) c.self.inside.entries c.in-Ok.place c.self.invariant.1)

pub returns-in_ok-remove-in-Ok-clause-entries : goal.returns-in_ok-remove-in-Ok-clause-entries
returns-in_ok-remove-in-Ok-clause-entries g c =
    c.made_of.ensures.what
    ∙ c.in_ok-remove-in-Ok.ensures.items
    ∙ without-there c.args.name.now c.self.inside.entries c.in-Ok.place c.in-Ok.ensures.there
    ∙ ap (λ xs. without c.args.name.now xs) c.self.view_is

pub returns-in_ok-remove-in-Ok-clause-kinds : goal.returns-in_ok-remove-in-Ok-clause-kinds
returns-in_ok-remove-in-Ok-clause-kinds g c =
    let kinds = subst (λ xs. AreOf c.args.name.now.kind xs) (sym c.self.view_is) c.requires in
    subst (λ xs. AreOf c.args.name.now.kind xs) (sym (c.made_of.ensures.what ∙ c.in_ok-remove-in-Ok.ensures.items))
    (all-remove (λ e. e.name.kind ≡ c.args.name.now.kind) c.self.inside.entries c.in-Ok.place kinds)

pub returns-in_ok-share-in-Err-clause-entries : goal.returns-in_ok-share-in-Err-clause-entries
returns-in_ok-share-in-Err-clause-entries g c =
    c.in_ok-share-in-Err.ensures
    ∙ sym c.self.view_is
    ∙ without-missing c.args.name.now c.self.inside.entries c.in-Err.field-0 c.in-Err.ensures.missing
    ∙ ap (λ xs. without c.args.name.now xs) c.self.view_is

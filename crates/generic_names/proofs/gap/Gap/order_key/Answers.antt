use Rattle.std.proofs.Common.{◌≡◌, ◌∙◌, ℕ, ◌++◌, ◌∷◌, [], List, length, map, take, ap, sym, subst, arith}
use Rattle.std.proofs.lemmas.List.{length-map, length-take-le, map-append}
use Rattle.generic_names.specs.Spelled.{qualifiers}
use Rattle.generic_names.specs.Before.{ranks}
use Rattle.generic_names.specs.OrderKey.{squeezed, AreRanks}
use Rattle.generic_names.proofs.KeyLaws.{ranks-length, front-ranks}
use Rattle.generic_names.proofs.gap.Gap.order_key.Goals as goal

pub of_first-key-requires : goal.of_first-key-requires
of_first-key-requires c =
    let size = ranks-length c.self.inside.text.now in
    omega (arith, size, c.self.invariant.room, c.self.invariant.fits)

pub push-requires-clause-room : goal.push-requires-clause-room
push-requires-clause-room c =
    let some = ranks (qualifiers c.self.inside.text.now) in
    let count = c.self.inside.count in
    let size = ranks-length c.self.inside.text.now in
    let kept : length c.of_first-key.result ≡ count =
    ap length c.of_first-key.ensures ∙ length-map (take count some) squeezed ∙ length-take-le count some (omega (arith, c.self.invariant.room)) in
    omega (arith, kept, size, c.self.invariant.room, c.self.invariant.fits)

pub returns-clause-key : goal.returns-clause-key
returns-clause-key c =
    let front = take c.self.inside.count (ranks (qualifiers c.self.inside.text.now)) in
    let least = c.self.inside.least in
    c.push.ensures
    ∙ ap (λ (key : List ℕ). key ++ squeezed least ∷ []) c.of_first-key.ensures
    ∙ sym (map-append squeezed front (least ∷ []))
    ∙ ap (λ (gap : List ℕ). map squeezed gap) c.self.view_is

pub returns-clause-ranked : goal.returns-clause-ranked
returns-clause-ranked c =
    subst (λ (gap : List ℕ). AreRanks gap) c.self.view_is
    (front-ranks c.self.inside.count c.self.inside.least (ranks (qualifiers c.self.inside.text.now)) c.self.invariant.ranked c.self.invariant.last)

use Rattle.std.proofs.Common.{◌≡◌, ◌∙◌, ◌<◌, true, false, length, sym, ap, arith, ⊎_elim}
use Rattle.std.proofs.lemmas.Bool.{cases_lt}
use Rattle.std.proofs.lemmas.List.{get_or_default}
use Rattle.profile_index.specs.Indexed.{is_under}
use Rattle.profile_index.proofs.UnderLaws.{none-lower, none-from}
use Rattle.profile_index.proofs.search.first_under.Goals as goal

pub returns-then-place-len : goal.returns-then-place-len
returns-then-place-len g c k d low high =
    none-lower (g.E.EntryList.entries c.args.list.now) c.args.qualifier.now c.of_qualifier.result c.of_qualifier.ensures 0 c.end_below-place.result c.end_below-place.ensures.below k d low
    (omega (arith, high, c.if-place-len.true, c.len.ensures))

pub returns-then-has_first_qualifier : goal.returns-then-has_first_qualifier
returns-then-has_first_qualifier g c =
    let entries = g.E.EntryList.entries c.args.list.now in
    let place = c.end_below-place.result in
    let within : place < length entries = omega (arith, c.if-place-len.false, c.len.ensures, c.end_below-place.ensures.within) in
    let e = c.entry.result.now in
    let under : is_under c.args.qualifier.now e ≡ true = sym c.has_first_qualifier.ensures ∙ c.if-has_first_qualifier.true in (
      within,
      none-lower entries c.args.qualifier.now c.of_qualifier.result c.of_qualifier.ensures 0 place c.end_below-place.ensures.below,
      λ d. ap (λ x. is_under c.args.qualifier.now x) (get_or_default entries place d e within ∙ sym c.entry.ensures) ∙ under,
    )

pub returns : goal.returns
returns g c k d low high =
    let entries = g.E.EntryList.entries c.args.list.now in
    let place = c.end_below-place.result in
    let within : place < length entries = omega (arith, c.if-place-len.false, c.len.ensures, c.end_below-place.ensures.within) in
    let e = c.entry.result.now in
    let other : is_under c.args.qualifier.now e ≡ false = sym c.has_first_qualifier.ensures ∙ c.if-has_first_qualifier.false in
    ⊎_elim
    (λ less. none-lower entries c.args.qualifier.now c.of_qualifier.result c.of_qualifier.ensures 0 place c.end_below-place.ensures.below k d low less)
    (λ more. none-from entries c.args.qualifier.now c.of_qualifier.result c.of_qualifier.ensures c.requires.ordered c.requires.named place within c.end_below-place.ensures.above
    (λ x. ap (λ y. is_under c.args.qualifier.now y) (get_or_default entries place x e within ∙ sym c.entry.ensures) ∙ other) k d more high)
    (cases_lt k place)

use Rattle.std.proofs.Common.{◌≡◌, ◌∙◌, true, false, length, sym, subst, arith}
use Rattle.std.specs.Str.{bytes_eq}
use Rattle.profile_index.specs.declared.entry.Entry.{Entry}
use Rattle.profile_index.specs.Indexed.{name_of}
use Rattle.profile_index.proofs.KeyLaws.{before-within}
use Rattle.profile_index.proofs.NamedLaws.{there-at, missing-at, missing-behind}
use Rattle.profile_index.proofs.search.place_for.Goals as goal

pub returns-then-place-len-clause-missing : goal.returns-then-place-len-clause-missing
returns-then-place-len-clause-missing g c =
    let entries = g.E.EntryList.entries c.args.list.now in
    let place = c.end_below-place.result in
    let below = before-within name_of entries c.requires.named c.args.key.now true 0 place c.end_below-place.ensures.within c.end_below-place.ensures.below c.args.name.now c.is_pattern.ensures c.requires.key in
    let above = before-within name_of entries c.requires.named c.args.key.now false place (length entries) (omega arith) c.end_below-place.ensures.above c.args.name.now c.is_pattern.ensures c.requires.key in
    missing-behind c.args.name.now entries c.requires.ordered c.requires.kinds place below above c.requires.named c.is_pattern.ensures (omega (arith, c.if-place-len.true, c.len.ensures))

pub returns-then-have_one_text-clause-there : goal.returns-then-have_one_text-clause-there
returns-then-have_one_text-clause-there g c =
    let entries = g.E.EntryList.entries c.args.list.now in
    let place = c.end_below-place.result in
    let below = before-within name_of entries c.requires.named c.args.key.now true 0 place c.end_below-place.ensures.within c.end_below-place.ensures.below c.args.name.now c.is_pattern.ensures c.requires.key in
    let above = before-within name_of entries c.requires.named c.args.key.now false place (length entries) (omega arith) c.end_below-place.ensures.above c.args.name.now c.is_pattern.ensures c.requires.key in
    there-at c.args.name.now entries c.requires.ordered c.requires.kinds place below above
    (omega (arith, c.end_below-place.ensures.within, c.if-place-len.false, c.len.ensures)) c.entry.result.now
    (subst (λ (e : Entry _). bytes_eq e.name.text c.args.name.now.text ≡ true) c.entry.ensures (sym c.have_one_text.ensures ∙ c.if-have_one_text.true))

pub returns-clause-missing : goal.returns-clause-missing
returns-clause-missing g c =
    let entries = g.E.EntryList.entries c.args.list.now in
    let place = c.end_below-place.result in
    let below = before-within name_of entries c.requires.named c.args.key.now true 0 place c.end_below-place.ensures.within c.end_below-place.ensures.below c.args.name.now c.is_pattern.ensures c.requires.key in
    let above = before-within name_of entries c.requires.named c.args.key.now false place (length entries) (omega arith) c.end_below-place.ensures.above c.args.name.now c.is_pattern.ensures c.requires.key in
    missing-at c.args.name.now entries c.requires.ordered c.requires.kinds place below above
    (omega (arith, c.end_below-place.ensures.within, c.if-place-len.false, c.len.ensures)) c.entry.result.now
    (subst (λ (e : Entry _). bytes_eq e.name.text c.args.name.now.text ≡ false) c.entry.ensures (sym c.have_one_text.ensures ∙ c.if-have_one_text.false))
    c.requires.named c.is_pattern.ensures

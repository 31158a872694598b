use Rattle.std.proofs.Common.{◌≡◌, ◌∙◌, true, not, subst, refl}
use Rattle.std.specs.List.{AllWithin, position_or_len}
use Rattle.std.proofs.lemmas.List.Sums.{prefix_len-le-length}
use Rattle.generic_names.specs.OrderKey.{is_lower}
use Rattle.pages.specs.Rising.{reaches}
use Rattle.profile_index.specs.Buckets.{key_of}
use Rattle.profile_index.specs.Indexed.{name_of}
use Rattle.profile_index.proofs.RisingLaws.{rises-in-order, lower-before-first}
use Rattle.profile_index.proofs.search.first_from.Goals as goal

pub found_by_key-requires : goal.found_by_key-requires
found_by_key-requires g c = rises-in-order name_of c.of.result c.args.list.now c.requires.ordered c.requires.named

pub returns : goal.returns
returns g c =
    let passes = reaches (key_of {T = g.row.T.Denot}) c.of.result in
    let place = position_or_len passes c.args.list.now in
    let lower = subst (λ key. AllWithin (λ e. is_lower e.name key ≡ true) c.args.list.now 0 place) (c.of.ensures ∙ c.as_bytes.ensures) (lower-before-first name_of c.of.result c.args.list.now place refl) in
    (place, (prefix_len-le-length (λ x. not (passes x)) c.args.list.now, (lower, c.found_by_key.ensures)))

-- The profile whose entry was found, and its name.
use Rattle.std.proofs.Common.{◌≡◌, Option, None, Some, refl, ap, sym, ◌∙◌}
use Rattle.std.specs.Option.{option_map}
use Rattle.profile_index.specs.declared.entry.Entry.{Entry}
use Rattle.racf_profiles.specs.declared.profiles.Profile.{Profile}
use Rattle.class_profiles.specs.Paired.{entry_of}

pub none-found : (o : Option Profile) → None ≡ option_map entry_of o → o ≡ None
none-found None is = refl
none-found (Some p) is = absurd (cc (is))

pub item-found : (o : Option Profile) (e : Entry Profile) → Some e ≡ option_map entry_of o → o ≡ Some e.item
item-found None e is = absurd (cc (is))
item-found (Some p) e is = let same : entry_of p ≡ e = (cc (is)) in ap (λ (e : Entry Profile). Some e.item) same

pub name-found : (o : Option Profile) (e : Entry Profile) → Some e ≡ option_map entry_of o → e.name ≡ e.item.name
name-found None e is = absurd (cc (is))
name-found (Some p) e is =
    let same : entry_of p ≡ e = (cc (is)) in
    ap (λ (e : Entry Profile). e.name) (sym same) ∙ ap (λ (e : Entry Profile). e.item.name) same

-- The keys of profiles' names, as an index has them.
use Rattle.std.proofs.Common.{◌≡◌, ℕ, List, [], ◌∷◌, map, refl, ap}
use Rattle.generic_names.specs.OrderKey.{order_key}
use Rattle.racf_profiles.specs.declared.profiles.Profile.{Profile}
use Rattle.profile_index.specs.Buckets.{key_of}
use Rattle.class_profiles.specs.Paired.{entry_of}
use Rattle.raclist_image.specs.PlacedNames.{keys_of}

-- the keys of the entries of profiles are those of the profiles
pub keys-paired : (ps : List Profile) → map key_of (map entry_of ps) ≡ keys_of ps
keys-paired [] = refl
keys-paired (p ∷ ps) = ap (λ (ks : List (List ℕ)). order_key p.name.text ∷ ks) (keys-paired ps)

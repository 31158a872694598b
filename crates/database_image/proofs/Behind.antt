-- The last of the profiles before.
use Rattle.std.proofs.Common.{◌≡◌, suc, ◌-◌, List, [], ◌∷◌, length, Some, sym, ap, ◌∙◌, arith}
use Rattle.std.specs.List.{slice_get}
use Rattle.generic_names.specs.Spelled.{Spelled}
use Rattle.generic_names.specs.Before.{before}
use Rattle.racf_profiles.specs.declared.profiles.Profile.{Profile}
use Rattle.database_image.specs.Description.{comes_behind}

same_some : (p q : Profile) → slice_get (p ∷ []) 0 ≡ Some q → p ≡ q
same_some p q h = cc

pub last-behind : (profiles : List Profile) (last : Profile) (name : Spelled) → slice_get profiles (length profiles - 1) ≡ Some last → comes_behind profiles name ≡ before last.name name
last-behind [] last name h = absurd cc
last-behind (p ∷ []) last name h = ap (λ (q : Profile). before q.name name) (same_some p last h)
last-behind (p ∷ q ∷ ps) last name h =
    let e : length (p ∷ q ∷ ps) - 1 ≡ suc (length (q ∷ ps) - 1) = omega arith in
    let g : slice_get (p ∷ q ∷ ps) (suc (length (q ∷ ps) - 1)) ≡ Some last = ap (slice_get (p ∷ q ∷ ps)) (sym e) ∙ h in
    last-behind (q ∷ ps) last name g

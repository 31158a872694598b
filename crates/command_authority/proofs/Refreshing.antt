-- The first requirement that isn't met, where there is one of each class.
use Rattle.std.proofs.Common.{◌≡◌, ℕ, Bool, true, false, cond, not, List, [], ◌∷◌, ◌++◌, map, Option, Some, None, option_map, refl, sym, ap, ◌∙◌}
use Rattle.std.specs.List.{find}
use Rattle.std.specs.Option.{option_or}
use Rattle.std.proofs.lemmas.List.Folds.{find-append}
use Rattle.racf_profiles.specs.declared.rows.Rows.{Rows}
use Rattle.command_fields.specs.declared.issuer.Issuer.{Issuer}
use Rattle.command_authority.specs.declared.requirement.Requirement.{Requirement}
use Rattle.command_authority.specs.Requirements.{refreshing}
use Rattle.command_authority.specs.Authority.{is_met, is_withheld, first_unmet}

find-map : {X Y : Type 0} (f : X → Y) (q : Y → Bool) (xs : List X) → find q (map f xs) ≡ option_map f (find (λ x. q (f x)) xs)
find-map f q [] = refl
find-map {X} {Y} f q (x ∷ xs) = by (q (f x)) (find-map f q xs)
  where
    by : (b : Bool) → find q (map f xs) ≡ option_map f (find (λ x. q (f x)) xs) → cond b (Some (f x)) (find q (map f xs)) ≡ option_map f (cond b (Some x) (find (λ x. q (f x)) xs))
    by true h = refl
    by false h = h

option_map-twice : {X Y Z : Type 0} (f : X → Y) (g : Y → Z) (o : Option X) → option_map g (option_map f o) ≡ option_map (λ x. g (f x)) o
option_map-twice f g None = refl
option_map-twice f g (Some x) = refl

-- the first of three lists
pub find-three : {X : Type 0} (q : X → Bool) (xs ys zs : List X) → option_or (option_or (find q xs) (find q ys)) (find q zs) ≡ find q (xs ++ (ys ++ zs))
find-three q xs ys zs = or-both (find q xs) (find q ys) (find q zs) ∙ ap (option_or (find q xs)) (sym (find-append q ys zs)) ∙ sym (find-append q xs (ys ++ zs))
  where
    or-both : {X : Type 0} (a b c : Option X) → option_or (option_or a b) c ≡ option_or a (option_or b c)
    or-both None b c = refl
    or-both (Some x) b c = refl

pub first_unmet_of_classes : (rows : Rows) (issuer : Issuer) (classes : List (List ℕ)) → first_unmet rows issuer (map refreshing classes) ≡ option_map (λ class. (refreshing class).needs) (find (is_withheld rows issuer) classes)
first_unmet_of_classes rows issuer classes =
    ap (λ o. option_map (λ (requirement : Requirement). requirement.needs) o) (find-map refreshing (λ requirement. not (is_met rows issuer requirement)) classes)
    ∙ option_map-twice refreshing (λ (requirement : Requirement). requirement.needs) (find (is_withheld rows issuer) classes)

-- Names that stood before, as keys of a set.
use Rattle.std.proofs.Common.{◌≡◌, ℕ, Bool, true, false, not, List, [], ◌∷◌, ◌++◌, map, refl, ap, ◌∙◌}
use Rattle.std.specs.Prelude.{◌||◌, bytes_eq, if◌then◌else◌}
use Rattle.std.specs.List.{list_any}
use Rattle.std.proofs.lemmas.List.{map-append}
use Rattle.database_image.specs.Fields.{is_new}

pub any_of : {X : Type 0} (text : X → List ℕ) (name : List ℕ) (keys : List X) → list_any (λ key. bytes_eq name (text key)) keys ≡ list_any (bytes_eq name) (map text keys)
any_of text name [] = refl
any_of text name (key ∷ keys) = ap (λ b. bytes_eq name (text key) || b) (any_of text name keys)

pub new_of : {X : Type 0} (text : X → List ℕ) (name : X) (keys : List X) → not (list_any (λ key. bytes_eq (text name) (text key)) keys) ≡ is_new (map text keys) (text name)
new_of text name keys = ap not (any_of text (text name) keys)

chosen : {A : Type 0} (b : Bool) (x y : A) → not b ≡ true → (if b then x else y) ≡ y
chosen true x y h = absurd cc
chosen false x y h = refl

pub put_last : {X : Type 0} (text : X → List ℕ) (name : X) (keys : List X) → is_new (map text keys) (text name) ≡ true
    → map text (if list_any (λ key. bytes_eq (text name) (text key)) keys then keys else keys ++ name ∷ []) ≡ map text keys ++ text name ∷ []
put_last text name keys h = ap (map text) (chosen (list_any (λ key. bytes_eq (text name) (text key)) keys) keys (keys ++ name ∷ []) (new_of text name keys ∙ h)) ∙ map-append text keys (name ∷ [])

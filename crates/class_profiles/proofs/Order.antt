-- Profiles in order of specificity: what stands behind a name, and what a put and a drop leave.
use Rattle.std.proofs.Common.{◌≡◌, ℕ, zero, suc, ◌+◌, Bool, true, false, cond, List, [], ◌∷◌, take, ◌++◌, add-one, Some, None, refl, sym, ◌∙◌, ap, subst}
use Rattle.std.specs.List.{find, AllByRecursion, slice_get}
use Rattle.generic_names.specs.declared.kind.NameKind.{NameKind}
use Rattle.generic_names.specs.Spelled.{Spelled}
use Rattle.generic_names.specs.Before.{before}
use Rattle.generic_names.specs.Laws.{NotBoth, PassedOn}
use Rattle.racf_profiles.specs.declared.profiles.Profile.{Profile}
use Rattle.racf_profiles.specs.Lookup.{is_profile}
use Rattle.racf_profiles.specs.Edits.{AreNamed}
use Rattle.racf_profiles.proofs.OrderedProfiles.{same_spelled}

-- what holds of all holds at a place
pub all-at : {X : Type 0} (P : X → Type 0) (xs : List X) (i : ℕ) (x : X) → AllByRecursion P xs → slice_get xs i ≡ Some x → P x
all-at P [] i x all at = cc
all-at P (y ∷ ys) zero x all at = let here : y ≡ x = cc in subst P here all.0
all-at P (y ∷ ys) (suc i) x all at = all-at P ys i x all.1 at

module _ (not_both : NotBoth) where
  not_itself : (n : Spelled) → before n n ≡ true → true ≡ false
  not_itself n h = sym h ∙ not_both n n h

  -- a profile behind a name has another text
  pub behind-other : (n : Spelled) (z : Profile) → z.name.kind ≡ n.kind → before n z.name ≡ true → is_profile n z ≡ false
  behind-other n z kind behind = by (is_profile n z) refl
    where
      by : (b : Bool) → is_profile n z ≡ b → b ≡ false
      by false is = refl
      by true is = not_itself n (subst (λ (m : Spelled). before n m ≡ true) (same_spelled z.name n kind is) behind)

  -- none of those behind a name has it
  pub none-behind : (n : Spelled) (kind : NameKind) (ps : List Profile) → n.kind ≡ kind → AreNamed kind ps → AllByRecursion (λ (z : Profile). before n z.name ≡ true) ps → find (is_profile n) ps ≡ None
  none-behind n kind [] is named behind = refl
  none-behind n kind (z ∷ zs) is named behind =
      ap (λ b. cond b (Some z) (find (is_profile n) zs)) (behind-other n z (named.0.1 ∙ sym is) behind.0) ∙ none-behind n kind zs is named.1 behind.1

  module _ (passed_on : PassedOn) where
    -- those behind a name, behind which others stand
    pub all-further : (m n : Spelled) (ps : List Profile) → before m n ≡ true → AllByRecursion (λ (z : Profile). before n z.name ≡ true) ps → AllByRecursion (λ (z : Profile). before m z.name ≡ true) ps
    all-further m n [] first all = tt
    all-further m n (z ∷ zs) first all = (passed_on m n z.name first all.0, all-further m n zs first all.1)

-- one element more of a list, pushed behind those before it
pub take-push : {X : Type 0} (xs : List X) (i : ℕ) (x : X) → slice_get xs i ≡ Some x → take i xs ++ x ∷ [] ≡ take (suc i) xs
take-push [] i x at = cc
take-push (y ∷ ys) zero x at = let here : y ≡ x = cc in ap (λ z. z ∷ []) (sym here)
take-push (y ∷ ys) (suc i) x at = ap (λ zs. y ∷ zs) (take-push ys i x at)

pub take-next : {X : Type 0} (xs : List X) (i : ℕ) (x y : X) (now after : List X) → slice_get xs i ≡ Some x → y ≡ x → now ≡ take i xs → after ≡ now ++ y ∷ [] → after ≡ take (i + 1) xs
take-next xs i x y now after at same so_far pushed = pushed ∙ ap (λ zs. zs ++ y ∷ []) so_far ∙ ap (λ z. take i xs ++ z ∷ []) same ∙ rw add-one (take-push xs i x at)

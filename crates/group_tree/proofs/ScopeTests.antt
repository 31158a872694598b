-- The test of scope finds each way up, and only those.
use Rattle.std.proofs.Common.{◌≡◌, ℕ, zero, suc, ◌+◌, Bool, true, false, ◌||◌, List, length, Option, Some, None, bytes_eq, refl, sym, ap, ◌∙◌, arith, ⊎_elim, inl, inr}
use Rattle.std.specs.Prelude.{◌↔◌, IsTrue, IsSomeAnd}
use Rattle.std.specs.Option.{option_map_or}
use Rattle.std.proofs.lemmas.Bool.{or_cases, or_left, or_right}
use Rattle.racf_profiles.specs.declared.groups.Group.{Group}
use Rattle.racf_profiles.specs.declared.users.User.{User}
use Rattle.racf_profiles.specs.declared.rows.Rows.{Rows}
use Rattle.racf_profiles.specs.Lookup.{user_of, find_group}
use Rattle.group_tree.specs.declared.climb.Climb.TheVariants.{ByOwners}
use Rattle.racf_profiles.specs.Scope.{InScopeGroup, InScopeProfile}
use Rattle.group_tree.specs.ScopeTest.{owning_superior, is_in_reach, is_group_in_scope, is_profile_in_scope}
use Rattle.group_tree.specs.Climb.{LeadsUp}
use Rattle.racf_profiles.specs.Tree.{IsTree}
use Rattle.group_tree.proofs.Rows.{same, unlike, value_of, holds_of}
use Rattle.group_tree.proofs.Climbs.{leads_none, leads_here, leads_stuck, leads_from_next, leads_to_next, HasSteps, steps_first, steps_next, steps_all}

module _ (groups : List Group) (top : List ℕ) where
  -- one step, by what it meets
  reach_at : (steps : ℕ) (id : List ℕ) (o : Option Group) → find_group groups id ≡ o → is_in_reach (suc steps) groups top id ≡ option_map_or (λ group. bytes_eq id top || option_map_or (λ superior. is_in_reach steps groups top superior) (owning_superior group) false) o false
  reach_at steps id o e = ap (λ o. option_map_or (λ group. bytes_eq id top || option_map_or (λ superior. is_in_reach steps groups top superior) (owning_superior group) false) o false) e

  reach_here : (steps : ℕ) (id : List ℕ) (group : Group) (b : Bool) → find_group groups id ≡ Some group → bytes_eq id top ≡ b → is_in_reach (suc steps) groups top id ≡ (b || option_map_or (λ superior. is_in_reach steps groups top superior) (owning_superior group) false)
  reach_here steps id group b here e = reach_at steps id (Some group) here ∙ ap (λ b. b || option_map_or (λ superior. is_in_reach steps groups top superior) (owning_superior group) false) e

  reach_on : (steps : ℕ) (id : List ℕ) (group : Group) (o : Option (List ℕ)) → find_group groups id ≡ Some group → bytes_eq id top ≡ false → owning_superior group ≡ o → is_in_reach (suc steps) groups top id ≡ option_map_or (λ superior. is_in_reach steps groups top superior) o false
  reach_on steps id group o here past up = reach_here steps id group false here past ∙ ap (λ o. option_map_or (λ superior. is_in_reach steps groups top superior) o false) up

  pub leads_when_in_reach : (steps : ℕ) (id : List ℕ) → is_in_reach steps groups top id ≡ true → LeadsUp ByOwners groups id top
  leads_when_in_reach zero id h = cc
  leads_when_in_reach (suc steps) id h = by_group (find_group groups id) refl (leads_when_in_reach steps)
    where
      by_next : (group : Group) → find_group groups id ≡ Some group → bytes_eq id top ≡ false → (o : Option (List ℕ)) → owning_superior group ≡ o → ((next : List ℕ) → is_in_reach steps groups top next ≡ true → LeadsUp ByOwners groups next top) → LeadsUp ByOwners groups id top
      by_next group here past None up rest = let no : false ≡ true = sym (reach_on steps id group None here past up) ∙ h in cc
      by_next group here past (Some next) up rest = leads_from_next ByOwners groups id top group next here up (rest next (sym (reach_on steps id group (Some next) here past up) ∙ h))

      by_name : (group : Group) → find_group groups id ≡ Some group → (b : Bool) → bytes_eq id top ≡ b → ((next : List ℕ) → is_in_reach steps groups top next ≡ true → LeadsUp ByOwners groups next top) → LeadsUp ByOwners groups id top
      by_name group here true e rest = leads_here ByOwners groups id top group here (same id top e)
      by_name group here false e rest = by_next group here e (owning_superior group) refl rest

      by_group : (o : Option Group) → find_group groups id ≡ o → ((next : List ℕ) → is_in_reach steps groups top next ≡ true → LeadsUp ByOwners groups next top) → LeadsUp ByOwners groups id top
      by_group None e rest = let no : false ≡ true = sym (reach_at steps id None e) ∙ h in cc
      by_group (Some group) e rest = by_name group e (bytes_eq id top) refl rest

  pub in_reach_when_leads : IsTree groups → (left steps : ℕ) (id : List ℕ) → left + steps ≡ length groups → HasSteps groups id steps → LeadsUp ByOwners groups id top → is_in_reach left groups top id ≡ true
  in_reach_when_leads tree zero steps id all has way = absurd (steps_all ByOwners groups id top steps (omega (arith, all)) has way)
  in_reach_when_leads tree (suc left) steps id all has way = by_group (find_group groups id) refl (in_reach_when_leads tree left)
    where
      by_next : (group : Group) → find_group groups id ≡ Some group → bytes_eq id top ≡ false → (o : Option (List ℕ)) → owning_superior group ≡ o
          → ((more : ℕ) (next : List ℕ) → left + more ≡ length groups → HasSteps groups next more → LeadsUp ByOwners groups next top → is_in_reach left groups top next ≡ true) → is_in_reach (suc left) groups top id ≡ true
      by_next group here past None up rest = absurd (leads_stuck ByOwners groups id top group here (unlike id top past) up way)
      by_next group here past (Some next) up rest =
          reach_on left id group (Some next) here past up
          ∙ rest (steps + 1) next (omega (arith, all)) (steps_next groups tree ByOwners id next group steps here up has) (leads_to_next ByOwners groups id top group next here up (unlike id top past) way)

      by_name : (group : Group) → find_group groups id ≡ Some group → (b : Bool) → bytes_eq id top ≡ b
          → ((more : ℕ) (next : List ℕ) → left + more ≡ length groups → HasSteps groups next more → LeadsUp ByOwners groups next top → is_in_reach left groups top next ≡ true) → is_in_reach (suc left) groups top id ≡ true
      by_name group here true e rest = reach_here left id group true here e
      by_name group here false e rest = by_next group here e (owning_superior group) refl rest

      by_group : (o : Option Group) → find_group groups id ≡ o
          → ((more : ℕ) (next : List ℕ) → left + more ≡ length groups → HasSteps groups next more → LeadsUp ByOwners groups next top → is_in_reach left groups top next ≡ true) → is_in_reach (suc left) groups top id ≡ true
      by_group None e rest = absurd (leads_none ByOwners groups id top e way)
      by_group (Some group) e rest = by_name group e (bytes_eq id top) refl rest

  pub group-tested : IsTree groups → (id : List ℕ) → IsTrue (is_group_in_scope groups top id) ↔ InScopeGroup groups top id
  group-tested tree id = (
    λ h. let w = leads_when_in_reach (length groups) id h in record { others = w.others; way = w.way },
    λ w. in_reach_when_leads tree (length groups) 0 id (omega arith) (steps_first groups tree id) record { others = w.others; way = w.way },
  )

option_holds : {X : Type 0} (o : Option X) (f : X → Bool) (P : X → Type 0) → ((x : X) → f x ≡ true → P x) → option_map_or f o false ≡ true → IsSomeAnd o P
option_holds None f P h t = cc
option_holds (Some x) f P h t = holds_of (Some x) P x refl (h x t)

option_test : {X : Type 0} (o : Option X) (f : X → Bool) (P : X → Type 0) → ((x : X) → P x → f x ≡ true) → IsSomeAnd o P → option_map_or f o false ≡ true
option_test o f P h t = let v = value_of o P t in ap (λ o. option_map_or f o false) v.1 ∙ h v.0 v.2

pub profile-tested : (rows : Rows) (top owner : List ℕ) → IsTree rows.groups → IsTrue (is_profile_in_scope rows top owner) ↔ InScopeProfile rows top owner
profile-tested rows top owner tree =
    let inside : List ℕ → Bool = is_group_in_scope rows.groups top in
    let tested = group-tested rows.groups top tree in (
      λ h. ⊎_elim (λ (g : inside owner ≡ true). inl ((tested owner).0 g))
          (λ (u : option_map_or (λ (user : User). inside user.owner) (user_of owner rows) false ≡ true). inr (option_holds (user_of owner rows) (λ (user : User). inside user.owner) (λ user. InScopeGroup rows.groups top user.owner) (λ user t. (tested user.owner).0 t) u))
          (or_cases (inside owner) (option_map_or (λ (user : User). inside user.owner) (user_of owner rows) false) h),
      λ w. ⊎_elim (λ (g : InScopeGroup rows.groups top owner). or_left (inside owner) (option_map_or (λ (user : User). inside user.owner) (user_of owner rows) false) ((tested owner).1 g))
          (λ (u : IsSomeAnd (user_of owner rows) (λ user. InScopeGroup rows.groups top user.owner)). or_right (inside owner) (option_map_or (λ (user : User). inside user.owner) (user_of owner rows) false) (option_test (user_of owner rows) (λ (user : User). inside user.owner) (λ user. InScopeGroup rows.groups top user.owner) (λ user t. (tested user.owner).1 t) u))
          w,
    )

-- What profiles count together, after one was put or dropped.
use Rattle.std.proofs.Common.{◌≡◌, ℕ, suc, ◌+◌, ◌≤◌, Bool, true, false, cond, List, [], ◌∷◌, length, Option, Some, None, refl, sym, ap, subst, arith}
use Rattle.std.specs.List.{find, sum_by}
use Rattle.std.specs.Option.{option_map_or}
use Rattle.std.proofs.lemmas.List.Sums.{sum_by-cons}
use Rattle.generic_names.specs.declared.kind.NameKind.{NameKind}
use Rattle.generic_names.specs.Spelled.{Spelled}
use Rattle.generic_names.specs.Before.{before}
use Rattle.generic_names.specs.Laws.{NotBoth, PassedOn}
use Rattle.racf_profiles.specs.declared.profiles.Profile.{Profile}
use Rattle.racf_profiles.specs.declared.class_rows.ClassRow.{ClassRow}
use Rattle.racf_profiles.specs.Lookup.{is_class, is_profile}
use Rattle.racf_profiles.specs.Edits.{put_profile, drop_row, at_class, is_in_order, AreNamed}
use Rattle.racf_profiles.proofs.OrderedProfiles.{ordered-tail, rest-behind}
use Rattle.class_profiles.proofs.Order.{all-further, none-behind}

-- the profile that is put counts in place of the one that it replaces
module _ (not_both : NotBoth) (passed_on : PassedOn) (kind : NameKind) (p : Profile) (is : p.name.kind ≡ kind) where
  -- where it goes before one that has another name, none behind has its own
  none-further : (y : Profile) (ys : List Profile) → AreNamed kind ys → is_in_order (y ∷ ys) ≡ true → before p.name y.name ≡ true → find (is_profile p.name) ys ≡ None
  none-further y ys named ordered first = none-behind not_both p.name kind ys is named (all-further not_both passed_on p.name y.name ys first (rest-behind passed_on y ys ordered))

  pub sum-put : (weight : Profile → ℕ) (ps : List Profile) → AreNamed kind ps → is_in_order ps ≡ true
      → sum_by weight (put_profile p ps) + option_map_or weight (find (is_profile p.name) ps) 0 ≡ sum_by weight ps + weight p
  sum-put weight [] named ordered = let now : sum_by weight (p ∷ []) + 0 ≡ sum_by weight [] + weight p = omega (arith, sum_by-cons weight p []) in now
  sum-put weight (y ∷ ys) named ordered = by (is_profile p.name y) (before p.name y.name) refl (sum-put weight ys named.1 (ordered-tail y ys ordered))
    where
      by : (s t : Bool) → before p.name y.name ≡ t → sum_by weight (put_profile p ys) + option_map_or weight (find (is_profile p.name) ys) 0 ≡ sum_by weight ys + weight p
          → sum_by weight (cond s (p ∷ ys) (cond t (p ∷ y ∷ ys) (y ∷ put_profile p ys))) + option_map_or weight (cond s (Some y) (find (is_profile p.name) ys)) 0 ≡ sum_by weight (y ∷ ys) + weight p
      by true t first rest = let now : sum_by weight (p ∷ ys) + weight y ≡ sum_by weight (y ∷ ys) + weight p = omega (arith, sum_by-cons weight p ys, sum_by-cons weight y ys) in now
      by false true first rest =
          let none : option_map_or weight (find (is_profile p.name) ys) 0 ≡ 0 = ap (λ (o : Option Profile). option_map_or weight o 0) (none-further y ys named.1 ordered first) in
          let now : sum_by weight (p ∷ y ∷ ys) + option_map_or weight (find (is_profile p.name) ys) 0 ≡ sum_by weight (y ∷ ys) + weight p = omega (arith, none, sum_by-cons weight p (y ∷ ys)) in now
      by false false first rest =
          let now : sum_by weight (y ∷ put_profile p ys) + option_map_or weight (find (is_profile p.name) ys) 0 ≡ sum_by weight (y ∷ ys) + weight p =
          omega (arith, rest, sum_by-cons weight y (put_profile p ys), sum_by-cons weight y ys) in now

pub sum-drop : (name : Spelled) (weight : Profile → ℕ) (ps : List Profile) → sum_by weight (drop_row (is_profile name) ps) + option_map_or weight (find (is_profile name) ps) 0 ≡ sum_by weight ps
sum-drop name weight [] = refl
sum-drop name weight (y ∷ ys) = by (is_profile name y) (sum-drop name weight ys)
  where
    by : (b : Bool) → sum_by weight (drop_row (is_profile name) ys) + option_map_or weight (find (is_profile name) ys) 0 ≡ sum_by weight ys
        → sum_by weight (cond b ys (y ∷ drop_row (is_profile name) ys)) + option_map_or weight (cond b (Some y) (find (is_profile name) ys)) 0 ≡ sum_by weight (y ∷ ys)
    by true rest = let now : sum_by weight ys + weight y ≡ sum_by weight (y ∷ ys) = omega (arith, sum_by-cons weight y ys) in now
    by false rest =
        let now : sum_by weight (y ∷ drop_row (is_profile name) ys) + option_map_or weight (find (is_profile name) ys) 0 ≡ sum_by weight (y ∷ ys) =
        omega (arith, rest, sum_by-cons weight y (drop_row (is_profile name) ys), sum_by-cons weight y ys) in now

-- one for each is the length
pub ones : (ps : List Profile) → sum_by (λ (p : Profile). 1) ps ≡ length ps
ones [] = refl
ones (p ∷ ps) = let now : sum_by (λ (q : Profile). 1) (p ∷ ps) ≡ suc (length ps) = omega (arith, sum_by-cons (λ (q : Profile). 1) p ps, ones ps) in now

pub length-put : NotBoth → PassedOn → (kind : NameKind) (p : Profile) → p.name.kind ≡ kind → (ps : List Profile) → AreNamed kind ps → is_in_order ps ≡ true
    → length (put_profile p ps) + option_map_or (λ (q : Profile). 1) (find (is_profile p.name) ps) 0 ≡ length ps + 1
length-put not_both passed_on kind p is ps named ordered = omega (arith, sum-put not_both passed_on kind p is (λ (q : Profile). 1) ps named ordered, ones (put_profile p ps), ones ps)

pub length-drop : (name : Spelled) (ps : List Profile) → length (drop_row (is_profile name) ps) + option_map_or (λ (q : Profile). 1) (find (is_profile name) ps) 0 ≡ length ps
length-drop name ps = omega (arith, sum-drop name (λ (q : Profile). 1) ps, ones (drop_row (is_profile name) ps), ones ps)

-- a change of one class changes the sum by as much
module _ (weight : ClassRow → ℕ) (change : ClassRow → ClassRow) (name : List ℕ) (less more : ℕ) where
  pub sum-at_class : (classes : List ClassRow) (row : ClassRow) → find (is_class name) classes ≡ Some row → weight (change row) + less ≡ weight row + more
      → sum_by weight (at_class name change classes) + less ≡ sum_by weight classes + more
  sum-at_class [] row found changed = cc
  sum-at_class (c ∷ cs) row found changed = by (is_class name c) found (λ rest. sum-at_class cs row rest changed)
    where
      by : (b : Bool) → cond b (Some c) (find (is_class name) cs) ≡ Some row → (find (is_class name) cs ≡ Some row → sum_by weight (at_class name change cs) + less ≡ sum_by weight cs + more)
          → sum_by weight (cond b (change c ∷ cs) (c ∷ at_class name change cs)) + less ≡ sum_by weight (c ∷ cs) + more
      by true here rest =
          let same : c ≡ row = cc in
          let now : sum_by weight (change c ∷ cs) + less ≡ sum_by weight (c ∷ cs) + more =
          omega (arith, sum_by-cons weight (change c) cs, sum_by-cons weight c cs, subst (λ (r : ClassRow). weight (change r) + less ≡ weight r + more) (sym same) changed) in now
      by false here rest =
          let now : sum_by weight (c ∷ at_class name change cs) + less ≡ sum_by weight (c ∷ cs) + more =
          omega (arith, rest here, sum_by-cons weight c (at_class name change cs), sum_by-cons weight c cs) in now

-- what is found counts no more than the whole
pub found-le : {X : Type 0} (it : X → Bool) (weight : X → ℕ) (xs : List X) (x : X) → find it xs ≡ Some x → weight x ≤ sum_by weight xs
found-le it weight [] x found = cc
found-le it weight (y ∷ ys) x found = by (it y) found (found-le it weight ys x)
  where
    by : (b : Bool) → cond b (Some y) (find it ys) ≡ Some x → (find it ys ≡ Some x → weight x ≤ sum_by weight ys) → weight x ≤ sum_by weight (y ∷ ys)
    by true here rest = let same : y ≡ x = cc in omega (arith, ap weight same, sum_by-cons weight y ys)
    by false here rest = omega (arith, rest here, sum_by-cons weight y ys)

-- Entries under one first qualifier, among entries in order.
use Rattle.std.proofs.Common.{◌≡◌, ℕ, ◌<◌, ◌≤◌, Bool, true, false, List, length, get_or, refl, ap, sym, ◌∙◌, subst, arith, ⊎_elim}
use Rattle.std.specs.List.{AllWithin}
use Rattle.std.proofs.lemmas.Bool.{cases_lt}
use Rattle.std.proofs.lemmas.Slice.Eq.{bytes_eq-Decides}
use Rattle.generic_names.specs.Spelled.{Spelled, first_qualifier}
use Rattle.generic_names.specs.Best.{IsInOrder, AreNamed}
use Rattle.generic_names.specs.Laws.{IsPattern}
use Rattle.generic_names.specs.OrderKey.{is_lower, qualifier_key}
use Rattle.generic_names.proofs.UnderLaws.{first-not-lower, firsts-together}
use Rattle.profile_index.specs.declared.entry.Entry.{Entry}
use Rattle.profile_index.specs.Indexed.{name_of, is_under}
use Rattle.profile_index.proofs.OrderedLaws.{all-at, ordered-at}

module _ {T : Type 0} (entries : List (Entry T)) (qualifier key : List ℕ) (key_is : key ≡ qualifier_key qualifier) where
  -- none of those with a lower key
  pub none-lower : (from to : ℕ) → AllWithin (λ e. is_lower e.name key ≡ true) entries from to → AllWithin (λ e. is_under qualifier e ≡ false) entries from to
  none-lower from to lower k d low high = settled (is_under qualifier (get_or entries k d)) refl
    where
      settled : (t : Bool) → is_under qualifier (get_or entries k d) ≡ t → t ≡ false
      settled false is = refl
      settled true is =
          let name : Spelled = (get_or entries k d).name in
          let from_it : is_lower name (qualifier_key qualifier) ≡ false = first-not-lower name qualifier ((bytes_eq-Decides (first_qualifier name.text) qualifier).0 is) in
          let before_it : is_lower name (qualifier_key qualifier) ≡ true = ap (λ (bound : List ℕ). is_lower name bound) (sym key_is) ∙ lower k d low high in
          absurd (cc (from_it, before_it))

  -- nor, where the first of the others isn't one, any of those
  module _ (ordered : IsInOrder name_of entries) (named : AreNamed name_of entries) (place : ℕ) (within : place < length entries) (above : AllWithin (λ e. is_lower e.name key ≡ false) entries place (length entries))
      (other : (d : Entry T) → is_under qualifier (get_or entries place d) ≡ false) where
    behind : (k : ℕ) (d : Entry T) → place < k → k < length entries → (t : Bool) → is_under qualifier (get_or entries k d) ≡ t → t ≡ false
    behind k d later high false is = refl
    behind k d later high true is =
        let first : Spelled = (get_or entries place d).name in
        let name : Spelled = (get_or entries k d).name in
        let from_it : is_lower first (qualifier_key qualifier) ≡ false = ap (λ (bound : List ℕ). is_lower first bound) (sym key_is) ∙ above place d (omega arith) within in
        let same = firsts-together first name qualifier (all-at (λ e. IsPattern e.name) entries named place d within) (all-at (λ e. IsPattern e.name) entries named k d high) from_it
        (ordered-at name_of entries ordered place k d later high) ((bytes_eq-Decides (first_qualifier name.text) qualifier).0 is) in
        let met : is_under qualifier (get_or entries place d) ≡ true = (bytes_eq-Decides (first_qualifier first.text) qualifier).1 same in
        let refused : is_under qualifier (get_or entries place d) ≡ false = other d in
        absurd (cc (met, refused))

    pub none-from : AllWithin (λ e. is_under qualifier e ≡ false) entries place (length entries)
    none-from k d low high = ⊎_elim
        (λ (later : place < k). behind k d later high (is_under qualifier (get_or entries k d)) refl)
        (λ (more : k ≤ place). let here : place ≡ k = omega arith in subst (λ (n : ℕ). is_under qualifier (get_or entries n d) ≡ false) here (other d))
        (cases_lt place k)

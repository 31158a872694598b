-- What holds where no conflict is met.
use Rattle.std.proofs.Common.{◌≡◌, ℕ, ◌≤◌, Bool, true, false, ◌&&◌, not, List, [], ◌∷◌, Option, None, Some, IsSome, is_some, bytes_eq, codes, refl, sym, ap, ◌∙◌, true≢false, arith}
use Rattle.std.specs.Prelude.{nat_lt}
use Rattle.std.specs.Option.{option_map}
use Rattle.std.proofs.lemmas.Bool.{not-false, or_parts}
use Rattle.std.proofs.lemmas.Bool.Decides.{nat_tests}
use Rattle.access_levels.proofs.Options.{none_from_is_some}
use Rattle.racf_profiles.specs.declared.groups.Group.{Group}
use Rattle.racf_profiles.specs.declared.rows.Rows.{Rows}
use Rattle.racf_profiles.specs.Lookup.{user_of, group_of}
use Rattle.group_tree.specs.Groups.{first_subgroup}
use Rattle.group_tree.proofs.Rows.{itself}
use Rattle.group_tree.proofs.Edits.{none_from_map}
use Rattle.command_rules.specs.declared.conflict.Conflict.{Conflict}
use Rattle.command_rules.specs.declared.conflict.Conflict.TheVariants.{Root}
use Rattle.command_rules.specs.declared.conflict.Limit.{Limit}
use Rattle.racf_profiles.specs.Names.{is_taken}
use Rattle.command_rules.specs.Conflicts.{if_met, first_met, over, no_user, no_group, no_named_group, name_taken, has_subgroup, is_root, cycle, meets}

-- ---- of several tests, each
abbrev pub AreUnmet : List (Option Conflict) → Type 0
AreUnmet [] = Unit {0}
AreUnmet (o ∷ os) = (o ≡ None) × AreUnmet os

pub each_unmet : (tests : List (Option Conflict)) → first_met tests ≡ None → AreUnmet tests
each_unmet [] h = tt
each_unmet (None ∷ os) h = (refl, each_unmet os h)
each_unmet (Some conflict ∷ os) h = cc

-- ---- of one test
pub unmet : (met : Bool) (conflict : Conflict) → if_met met conflict ≡ None → met ≡ false
unmet true conflict h = cc
unmet false conflict h = refl

pub user_there : (id : List ℕ) (rows : Rows) → no_user id rows ≡ None → IsSome (user_of id rows)
unfolding no_user
user_there id rows h = not-false (is_some (user_of id rows)) (unmet (not (is_some (user_of id rows))) _ h)

pub group_there : (id : List ℕ) (rows : Rows) → no_group id rows ≡ None → IsSome (group_of id rows)
unfolding no_group
group_there id rows h = not-false (is_some (group_of id rows)) (unmet (not (is_some (group_of id rows))) _ h)

pub named_there : (id : List ℕ) (rows : Rows) → no_named_group (Some id) rows ≡ None → IsSome (group_of id rows)
unfolding no_named_group
named_there id rows h = group_there id rows h

pub name_free : (id : List ℕ) (rows : Rows) → name_taken id rows ≡ None → (user_of id rows ≡ None) × (group_of id rows ≡ None)
unfolding name_taken
name_free id rows h =
    let both = or_parts (is_some (user_of id rows)) (is_some (group_of id rows)) (unmet (is_taken id rows) _ h) in
    (none_from_is_some (user_of id rows) both.0, none_from_is_some (group_of id rows) both.1)

pub within : (kind : Limit) (limit count : ℕ) → over kind limit count ≡ None → count ≤ limit
within kind limit count h =
    let less : nat_lt limit count ≡ false = unmet (nat_lt limit count) _ h in
    grind (arith, nat_tests)

pub no_subgroup : (id : List ℕ) (rows : Rows) → has_subgroup id rows ≡ None → first_subgroup rows.groups id ≡ None
unfolding has_subgroup
no_subgroup id rows h = none_from_map _ (first_subgroup rows.groups id) (none_from_map _ (option_map (λ (group : Group). group.id) (first_subgroup rows.groups id)) h)

pub no_root : (id : List ℕ) → is_root id ≡ false → id ≡ codes "SYS1" → ⊥
unfolding is_root
no_root id h e = true≢false (sym (itself id) ∙ ap (bytes_eq id) e ∙ h)

pub no_root_moved : (id superior : List ℕ) → if_met (is_root id && is_some (Some superior)) Root ≡ None → is_root id ≡ false
no_root_moved id superior h = by (is_root id) (unmet (is_root id && true) Root h)
  where
    by : (b : Bool) → (b && true) ≡ false → b ≡ false
    by true e = e
    by false e = refl

pub no_cycle : (id superior : List ℕ) (rows : Rows) → cycle id (Some superior) rows ≡ None → meets id superior rows.groups ≡ false
unfolding cycle
no_cycle id superior rows h = unmet (meets id superior rows.groups) _ h

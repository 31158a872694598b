-- The places in a conditional list of the entries under a port.
use Rattle.std.proofs.Common.{◌≡◌, ℕ, Bool, true, false, cond, ◌||◌, ◌&&◌, List, [], ◌∷◌, map, Option, Some, None, option_and_then, is_some, refl, sym, ◌∙◌, ap, ⊎_elim}
use Rattle.std.specs.List.{find, filter, position, list_any}
use Rattle.std.proofs.lemmas.Bool.{cases_Bool}
use Rattle.access_levels.specs.declared.entries.Who.{Who}
use Rattle.access_levels.specs.declared.entries.Who.TheVariants.{Star, Named}
use Rattle.access_levels.specs.declared.entries.Entry.{Entry}
use Rattle.access_levels.specs.declared.levels.Level.TheVariants.{NoAccess}
use Rattle.access_levels.specs.declared.entries.CondEntry.{CondEntry}
use Rattle.access_levels.specs.declared.entries.Condition.{Condition}
use Rattle.access_lists.specs.declared.best.GroupEntry.{GroupEntry}
use Rattle.access_lists.specs.Lists.{is_for, is_under, is_for_under}
use Rattle.access_levels.specs.Entries.{is_same_who}
use Rattle.access_levels.proofs.Options.{none_from_is_some}
use Rattle.access_lists.specs.Answers.{user_entry, group_entry, star_entry, found_of, who_counts, unconditional, entries_under, answered_when}
use Rattle.access_lists.proofs.PutLaws.{any_at_position, new_without_position}

some_of : {X : Type 0} (b : Bool) (x : X) (o : Option X) → is_some (cond b (Some x) o) ≡ (b || is_some o)
some_of true x o = refl
some_of false x o = refl

-- There is an entry under the port for one where one of the conditional list is.
is_found_under : (port : Condition) (who : Who) (list : List CondEntry) → is_some (find (is_for who) (entries_under port list)) ≡ list_any (is_for_under port who) list
is_found_under port who [] = refl
is_found_under port who (entry ∷ list) = ⊎_elim
    (λ (hit : is_under port entry ≡ true).
    ap (λ t. is_some (find (is_for who) (map unconditional (cond t (entry ∷ filter (is_under port) list) (filter (is_under port) list))))) hit
    ∙ some_of (is_same_who entry.who who) (unconditional entry) (find (is_for who) (entries_under port list))
    ∙ ap (λ r. is_same_who entry.who who || r) (is_found_under port who list)
    ∙ sym (ap (λ t. (t && is_same_who entry.who who) || list_any (is_for_under port who) list) hit))
    (λ (miss : is_under port entry ≡ false).
    ap (λ t. is_some (find (is_for who) (map unconditional (cond t (entry ∷ filter (is_under port) list) (filter (is_under port) list))))) miss
    ∙ is_found_under port who list
    ∙ sym (ap (λ t. (t && is_same_who entry.who who) || list_any (is_for_under port who) list) miss))
    (cases_Bool (is_under port entry))

-- An entry as it may be given where a law asks for any.
any_entry : Condition → Who → CondEntry
any_entry port who = record { condition = port; who = who; level = NoAccess }

found_at : (port : Condition) (who : Who) (list : List CondEntry) (k : ℕ) → position (is_for_under port who) list ≡ Some k → is_some (find (is_for who) (entries_under port list)) ≡ true
found_at port who list k at = is_found_under port who list ∙ any_at_position (is_for_under port who) list k (any_entry port who) at

not_found : (port : Condition) (who : Who) (list : List CondEntry) → position (is_for_under port who) list ≡ None → find (is_for who) (entries_under port list) ≡ None
not_found port who list none = none_from_is_some (find (is_for who) (entries_under port list)) (is_found_under port who list ∙ (new_without_position (is_for_under port who) list (any_entry port who) none).any)

-- The place of the entry of whom counts.
abbrev place_of : Condition → List CondEntry → List ℕ → Option Entry → Option GroupEntry → Option Entry → Option ℕ
place_of port list user own group star = option_and_then (λ who. position (is_for_under port who) list) (who_counts user (found_of own group star))

user_counts : (port : Condition) (list : List CondEntry) (user : List ℕ) (own : Option Entry) (group : Option GroupEntry) (star : Option Entry) → is_some own ≡ true → place_of port list user own group star ≡ position (is_for_under port (Named user)) list
user_counts port list user None group star h = cc
user_counts port list user (Some entry) group star h = refl

star_counts : (port : Condition) (list : List CondEntry) (user : List ℕ) (star : Option Entry) → (star ≡ None → position (is_for_under port Star) list ≡ None) → place_of port list user None None star ≡ position (is_for_under port Star) list
star_counts port list user None h = sym (h refl)
star_counts port list user (Some entry) h = refl

pub user_place : (port : Condition) (list : List CondEntry) (user : List ℕ) (groups : List (List ℕ)) (restricted : Bool) (k : ℕ) → position (is_for_under port (Named user)) list ≡ Some k → answered_when (Some port) user groups restricted list ≡ Some k
user_place port list user groups restricted k at =
    let es = entries_under port list in
    user_counts port list user (user_entry user es) (group_entry groups es) (star_entry restricted es) (found_at port (Named user) list k at) ∙ at

pub group_place : (port : Condition) (list : List CondEntry) (user : List ℕ) (groups : List (List ℕ)) (restricted : Bool) (best : GroupEntry) → position (is_for_under port (Named user)) list ≡ None → group_entry groups (entries_under port list) ≡ Some best
    → answered_when (Some port) user groups restricted list ≡ position (is_for_under port (Named best.group)) list
group_place port list user groups restricted best none is =
    let es = entries_under port list in
    ap (λ own. place_of port list user own (group_entry groups es) (star_entry restricted es)) (not_found port (Named user) list none)
    ∙ ap (λ group. place_of port list user None group (star_entry restricted es)) is

-- A place where nothing is found isn't one.
no_place : (port : Condition) (who : Who) (list : List CondEntry) → find (is_for who) (entries_under port list) ≡ None → position (is_for_under port who) list ≡ None
no_place port who list none = by_cases (position (is_for_under port who) list) refl where
  by_cases : (o : Option ℕ) → position (is_for_under port who) list ≡ o → position (is_for_under port who) list ≡ None
  by_cases None at = at
  by_cases (Some k) at = let yes : is_some (find (is_for who) (entries_under port list)) ≡ true = found_at port who list k at in let no : is_some (find (is_for who) (entries_under port list)) ≡ false = ap is_some none in cc

pub star_place : (port : Condition) (list : List CondEntry) (user : List ℕ) (groups : List (List ℕ)) → position (is_for_under port (Named user)) list ≡ None → group_entry groups (entries_under port list) ≡ None → answered_when (Some port) user groups false list ≡ position (is_for_under port Star) list
star_place port list user groups none no_group =
    let es = entries_under port list in
    ap (λ own. place_of port list user own (group_entry groups es) (star_entry false es)) (not_found port (Named user) list none)
    ∙ ap (λ group. place_of port list user None group (star_entry false es)) no_group
    ∙ star_counts port list user (star_entry false es) (no_place port Star list)

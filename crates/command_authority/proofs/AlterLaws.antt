-- The best entry of a user's groups gives ALTER where one of their entries does.
use Rattle.std.proofs.Common.{◌≡◌, ℕ, ◌+◌, ◌≤◌, Bool, true, false, cond, not, ◌&&◌, ◌||◌, List, [], ◌∷◌, length, map, Option, Some, None, option_map, bytes_eq, refl, sym, ◌∙◌, ap, arith, ⊎_elim}
use Rattle.std.specs.Prelude.{◌==◌, nat_lt, is_some}
use Rattle.std.specs.List.{list_any, position, position_or_len}
use Rattle.std.proofs.lemmas.Bool.{cases_Bool}
use Rattle.std.proofs.lemmas.List.Quantifiers.{position-Some}
use Rattle.std.proofs.lemmas.List.Folds.{list_any_at}
use Rattle.std.specs.Option.{option_map_or}
use Rattle.std.proofs.Math.Bool.{or-false}
use Rattle.access_levels.specs.declared.levels.Level.{Level}
use Rattle.access_levels.specs.declared.levels.Level.TheVariants.{NoAccess, Execute, Read, Update, Control, Alter}
use Rattle.access_levels.specs.declared.entries.Who.{Who}
use Rattle.access_levels.specs.declared.entries.Who.TheVariants.{Star, Named}
use Rattle.access_levels.specs.declared.entries.Entry.{Entry}
use Rattle.access_levels.specs.Level.{level_rank, suffices}
use Rattle.access_lists.specs.declared.best.GroupEntry.{GroupEntry}
use Rattle.access_lists.specs.Answers.{user_entry, group_entry, as_group_entry, first_of_two, goes_before, for_group, found_of}
use Rattle.racf_profiles.specs.declared.users.User.{User}
use Rattle.racf_profiles.specs.declared.users.Connect.{Connect as Connection}
use Rattle.command_authority.specs.Held.{counting, groups_of, is_alter, has_alter}
use Rattle.command_authority.specs.Entries.{is_for_group, gives_group_alter}
use Rattle.access_lists.proofs.PutLaws.{none-within}

abbrev best_alter : Option GroupEntry → Bool
best_alter o = option_map_or (λ (entry : GroupEntry). suffices entry.level Alter) o false

-- ---- of two entries
high_stays : (a b : Level) (z : Bool) → suffices a Alter ≡ true → suffices b Alter ≡ false → (nat_lt (level_rank a) (level_rank b) || (level_rank b == level_rank a && z)) ≡ false
high_stays Alter NoAccess z h k = refl
high_stays Alter Execute z h k = refl
high_stays Alter Read z h k = refl
high_stays Alter Update z h k = refl
high_stays Alter Control z h k = refl
high_stays Alter Alter z h k = cc
high_stays NoAccess b z h k = cc
high_stays Execute b z h k = cc
high_stays Read b z h k = cc
high_stays Update b z h k = cc
high_stays Control b z h k = cc

high_comes : (a b : Level) (z : Bool) → suffices a Alter ≡ false → suffices b Alter ≡ true → (nat_lt (level_rank a) (level_rank b) || (level_rank b == level_rank a && z)) ≡ true
high_comes NoAccess Alter z h k = refl
high_comes Execute Alter z h k = refl
high_comes Read Alter z h k = refl
high_comes Update Alter z h k = refl
high_comes Control Alter z h k = refl
high_comes Alter b z h k = cc
high_comes a NoAccess z h k = cc
high_comes a Execute z h k = cc
high_comes a Read z h k = cc
high_comes a Update z h k = cc
high_comes a Control z h k = cc

higher_of : (c a b : Bool) → (a ≡ true → b ≡ false → c ≡ false) → (a ≡ false → b ≡ true → c ≡ true) → cond c b a ≡ (a || b)
higher_of true true true h k = refl
higher_of true true false h k = let no : true ≡ false = h refl refl in cc
higher_of true false true h k = refl
higher_of true false false h k = refl
higher_of false true true h k = refl
higher_of false true false h k = refl
higher_of false false true h k = let no : false ≡ true = k refl refl in cc
higher_of false false false h k = refl

chosen_alter : (c : Bool) (a b : GroupEntry) → best_alter (cond c (Some b) (Some a)) ≡ cond c (suffices b.level Alter) (suffices a.level Alter)
chosen_alter true a b = refl
chosen_alter false a b = refl

first_alter : (a b : Option GroupEntry) → best_alter (first_of_two a b) ≡ (best_alter a || best_alter b)
first_alter None b = refl
first_alter (Some a) None = sym (or-false (suffices a.level Alter))
first_alter (Some a) (Some b) =
    chosen_alter (goes_before b a) a b
    ∙ higher_of (goes_before b a) (suffices a.level Alter) (suffices b.level Alter) (high_stays a.level b.level (nat_lt b.place a.place)) (high_comes a.level b.level (nat_lt b.place a.place))

-- ---- of an entry
placed_alter : (level : Level) (id : List ℕ) (o : Option ℕ) → best_alter (option_map (λ place. record { group = id; level = level; place = place }) o) ≡ (suffices level Alter && is_some o)
placed_alter NoAccess id None = refl
placed_alter Execute id None = refl
placed_alter Read id None = refl
placed_alter Update id None = refl
placed_alter Control id None = refl
placed_alter Alter id None = refl
placed_alter NoAccess id (Some place) = refl
placed_alter Execute id (Some place) = refl
placed_alter Read id (Some place) = refl
placed_alter Update id (Some place) = refl
placed_alter Control id (Some place) = refl
placed_alter Alter id (Some place) = refl

-- A place is found where an element passes.
module _ (p : List ℕ → Bool) where
  none_passes : (xs : List (List ℕ)) → length xs ≤ position_or_len p xs → list_any p xs ≡ false
  none_passes [] h = refl
  none_passes (x ∷ xs) h = ⊎_elim
      (λ (hit : p x ≡ true). let none : position_or_len p (x ∷ xs) ≡ 0 = ap (λ b. cond (not b) (1 + position_or_len p xs) 0) hit in absurd (omega (arith, h, none)))
      (λ (miss : p x ≡ false).
      let more : position_or_len p (x ∷ xs) ≡ 1 + position_or_len p xs = ap (λ b. cond (not b) (1 + position_or_len p xs) 0) miss in
      ap (λ b. b || list_any p xs) miss ∙ none_passes xs (omega (arith, h, more)))
      (cases_Bool (p x))

  placed_by : (xs : List (List ℕ)) (o : Option ℕ) → position p xs ≡ o → is_some o ≡ list_any p xs
  placed_by xs (Some k) h = let at = position-Some p xs k [] h in sym (list_any_at p xs k [] at.0 at.1)
  placed_by xs None h = sym (none_passes xs (none-within (position_or_len p xs) (length xs) h))

  placed : (xs : List (List ℕ)) → is_some (position p xs) ≡ list_any p xs
  placed xs = placed_by xs (position p xs) refl

in_groups : (group : List ℕ) (connections : List Connection) → list_any (bytes_eq group) (map (λ (connection : Connection). connection.group) connections) ≡ list_any (λ (connection : Connection). bytes_eq group connection.group) connections
in_groups group [] = refl
in_groups group (connection ∷ connections) = ap (λ b. bytes_eq group connection.group || b) (in_groups group connections)

for_alter : (user : User) (level : Level) (who : Who) → best_alter (for_group (groups_of user) level who) ≡ (suffices level Alter && is_for_group user who)
for_alter user NoAccess Star = refl
for_alter user Execute Star = refl
for_alter user Read Star = refl
for_alter user Update Star = refl
for_alter user Control Star = refl
for_alter user Alter Star = refl
for_alter user level (Named id) =
    placed_alter level id (position (bytes_eq id) (groups_of user))
    ∙ ap (λ b. suffices level Alter && b) (placed (bytes_eq id) (groups_of user) ∙ in_groups id (counting user))

-- ---- of a list
group_alter : (user : User) (list : List Entry) → best_alter (group_entry (groups_of user) list) ≡ list_any (gives_group_alter user) list
group_alter user [] = refl
group_alter user (entry ∷ list) =
    first_alter (as_group_entry (groups_of user) entry) (group_entry (groups_of user) list)
    ∙ ap (λ b. b || best_alter (group_entry (groups_of user) list)) (for_alter user entry.level entry.who)
    ∙ ap (λ b. gives_group_alter user entry || b) (group_alter user list)

own_found : (entry : Entry) (group : Option GroupEntry) → is_alter (found_of (Some entry) group None) ≡ suffices entry.level Alter
own_found entry group = refl

group_found : (group : Option GroupEntry) → is_alter (found_of None group None) ≡ best_alter group
group_found None = refl
group_found (Some entry) = refl

pub alter_by_own : (user : User) (list : List Entry) (level : Level) → Some level ≡ option_map (λ (entry : Entry). entry.level) (user_entry user.id list) → suffices level Alter ≡ has_alter user list
alter_by_own user list level h = by (user_entry user.id list) refl h
  where
    by : (o : Option Entry) → user_entry user.id list ≡ o → Some level ≡ option_map (λ (entry : Entry). entry.level) o → suffices level Alter ≡ has_alter user list
    by None e h = cc
    by (Some entry) e h = let same : level ≡ entry.level = cc in ap (λ level. suffices level Alter) same ∙ sym (ap (λ o. is_alter (found_of o (group_entry (groups_of user) list) None)) e)

pub alter_by_group : (user : User) (list : List Entry) → None ≡ option_map (λ (entry : Entry). entry.level) (user_entry user.id list) → list_any (gives_group_alter user) list ≡ has_alter user list
alter_by_group user list h = by (user_entry user.id list) refl h
  where
    by : (o : Option Entry) → user_entry user.id list ≡ o → None ≡ option_map (λ (entry : Entry). entry.level) o → list_any (gives_group_alter user) list ≡ has_alter user list
    by (Some entry) e h = cc
    by None e h =
        sym (group_alter user list) ∙ sym (group_found (group_entry (groups_of user) list))
        ∙ sym (ap (λ o. is_alter (found_of o (group_entry (groups_of user) list) None)) e)

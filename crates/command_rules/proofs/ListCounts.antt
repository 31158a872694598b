-- How many entries, members and categories there are, once more are put.
use Rattle.std.proofs.Common.{◌≡◌, ℕ, ◌+◌, ◌≤◌, Bool, true, false, cond, ◌||◌, ◌&&◌, not, List, [], ◌∷◌, ◌++◌, length, refl, sym, ap, ◌∙◌, true≢false, arith, bytes_eq, length-append}
use Rattle.std.specs.Prelude.{fold, filter, count_by, nat_le}
use Rattle.std.proofs.lemmas.Bool.Decides.{nat_tests}
use Rattle.std.proofs.lemmas.List.Sums.{length-filter}
use Rattle.std.proofs.lemmas.List.Filters.{length-filter_both}
use Rattle.std.specs.List.{list_any}
use Rattle.std.proofs.Math.Bool.{or_assoc}
use Rattle.access_levels.specs.declared.entries.Who.{Who}
use Rattle.access_levels.specs.declared.entries.Who.TheVariants.{Star, Named}
use Rattle.access_levels.specs.declared.entries.Entry.{Entry}
use Rattle.access_levels.specs.declared.entries.CondEntry.{CondEntry}
use Rattle.access_levels.specs.declared.entries.Condition.{Condition}
use Rattle.access_levels.specs.Level.{port_class_name}
use Rattle.access_lists.specs.Lists.{is_for, is_under, is_for_under, entry_put, permitted, withdrawn, permitted_when, withdrawn_when, is_full, is_full_when}
use Rattle.access_levels.specs.Entries.{is_same_who, is_same_port}
use Rattle.racf_profiles.specs.declared.profiles.Member.{Member}
use Rattle.racf_profiles.specs.declared.profiles.Member.TheVariants.{Access, SecurityLevel, Category, Traits}
use Rattle.command_fields.specs.declared.profile_fields.Permit.{Permit}
use Rattle.group_tree.proofs.Rows.{same, itself}
use Rattle.command_rules.specs.Security.{is_category_member}
use Rattle.command_rules.specs.UserEffects.{with_class}
use Rattle.command_rules.specs.Members.{member_name, is_member_named, with_member, with_category_name, category_repeats}
use Rattle.command_rules.specs.PermitEffects.{level_of, with_entry, with_conditional}
use Rattle.command_rules.proofs.LengthAfterPuts.{or-comm, any-put, length-put, length-more}

-- ---- standard entries
pub same_who : (a b : Who) → is_same_who a b ≡ true → a ≡ b
same_who Star Star h = refl
same_who Star (Named id) h = absurd (true≢false (sym h))
same_who (Named id) Star h = absurd (true≢false (sym h))
same_who (Named id) (Named other) h = ap Named (same id other h)

abbrev entry_for : Permit → Who → Entry
entry_for c who = record { who = who; level = level_of c }

abbrev conditional_for : Permit → Condition → Who → CondEntry
conditional_for c condition who = record { condition = condition; who = who; level = level_of c }

module _ (c : Permit) (gives : c.delete ≡ false) where
  put-is : (list : List Entry) (who : Who) → with_entry c list who ≡ entry_put (is_for who) (entry_for c who) list
  put-is list who = ap (λ b. cond b (withdrawn who list) (permitted (entry_for c who) list)) gives

  alike : (j k : Who) (x : Entry) → is_for k x ≡ true → is_for j x ≡ is_same_who k j
  alike j k x h = ap (λ w. is_same_who w j) (same_who x.who k h)

  any-entry : (j k : Who) (list : List Entry) → list_any (is_for j) (with_entry c list k) ≡ (list_any (is_for j) list || is_same_who k j)
  any-entry j k list = ap (list_any (is_for j)) (put-is list k) ∙ any-put entry_put is_for (entry_for c) is_same_who (λ r x. refl) (λ r x y ys. refl) (λ i l. refl) alike j k list

  length-entry : (k : Who) (list : List Entry) → length (with_entry c list k) ≡ length list + cond (list_any (is_for k) list) 0 1
  length-entry k list = ap (λ (xs : List Entry). length xs) (put-is list k) ∙ length-put entry_put is_for (entry_for c) is_same_who (λ r x. refl) (λ r x y ys. refl) (λ i l. refl) alike k list

  pub entries-more : (list : List Entry) (whos : List Who) (who : Who) → length (with_entry c (fold (with_entry c) list whos) who) ≡ length (fold (with_entry c) list whos) + cond (list_any (is_for who) list || list_any (λ other. is_same_who other who) whos) 0 1
  entries-more list whos who = length-more (with_entry c) is_for is_same_who any-entry length-entry who list whos

  -- no list gets shorter, so a list that is within the limit at last was so all along, and never full for an entry
  pub entries-longer : (list : List Entry) (whos : List Who) → length list ≤ length (fold (with_entry c) list whos)
  entries-longer list [] = omega arith
  entries-longer list (who ∷ whos) = omega (arith, length-entry who list, entries-longer (with_entry c list who) whos)

  pub entry-fits : (list : List Entry) (who : Who) → length (with_entry c list who) ≤ 1000 → is_full (entry_for c who) list ≡ false
  entry-fits list who fits = by (list_any (is_for who) list) refl
    where
      by : (b : Bool) → list_any (is_for who) list ≡ b → is_full (entry_for c who) list ≡ false
      by true there = ap (λ b. not b && nat_le 1000 (length list)) there
      by false absent =
          let longer : length (with_entry c list who) ≡ length list + 1 = length-entry who list ∙ ap (λ b. length list + cond b 0 1) absent in
          let room : nat_le 1000 (length list) ≡ false = grind (arith, nat_tests) in
          ap (λ b. not b && nat_le 1000 (length list)) absent ∙ room

  -- ---- conditional entries
  module _ (condition : Condition) where
    put_when-is : (list : List CondEntry) (who : Who) → with_conditional c condition list who ≡ entry_put (is_for_under condition who) (conditional_for c condition who) list
    put_when-is list who = ap (λ b. cond b (withdrawn_when condition who list) (permitted_when (conditional_for c condition who) list)) gives

    own_port : is_same_port condition condition ≡ true
    own_port = ap (λ b. b && bytes_eq condition.name condition.name) (itself (port_class_name condition.class)) ∙ itself condition.name

    own_when : (j k : Who) → is_for_under condition j (conditional_for c condition k) ≡ is_same_who k j
    own_when j k = ap (λ b. b && is_same_who k j) own_port

    alike_when : (j k : Who) (x : CondEntry) → is_for_under condition k x ≡ true → is_for_under condition j x ≡ is_same_who k j
    alike_when j k x h = by (is_under condition x) (is_same_who x.who k) refl refl h
      where
        by : (u w : Bool) → is_under condition x ≡ u → is_same_who x.who k ≡ w → (u && w) ≡ true → (is_under condition x && is_same_who x.who j) ≡ is_same_who k j
        by true true a b e = ap (λ t. t && is_same_who x.who j) a ∙ ap (λ w. is_same_who w j) (same_who x.who k b)
        by true false a b e = absurd (true≢false (sym e))
        by false w a b e = absurd (true≢false (sym e))

    any-conditional : (j k : Who) (list : List CondEntry) → list_any (is_for_under condition j) (with_conditional c condition list k) ≡ (list_any (is_for_under condition j) list || is_same_who k j)
    any-conditional j k list =
        ap (list_any (is_for_under condition j)) (put_when-is list k)
        ∙ any-put entry_put (is_for_under condition) (conditional_for c condition) is_same_who (λ r x. refl) (λ r x y ys. refl) own_when alike_when j k list

    length-conditional : (k : Who) (list : List CondEntry) → length (with_conditional c condition list k) ≡ length list + cond (list_any (is_for_under condition k) list) 0 1
    length-conditional k list =
        ap (λ (xs : List CondEntry). length xs) (put_when-is list k)
        ∙ length-put entry_put (is_for_under condition) (conditional_for c condition) is_same_who (λ r x. refl) (λ r x y ys. refl) own_when alike_when k list

    pub conditionals-longer : (list : List CondEntry) (whos : List Who) → length list ≤ length (fold (with_conditional c condition) list whos)
    conditionals-longer list [] = omega arith
    conditionals-longer list (who ∷ whos) = omega (arith, length-conditional who list, conditionals-longer (with_conditional c condition list who) whos)

    pub conditional-fits : (list : List CondEntry) (who : Who) → length (with_conditional c condition list who) ≤ 1000 → is_full_when (conditional_for c condition who) list ≡ false
    conditional-fits list who fits = by (list_any (is_for_under condition who) list) refl
      where
        by : (b : Bool) → list_any (is_for_under condition who) list ≡ b → is_full_when (conditional_for c condition who) list ≡ false
        by true there = ap (λ b. not b && nat_le 1000 (length list)) there
        by false absent =
            let longer : length (with_conditional c condition list who) ≡ length list + 1 = length-conditional who list ∙ ap (λ b. length list + cond b 0 1) absent in
            let room : nat_le 1000 (length list) ≡ false = grind (arith, nat_tests) in
            ap (λ b. not b && nat_le 1000 (length list)) absent ∙ room

    pub conditionals-more : (list : List CondEntry) (whos : List Who) (who : Who)
        → length (with_conditional c condition (fold (with_conditional c condition) list whos) who) ≡ length (fold (with_conditional c condition) list whos) + cond (list_any (is_for_under condition who) list || list_any (λ other. is_same_who other who) whos) 0 1
    conditionals-more list whos who = length-more (with_conditional c condition) (is_for_under condition) is_same_who any-conditional length-conditional who list whos

-- ---- members
abbrev named : Member → Member → Bool
named k x = is_member_named (member_name k) x

abbrev is_named_alike : Member → Member → Bool
is_named_alike k j = is_member_named (member_name j) k

members_alike : (j k x : Member) → named k x ≡ true → named j x ≡ is_named_alike k j
members_alike j k x h = ap (λ n. bytes_eq n (member_name j)) (same (member_name x) (member_name k) h)

any-member : (j k : Member) (list : List Member) → list_any (named j) (with_member list k) ≡ (list_any (named j) list || is_named_alike k j)
any-member j k list = any-put entry_put named (λ k. k) is_named_alike (λ r x. refl) (λ r x y ys. refl) (λ i l. refl) members_alike j k list

length-member : (k : Member) (list : List Member) → length (with_member list k) ≡ length list + cond (list_any (named k) list) 0 1
length-member k list = length-put entry_put named (λ k. k) is_named_alike (λ r x. refl) (λ r x y ys. refl) (λ i l. refl) members_alike k list

pub members-more : (list : List Member) (ks : List Member) (k : Member) → length (with_member (fold with_member list ks) k) ≡ length (fold with_member list ks) + cond (list_any (is_member_named (member_name k)) list || list_any (is_member_named (member_name k)) ks) 0 1
members-more list ks k = length-more with_member named is_named_alike any-member length-member k list ks

-- those that pass among those that stay
pub list_any-filter : {X : Type 0} (p q : X → Bool) (xs : List X) → list_any p (filter q xs) ≡ list_any (λ x. p x && q x) xs
list_any-filter p q [] = refl
list_any-filter p q (x ∷ xs) = by (q x) (list_any-filter p q xs)
  where
    by : (b : Bool) → list_any p (filter q xs) ≡ list_any (λ x. p x && q x) xs → list_any p (cond b (x ∷ filter q xs) (filter q xs)) ≡ ((p x && b) || list_any (λ x. p x && q x) xs)
    by true rest = two (p x) rest
      where
        two : (t : Bool) → list_any p (filter q xs) ≡ list_any (λ x. p x && q x) xs → (t || list_any p (filter q xs)) ≡ ((t && true) || list_any (λ x. p x && q x) xs)
        two true r = refl
        two false r = r
    by false rest = none (p x) rest
      where
        none : (t : Bool) → list_any p (filter q xs) ≡ list_any (λ x. p x && q x) xs → list_any p (filter q xs) ≡ ((t && false) || list_any (λ x. p x && q x) xs)
        none true r = r
        none false r = r

-- ---- categories
abbrev has_name : List ℕ → List (List ℕ) → Bool
has_name name names = list_any (λ other. bytes_eq other name) names

list_any-append : {X : Type 0} (p : X → Bool) (xs ys : List X) → list_any p (xs ++ ys) ≡ (list_any p xs || list_any p ys)
list_any-append p [] ys = refl
list_any-append p (x ∷ xs) ys = ap (λ b. p x || b) (list_any-append p xs ys) ∙ sym (or_assoc (p x) (list_any p xs) (list_any p ys))

any-class : (name c : List ℕ) (names : List (List ℕ)) → has_name name (with_class names c) ≡ (has_name name names || bytes_eq c name)
any-class name c names = by (has_name c names) refl
  where
    there : (b t : Bool) → bytes_eq c name ≡ b → has_name c names ≡ true → has_name name names ≡ t → t ≡ (t || b)
    there b true e has is = refl
    there false false e has is = refl
    there true false e has is = sym is ∙ ap (λ n. has_name n names) (sym (same c name e)) ∙ has

    by : (b : Bool) → has_name c names ≡ b → has_name name (cond b names (names ++ c ∷ [])) ≡ (has_name name names || bytes_eq c name)
    by true has = there (bytes_eq c name) (has_name name names) refl has refl
    by false has = list_any-append (λ other. bytes_eq other name) names (c ∷ []) ∙ ap (λ b. has_name name names || b) (or-comm (bytes_eq c name) false)

length-class : (c : List ℕ) (names : List (List ℕ)) → length (with_class names c) ≡ length names + cond (has_name c names) 0 1
length-class c names = by (has_name c names)
  where
    by : (b : Bool) → length (cond b names (names ++ c ∷ [])) ≡ length names + cond b 0 1
    by true = omega arith
    by false = length-append names (c ∷ [])

any-category : (name : List ℕ) (m : Member) (names : List (List ℕ)) → has_name name (with_category_name names m) ≡ (has_name name names || is_category_member name m)
any-category name (Access resources level) names = sym (or-comm (has_name name names) false)
any-category name (SecurityLevel other number) names = sym (or-comm (has_name name names) false)
any-category name (Traits traits) names = sym (or-comm (has_name name names) false)
any-category name (Category c) names = any-class name c names

any-categories : (name : List ℕ) (ms : List Member) (names : List (List ℕ)) → has_name name (fold with_category_name names ms) ≡ (has_name name names || list_any (is_category_member name) ms)
any-categories name [] names = sym (or-comm (has_name name names) false)
any-categories name (m ∷ ms) names =
    any-categories name ms (with_category_name names m) ∙ ap (λ b. b || list_any (is_category_member name) ms) (any-category name m names)
    ∙ or_assoc (has_name name names) (is_category_member name m) (list_any (is_category_member name) ms)

pub categories-more : (names : List (List ℕ)) (ms : List Member) (m : Member) → length (with_category_name (fold with_category_name names ms) m) + category_repeats m ms names ≡ length (fold with_category_name names ms) + 1
categories-more names ms (Access resources level) = refl
categories-more names ms (SecurityLevel other number) = refl
categories-more names ms (Traits traits) = refl
categories-more names ms (Category c) =
    let more : length (with_class (fold with_category_name names ms) c) ≡ length (fold with_category_name names ms) + cond (has_name c names || list_any (is_category_member c) ms) 0 1 =
    length-class c (fold with_category_name names ms) ∙ ap (λ b. length (fold with_category_name names ms) + cond b 0 1) (any-categories c ms names) in
    either (has_name c names || list_any (is_category_member c) ms) (length (with_class (fold with_category_name names ms) c)) (length (fold with_category_name names ms)) more
  where
    either : (b : Bool) (after before : ℕ) → after ≡ before + cond b 0 1 → after + cond b 1 0 ≡ before + 1
    either true after before h = omega (arith, h)
    either false after before h = omega (arith, h)

pub category_repeats-le : (m : Member) (ms : List Member) (names : List (List ℕ)) → category_repeats m ms names ≤ 1
category_repeats-le (Access resources level) ms names = omega arith
category_repeats-le (SecurityLevel other number) ms names = omega arith
category_repeats-le (Traits traits) ms names = omega arith
category_repeats-le (Category c) ms names = either (has_name c names || list_any (is_category_member c) ms)
  where
    either : (b : Bool) → cond b 1 0 ≤ 1
    either true = omega arith
    either false = omega arith

-- those that pass and those that don't
pub count-filter : {X : Type 0} (p : X → Bool) (xs : List X) → count_by p xs + length (filter (λ x. not (p x)) xs) ≡ length xs
count-filter p xs = omega (arith, length-filter p xs, length-filter_both p (λ x. not (p x)) (λ x. refl) xs)

-- ---- what is left once the IDs are taken away
module _ {X W : Type 0} (hits : W → X → Bool) where
  abbrev missed : List W → X → Bool
  missed ws x = not (list_any (λ w. hits w x) ws)

  missed-one : (w : W) (ws : List W) (xs : List X) → filter (missed (w ∷ ws)) xs ≡ filter (missed ws) (filter (λ x. not (hits w x)) xs)
  missed-one w ws [] = refl
  missed-one w ws (x ∷ xs) = by (hits w x) (missed-one w ws xs)
    where
      by : (b : Bool) → filter (missed (w ∷ ws)) xs ≡ filter (missed ws) (filter (λ x. not (hits w x)) xs)
          → cond (not (b || list_any (λ v. hits v x) ws)) (x ∷ filter (missed (w ∷ ws)) xs) (filter (missed (w ∷ ws)) xs)
          ≡ filter (missed ws) (cond (not b) (x ∷ filter (λ x. not (hits w x)) xs) (filter (λ x. not (hits w x)) xs))
      by true rest = rest
      by false rest = ap (λ ys. cond (missed ws x) (x ∷ ys) ys) rest

  missed-none : (xs : List X) → filter (missed []) xs ≡ xs
  missed-none [] = refl
  missed-none (x ∷ xs) = ap (λ ys. x ∷ ys) (missed-none xs)

  filtered : (ws : List W) (xs : List X) → filter (missed ws) xs ≡ fold (λ ys w. filter (λ x. not (hits w x)) ys) xs ws
  filtered [] xs = missed-none xs
  filtered (w ∷ ws) xs = missed-one w ws xs ∙ filtered ws (filter (λ x. not (hits w x)) xs)

  left : (ws : List W) (xs : List X) → count_by (λ x. not (list_any (λ w. hits w x) ws)) xs ≡ length (fold (λ ys w. filter (λ x. not (hits w x)) ys) xs ws)
  left ws xs = sym (length-filter (missed ws) xs) ∙ ap (λ (ys : List X). length ys) (filtered ws xs)

pub entries-left : (c : Permit) → c.delete ≡ true → (list : List Entry) (whos : List Who) → count_by (λ entry. not (list_any (λ who. is_for who entry) whos)) list ≡ length (fold (with_entry c) list whos)
entries-left c deletes list whos =
    left is_for whos list
    ∙ ap (λ b. length (fold (λ entries who. cond b (withdrawn who entries) (permitted (record { who = who; level = level_of c }) entries)) list whos)) (sym deletes)

pub conditionals-left : (c : Permit) (condition : Condition) → c.delete ≡ true → (list : List CondEntry) (whos : List Who)
    → count_by (λ entry. not (list_any (λ who. is_for_under condition who entry) whos)) list ≡ length (fold (with_conditional c condition) list whos)
conditionals-left c condition deletes list whos =
    left (is_for_under condition) whos list
    ∙ ap (λ b. length (fold (λ entries who. cond b (withdrawn_when condition who entries) (permitted_when (record { condition = condition; who = who; level = level_of c }) entries)) list whos)) (sym deletes)

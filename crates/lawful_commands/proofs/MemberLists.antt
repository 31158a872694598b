-- The members of a profile, and the categories that they define, after ADDMEM and DELMEM.
use Rattle.std.proofs.Common.{◌≡◌, ℕ, ◌≤◌, Bool, true, false, cond, not, ◌&&◌, ◌||◌, List, [], ◌∷◌, ◌++◌, length, map, fold, is_some, bytes_eq, codes, refl, sym, ap, subst, ◌∙◌, arith, length-append}
use Rattle.std.specs.Prelude.{nat_le}
use Rattle.std.specs.List.{AllByRecursion, IsDistinct, list_any, list_all}
use Rattle.std.proofs.lemmas.Bool.{or_right}
use Rattle.generic_names.specs.Spelled.{Spelled}
use Rattle.racf_profiles.specs.declared.profiles.Profile.{Profile}
use Rattle.racf_profiles.specs.declared.profiles.Member.{Member}
use Rattle.racf_profiles.specs.declared.profiles.Member.TheVariants.{Access, SecurityLevel, Category, Traits}
use Rattle.racf_profiles.specs.declared.options.Options.{Options}
use Rattle.racf_profiles.specs.DynamicClasses.{cdt, traits_of}
use Rattle.racf_profiles.specs.Limits.{most_members, most_categories}
use Rattle.racf_profiles.specs.LawfulProfiles.{AreMembers, member_name as name_of, is_member_of, is_of_kind, kind_in}
use Rattle.racf_profiles.specs.Lawful.{AreCategories}
use Rattle.group_tree.proofs.Rows.{same, itself}
use Rattle.command_rules.specs.UserEffects.{with_class}
use Rattle.command_rules.specs.Members.{member_name, is_member_named, with_member, is_named_in, without_members, members_after, with_category_name, categories_defined, options_after}
use Rattle.lawful_commands.proofs.RowLists.{all-filter, all-put, all-passes, passes-all, any-push, distinct-filter, distinct-put}
use Rattle.lawful_commands.proofs.UserParts.{distinct-with_class}
use Rattle.lawful_commands.proofs.Kept.{Extends}

-- ---- categories
-- each name that is there stays, and one more may come
grows-with_class : (names : List (List ℕ)) (new : List ℕ) → (length names ≤ length (with_class names new))
    × ((name : List ℕ) → list_any (λ other. bytes_eq other name) names ≡ true → list_any (λ other. bytes_eq other name) (with_class names new) ≡ true)
grows-with_class names new = by (list_any (λ other. bytes_eq other new) names)
  where
    by : (b : Bool) → (length names ≤ length (cond b names (names ++ new ∷ [])))
        × ((name : List ℕ) → list_any (λ other. bytes_eq other name) names ≡ true → list_any (λ other. bytes_eq other name) (cond b names (names ++ new ∷ [])) ≡ true)
    by true = (omega arith, λ name h. h)
    by false = (omega (arith, length-append names (new ∷ [])), λ name h. any-push (λ other. bytes_eq other name) names new h)

-- what was made a member is defined
defined-with_class : (names : List (List ℕ)) (new : List ℕ) → list_any (λ other. bytes_eq other new) (with_class names new) ≡ true
defined-with_class names new = by (list_any (λ other. bytes_eq other new) names) refl
  where
    last : (ns : List (List ℕ)) → list_any (λ other. bytes_eq other new) (ns ++ new ∷ []) ≡ true
    last [] = ap (λ b. b || false) (itself new)
    last (n ∷ ns) = ap (λ b. bytes_eq n new || b) (last ns) ∙ or_right (bytes_eq n new) true refl

    by : (b : Bool) → list_any (λ other. bytes_eq other new) names ≡ b → list_any (λ other. bytes_eq other new) (cond b names (names ++ new ∷ [])) ≡ true
    by true e = e
    by false e = last names

pub record Grows (old new : List (List ℕ)) : Type 0 where
  pub longer : length old ≤ length new
  pub kept : (name : List ℕ) → list_any (λ other. bytes_eq other name) old ≡ true → list_any (λ other. bytes_eq other name) new ≡ true

grows-with : (names : List (List ℕ)) (member : Member) → Grows names (with_category_name names member)
grows-with names (Access resources level) = record { longer = omega arith; kept = λ name h. h }
grows-with names (SecurityLevel name number) = record { longer = omega arith; kept = λ other h. h }
grows-with names (Traits traits) = record { longer = omega arith; kept = λ other h. h }
grows-with names (Category name) = record { longer = (grows-with_class names name).0; kept = (grows-with_class names name).1 }

pub grows-defined : (added : List Member) (names : List (List ℕ)) → Grows names (categories_defined added names)
grows-defined [] names = record { longer = omega arith; kept = λ name h. h }
grows-defined (member ∷ added) names =
    let first = grows-with names member in
    let rest = grows-defined added (with_category_name names member) in
    record { longer = omega (arith, first.longer, rest.longer); kept = λ name h. rest.kept name (first.kept name h) }

distinct-with : (names : List (List ℕ)) (member : Member) → IsDistinct bytes_eq names → IsDistinct bytes_eq (with_category_name names member)
distinct-with names (Access resources level) d = d
distinct-with names (SecurityLevel name number) d = d
distinct-with names (Traits traits) d = d
distinct-with names (Category name) d = distinct-with_class name names d

distinct-defined : (added : List Member) (names : List (List ℕ)) → IsDistinct bytes_eq names → IsDistinct bytes_eq (categories_defined added names)
distinct-defined [] names d = d
distinct-defined (member ∷ added) names d = distinct-defined added (with_category_name names member) (distinct-with names member d)

pub extends-after : (added : List Member) (options : Options) → Extends options (options_after added options)
extends-after added options = record { longer = (grows-defined added options.categories).longer; kept = (grows-defined added options.categories).kept }

pub categories-after : (added : List Member) (options : Options) → AreCategories options → length (categories_defined added options.categories) ≤ most_categories → AreCategories (options_after added options)
categories-after added options are few = record { distinct = distinct-defined added options.categories are.distinct; few = few }

-- ---- members
-- what a member of a profile has to be, but that its category is defined
abbrev pub is_fitting : (class profile : List ℕ) → Member → Bool
is_fitting class profile (Access resources level) = bytes_eq class (codes "GLOBAL") && is_of_kind (kind_in profile) resources.kind
is_fitting class profile (SecurityLevel name number) = bytes_eq class (codes "SECDATA") && bytes_eq profile (codes "SECLEVEL") && nat_le 1 number && nat_le number 254
is_fitting class profile (Category name) = bytes_eq class (codes "SECDATA") && bytes_eq profile (codes "CATEGORY")
is_fitting class profile (Traits traits) = bytes_eq class cdt && nat_le 1 traits.longest && nat_le traits.longest 246

-- its category is defined
abbrev pub is_known : List (List ℕ) → Member → Bool
is_known names (Access resources level) = true
is_known names (SecurityLevel name number) = true
is_known names (Traits traits) = true
is_known names (Category name) = list_any (λ other. bytes_eq other name) names

is_known-grown : (old new : List (List ℕ)) → Grows old new → (member : Member) → is_known old member ≡ true → is_known new member ≡ true
is_known-grown old new grows (Access resources level) h = refl
is_known-grown old new grows (SecurityLevel name number) h = refl
is_known-grown old new grows (Traits traits) h = refl
is_known-grown old new grows (Category name) h = grows.kept name h

is_known-with : (names : List (List ℕ)) (member : Member) → is_known (with_category_name names member) member ≡ true
is_known-with names (Access resources level) = refl
is_known-with names (SecurityLevel name number) = refl
is_known-with names (Traits traits) = refl
is_known-with names (Category name) = defined-with_class names name

known-defined : (added : List Member) (names : List (List ℕ)) → AllByRecursion (λ member. is_known (categories_defined added names) member ≡ true) added
known-defined [] names = tt
known-defined (member ∷ added) names = (
  is_known-grown (with_category_name names member) (categories_defined added (with_category_name names member)) (grows-defined added (with_category_name names member)) member (is_known-with names member),
  known-defined added (with_category_name names member),
)

is_member-fitting : (options : Options) (class profile : List ℕ) (member : Member) → is_fitting class profile member ≡ true → is_known options.categories member ≡ true → is_member_of options class profile member ≡ true
is_member-fitting options class profile (Access resources level) h k = h
is_member-fitting options class profile (SecurityLevel name number) h k = h
is_member-fitting options class profile (Traits traits) h k = h
is_member-fitting options class profile (Category name) h k = ap (λ b. bytes_eq class (codes "SECDATA") && bytes_eq profile (codes "CATEGORY") && b) k ∙ both (bytes_eq class (codes "SECDATA")) (bytes_eq profile (codes "CATEGORY")) h
  where
    both : (a b : Bool) → (a && b) ≡ true → (a && b && true) ≡ true
    both true true e = refl
    both true false e = e
    both false b e = e

same-named : (member : Member) → member_name member ≡ name_of member
same-named (Access resources level) = refl
same-named (SecurityLevel name number) = refl
same-named (Category name) = refl
same-named (Traits traits) = refl

like-names : (a b c : List ℕ) → bytes_eq a b ≡ true → bytes_eq a c ≡ false → bytes_eq b c ≡ false
like-names a b c e f = ap (λ n. bytes_eq n c) (sym (same a b e)) ∙ f

distinct-added : (added members : List Member) → IsDistinct bytes_eq (map name_of members) → IsDistinct bytes_eq (map name_of (fold with_member members added))
distinct-added [] members d = d
distinct-added (member ∷ added) members d =
    distinct-added added (with_member members member)
    (distinct-put bytes_eq name_of like-names (is_member_named (member_name member)) member (λ other. ap (λ n. bytes_eq n (member_name member)) (same-named other) ∙ ap (bytes_eq (name_of other)) (same-named member)) members d)

all-added : (P : Member → Type 0) (added members : List Member) → AllByRecursion P added → AllByRecursion P members → AllByRecursion P (fold with_member members added)
all-added P [] members a h = h
all-added P (member ∷ added) members a h = all-added P added (with_member members member) a.1 (all-put P (is_member_named (member_name member)) member members a.0 h)

-- ---- the members of a profile after ADDMEM and DELMEM
module _ (options : Options) (class : List ℕ) (added : List Member) (gone : List Spelled) where
  pub members-after : (old new : Profile) → new.members ≡ members_after added gone old.members → new.name ≡ old.name → AreMembers (options_after added options) class old → bytes_eq class cdt ≡ false
      → AllByRecursion (λ member. is_fitting class old.name.text member ≡ true) added → length new.members ≤ most_members → AreMembers (options_after added options) class new
  members-after old new is keeps are other fit few = record {
    distinct = subst (λ (members : List Member). IsDistinct bytes_eq (map name_of members)) (sym is)
        (distinct-added added (without_members gone old.members) (distinct-filter bytes_eq name_of (λ member. not (is_named_in gone member)) old.members are.distinct));
    fitting = ap (λ (members : List Member). list_all (is_member_of (options_after added options) class new.name.text) members) is
        ∙ ap (λ (name : Spelled). list_all (is_member_of (options_after added options) class name.text) (members_after added gone old.members)) keeps
        ∙ passes-all (is_member_of (options_after added options) class old.name.text) (members_after added gone old.members)
        (all-added (λ member. is_member_of (options_after added options) class old.name.text member ≡ true) added (without_members gone old.members) (fitting-added added fit (known-defined added options.categories))
        (all-filter (λ member. is_member_of (options_after added options) class old.name.text member ≡ true) (λ member. not (is_named_in gone member)) old.members (all-passes (is_member_of (options_after added options) class old.name.text) old.members are.fitting)));
    few = few;
    traits = ap (λ b. not b || is_some (traits_of new.members)) other;
  }
    where
      fitting-added : (ms : List Member) → AllByRecursion (λ member. is_fitting class old.name.text member ≡ true) ms → AllByRecursion (λ member. is_known (categories_defined added options.categories) member ≡ true) ms
          → AllByRecursion (λ member. is_member_of (options_after added options) class old.name.text member ≡ true) ms
      fitting-added [] f k = tt
      fitting-added (m ∷ ms) f k = (is_member-fitting (options_after added options) class old.name.text m f.0 k.0, fitting-added ms f.1 k.1)

-- First unlawful fields of rows, worked out: rows that no image has, and one fault of each pass.
use Rattle.std.proofs.Common.{◌≡◌, ℕ, List, [], ◌∷◌, length, drop, replicate, Option, Some, None, refl, sym, ap, ◌∙◌, arith, inl, inr}
use Rattle.std.specs.Prelude.{false, codes}
use Rattle.std.specs.List.{AllByRecursion}
use Rattle.std.proofs.lemmas.List.{length-replicate}
use Rattle.byteorder.specs.Endian.{big_bytes, big_number}
use Rattle.access_levels.specs.declared.levels.Level.{Level}
use Rattle.access_levels.specs.declared.levels.Level.TheVariants.{NoAccess}
use Rattle.generic_names.specs.declared.kind.NameKind.{NameKind}
use Rattle.generic_names.specs.declared.kind.NameKind.TheVariants.{DataSet, General}
use Rattle.racf_profiles.specs.declared.users.User.{User}
use Rattle.racf_profiles.specs.declared.profiles.Profile.{Profile}
use Rattle.racf_profiles.specs.declared.class_rows.ClassRow.{ClassRow}
use Rattle.racf_profiles.specs.declared.rows.Rows.{Rows}
use Rattle.racf_profiles.specs.Edits.{at_class}
use Rattle.racf_profiles.specs.NewDatabase.{new_database, ibmuser, no_options}
use Rattle.database_image.specs.Forms.{IsSpelled, number_spelling, spelled_at}
use Rattle.database_image.specs.Description.{options, group, connection, user, profile, class, image_by, pattern_in, is_pattern_at}
use Rattle.database_image.specs.Image.{image_of, first_pass, second_pass, rows_of, FirstUnlawful}
use Rattle.database_image.specs.Spelled.{AreSpelled, IsSpelledUser, IsSpelledProfile, IsSpelledClass}
use Rattle.database_image.proofs.Verdicts.{judged}

-- ---- 65,541 categories: their count is written as 5
abbrev many : List (List ℕ)
many = replicate 65541 (codes "A")

abbrev with_categories : List (List ℕ) → Rows
with_categories names = record new_database { options = record no_options { categories = names } }

the-count : (m n : ℕ) → (let o : Option ℕ = Some m in o ≡ Some n) → m ≡ n
the-count m n h = cc

not-spelled : (n : ℕ) → n ≡ 65541 → IsSpelled (number_spelling 2) n → ⊥
not-spelled n e h =
    let wrapped : 5 ≡ 65541 = ap (λ (m : ℕ). big_number 2 (big_bytes 2 m)) (sym e) ∙ the-count _ _ h.back ∙ e in
    absurd (omega (arith, wrapped))

too-many : (names : List (List ℕ)) → length names ≡ 65541 → FirstUnlawful (with_categories names) 1
unfolding image_by options
too-many names e = inl (inl (inr ((record { whole = refl; back = refl }, refl), (0, inl (inl ((λ h. not-spelled (length names) e h.0), refl)), refl))))

many-categories : FirstUnlawful (with_categories many) 1
many-categories = too-many many (length-replicate 65541 (codes "A"))

-- ---- a user's name of 300 bytes: its length is written as 44
abbrev with_user : User → Rows
with_user user = record new_database { users = user ∷ [] }

abbrev long_name : User
long_name = record ibmuser { name = replicate 300 65 }

-- the classes behind FACILITY
others : AllByRecursion IsSpelledClass (drop 2 new_database.classes)
others = (
  record { name = refl; profiles = tt },
  (
    record { name = refl; profiles = tt },
    (
      record { name = refl; profiles = tt },
      (
        record { name = refl; profiles = tt },
        (
          record { name = refl; profiles = tt },
          (
            record { name = refl; profiles = tt },
            (record { name = refl; profiles = tt }, (record { name = refl; profiles = tt }, (record { name = refl; profiles = tt }, (record { name = refl; profiles = tt }, (record { name = refl; profiles = tt }, (record { name = refl; profiles = tt }, (record { name = refl; profiles = tt }, tt))))))),
          ),
        ),
      ),
    ),
  ),
)

spelled-user : (user : User) → IsSpelledUser user → AreSpelled (with_user user)
spelled-user user h = record {
  categories = tt;
  groups = (record { id = refl; superior = tt; owner = refl }, tt);
  users = (h, tt);
  classes = (record { name = refl; profiles = tt }, (record { name = refl; profiles = tt }, others));
}

long-name : FirstUnlawful (with_user long_name) 59
unfolding image_of spelled_at rows_of first_pass second_pass image_by options group user connection class profile
long-name = judged (with_user long_name) (spelled-user long_name (record { id = refl; default_group = refl; owner = refl; level = omega arith; label = tt; classes = tt; connects = (refl, tt) }))

-- ---- a fault of the second pass alone: no group has the name of the default group
abbrev other_default : User
other_default = record ibmuser { default_group = codes "SYS2" }

no-default : FirstUnlawful (with_user other_default) 43
unfolding image_of spelled_at rows_of first_pass second_pass image_by options group user connection class profile
no-default = judged (with_user other_default) (spelled-user other_default (record { id = refl; default_group = refl; owner = refl; level = omega arith; label = tt; classes = tt; connects = (refl, tt) }))

-- ---- a profile of FACILITY
abbrev with_profile : Profile → Rows
with_profile row = record new_database { classes = at_class (codes "FACILITY") (λ (class_row : ClassRow). record class_row { profiles = row ∷ [] }) new_database.classes }

abbrev plain : (kind : NameKind) → (text : List ℕ) → (success : Option Level) → Profile
plain kind text success = record {
  name = record { kind = kind; text = text };
  owner = codes "IBMUSER";
  uacc = NoAccess;
  warning = false;
  standard = [];
  conditional = [];
  level = 0;
  categories = 0;
  label = None;
  audit = record { success = success; failures = None };
  global_audit = record { success = None; failures = None };
  members = [];
}

spelled-profile : (row : Profile) → IsSpelledProfile row → AreSpelled (with_profile row)
spelled-profile row h = record {
  categories = tt;
  groups = (record { id = refl; superior = tt; owner = refl }, tt);
  users = (record { id = refl; default_group = refl; owner = refl; level = omega arith; label = tt; classes = tt; connects = (refl, tt) }, tt);
  classes = (record { name = refl; profiles = tt }, (record { name = refl; profiles = (h, tt) }, others));
}

-- its name is kept with the kind of DATASET's names, and would be read with its own class's
other-kind : FirstUnlawful (with_profile (plain DataSet (codes "A.B") None)) 147
unfolding image_of spelled_at rows_of first_pass second_pass image_by options group user connection class profile pattern_in is_pattern_at
other-kind = judged (with_profile (plain DataSet (codes "A.B") None)) (spelled-profile (plain DataSet (codes "A.B") None)
    (record { name = refl; owner = refl; level = omega arith; label = tt; standard = tt; conditional = tt; members = tt }))

-- successes are logged from no access on, which would be read as from no level on
no-access : FirstUnlawful (with_profile (plain General (codes "A.B") (Some NoAccess))) 160
unfolding image_of spelled_at rows_of first_pass second_pass image_by options group user connection class profile pattern_in is_pattern_at
no-access = judged (with_profile (plain General (codes "A.B") (Some NoAccess))) (spelled-profile (plain General (codes "A.B") (Some NoAccess))
    (record { name = refl; owner = refl; level = omega arith; label = tt; standard = tt; conditional = tt; members = tt }))

-- an ordinary fault of the first pass: a set of categories of which none is defined
undefined-category : FirstUnlawful (with_profile (record (plain General (codes "A.B") None) { categories = 1 })) 165
unfolding image_of spelled_at rows_of first_pass second_pass image_by options group user connection class profile pattern_in is_pattern_at
undefined-category = judged (with_profile (record (plain General (codes "A.B") None) { categories = 1 })) (spelled-profile (record (plain General (codes "A.B") None) { categories = 1 })
    (record { name = refl; owner = refl; level = omega arith; label = tt; standard = tt; conditional = tt; members = tt }))

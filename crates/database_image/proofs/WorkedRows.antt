-- Images, worked out: that of a new database as another program wrote it, and bytes with a fault in a field or between
-- two.
use Rattle.std.proofs.Common.{◌≡◌, ℕ, List, [], ◌∷◌, ◌++◌, replicate, take, Some, None, Ok, refl}
use Rattle.std.specs.Prelude.{codes}
use Rattle.racf_profiles.specs.NewDatabase.{new_database}
use Rattle.database_image.specs.Description.{options, group, connection, user, member, profile, class, image_by, pattern_in, is_pattern_at}
use Rattle.database_image.specs.Forms.{spelled_at}
use Rattle.database_image.specs.Image.{image_of, first_pass, second_pass, rows_of, first_fault}

abbrev zeros : ℕ → List ℕ
zeros count = replicate count 0

-- A class that isn't active and has no profiles.
abbrev idle : List ℕ → List ℕ
idle name = name ++ zeros 6

-- So many classes, of which these are the fixed ones up to GLOBAL.
abbrev classes_of : ℕ → List ℕ
classes_of count = 0 ∷ count ∷ codes "DATASET " ++ 1 ∷ zeros 5 ++ idle (codes "FACILITY") ++ idle (codes "TERMINAL") ++ idle (codes "CONSOLE ") ++ idle (codes "JESINPUT") ++ idle (codes "APPCPORT") ++ idle (codes "APPL    ")
    ++ idle (codes "OPERCMDS") ++ idle (codes "SURROGAT") ++ idle (codes "TAPEVOL ") ++ idle (codes "DASDVOL ") ++ idle (codes "SECDATA ") ++ idle (codes "SECLABEL") ++ idle (codes "GLOBAL  ")

abbrev classes : List ℕ
classes = classes_of 15 ++ idle (codes "CDT     ")

-- IBMUSER with this default group, these flags and this flag byte of his connection.
abbrev first_user : (default : List ℕ) → (flags connection : ℕ) → List ℕ
first_user default flags connection = codes "IBMUSER " ++ default ++ codes "SYS1    " ++ 0 ∷ flags ∷ zeros 33 ++ codes "        " ++ 0 ∷ 0 ∷ 1 ∷ codes "SYS1    " ++ 3 ∷ connection ∷ []

abbrev with_user : List ℕ → List ℕ
with_user user = zeros 6 ++ 1 ∷ codes "SYS1            IBMUSER " ++ 0 ∷ 0 ∷ 0 ∷ 1 ∷ user

new-written : image_of new_database ≡ with_user (first_user (codes "SYS1    ") 7 0) ++ classes
unfolding image_of image_by options group user connection class profile
new-written = refl

new-read : rows_of (with_user (first_user (codes "SYS1    ") 7 0) ++ classes) ≡ Ok new_database
unfolding spelled_at rows_of first_pass second_pass image_by options group user connection class profile
new-read = refl

-- ---- faults of the first pass

abbrev whole : List ℕ
whole = with_user (first_user (codes "SYS1    ") 7 0) ++ classes

empty : first_fault [] ≡ Some 0
unfolding spelled_at rows_of first_pass second_pass image_by options group user connection class profile
empty = refl

unused-flag : first_fault (8 ∷ zeros 6) ≡ Some 0
unfolding spelled_at rows_of first_pass second_pass image_by options group user connection class profile
unused-flag = refl

byte-behind : first_fault (whole ++ 0 ∷ []) ≡ Some 327
unfolding spelled_at rows_of first_pass second_pass image_by options group user connection class profile
byte-behind = refl

turned-count : first_fault (zeros 3 ++ 1 ∷ zeros 3) ≡ Some 3
unfolding spelled_at rows_of first_pass second_pass image_by options group user connection class profile
turned-count = refl

-- ---- and of the second, which comes behind the first

other-default : first_fault (with_user (first_user (codes "SYS2    ") 7 0) ++ classes) ≡ Some 43
unfolding spelled_at rows_of first_pass second_pass image_by options group user connection class profile
other-default = refl

nobody-special : first_fault (with_user (first_user (codes "SYS1    ") 23 0) ++ classes) ≡ Some 31
unfolding spelled_at rows_of first_pass second_pass image_by options group user connection class profile
nobody-special = refl

first-pass-first : first_fault (with_user (first_user (codes "SYS2    ") 71 0) ++ classes) ≡ Some 60
unfolding spelled_at rows_of first_pass second_pass image_by options group user connection class profile
first-pass-first = refl

-- Two groups, of which this is the second.
abbrev with_group : (second user : List ℕ) → List ℕ
with_group second user = zeros 6 ++ 2 ∷ codes "SYS1            IBMUSER " ++ second ++ 0 ∷ 0 ∷ 0 ∷ 1 ∷ user

-- IBMUSER with these bytes of his classes and his connections.
abbrev user_with : (lists : List ℕ) → List ℕ
user_with lists = codes "IBMUSER SYS1    SYS1    " ++ 0 ∷ 7 ∷ zeros 33 ++ codes "        " ++ lists

no-superior : first_fault (with_group (codes "A       B       IBMUSER ") (first_user (codes "SYS1    ") 7 0) ++ classes) ≡ Some 39
unfolding spelled_at rows_of first_pass second_pass image_by options group user connection class profile
no-superior = refl

below-itself : first_fault (with_group (codes "A       A       IBMUSER ") (first_user (codes "SYS1    ") 7 0) ++ classes) ≡ Some 39
unfolding spelled_at rows_of first_pass second_pass image_by options group user connection class profile
below-itself = refl

name-of-a-group : first_fault (with_group (codes "IBMUSER SYS1    IBMUSER ") (first_user (codes "SYS1    ") 7 0) ++ classes) ≡ Some 59
unfolding spelled_at rows_of first_pass second_pass image_by options group user connection class profile
name-of-a-group = refl

no-such-class : first_fault (with_user (user_with (1 ∷ codes "DATASET " ++ 0 ∷ 1 ∷ codes "SYS1    " ++ 3 ∷ 0 ∷ [])) ++ classes) ≡ Some 103
unfolding spelled_at rows_of first_pass second_pass image_by options group user connection class profile
no-such-class = refl

no-such-group : first_fault (with_user (user_with (0 ∷ 0 ∷ 2 ∷ codes "SYS1    " ++ 3 ∷ 0 ∷ codes "B       " ++ 0 ∷ 0 ∷ [])) ++ classes) ≡ Some 115
unfolding spelled_at rows_of first_pass second_pass image_by options group user connection class profile
no-such-group = refl

-- A profile of GLOBAL that has the name of no class: the image of a new database but for that class's last count, and
-- the profile.
unknown-class : first_fault (take 312 whole ++ 1 ∷ 0 ∷ 4 ∷ codes "NONEIBMUSER " ++ 1 ∷ zeros 38 ++ codes "        " ++ zeros 6 ++ idle (codes "CDT     ")) ≡ Some 315
unfolding spelled_at rows_of first_pass second_pass image_by options group user connection class profile pattern_in is_pattern_at
unknown-class = refl

-- ---- an image from before class CDT, which is read with it, and whose end is its own
abbrev old : List ℕ
old = with_user (first_user (codes "SYS1    ") 7 0) ++ classes_of 14

old-read : rows_of old ≡ Ok new_database
unfolding spelled_at rows_of first_pass second_pass image_by options group user connection class profile
old-read = refl

byte-behind-old : first_fault (old ++ 0 ∷ []) ≡ Some 313
unfolding spelled_at rows_of first_pass second_pass image_by options group user connection class profile
byte-behind-old = refl

-- ---- a class that was defined, whose names have at most so many bytes
abbrev defined : (longest : ℕ) → List ℕ
defined longest = codes "CDT     " ++ zeros 5 ++ 1 ∷ 0 ∷ 5 ∷ codes "DEPT$IBMUSER " ++ 1 ∷ zeros 38 ++ codes "        " ++ zeros 5 ++ 1 ∷ 4 ∷ 0 ∷ longest ∷ []

abbrev with_classes : List ℕ → List ℕ
with_classes classes = with_user (first_user (codes "SYS1    ") 7 0) ++ classes

dynamic-class : first_fault (with_classes (classes_of 16 ++ defined 246 ++ idle (codes "DEPT$   "))) ≡ None
unfolding spelled_at rows_of first_pass second_pass image_by options group user connection class profile member pattern_in is_pattern_at
dynamic-class = refl

too-long : first_fault (with_classes (classes_of 16 ++ defined 247 ++ idle (codes "DEPT$   "))) ≡ Some 397
unfolding spelled_at rows_of first_pass second_pass image_by options group user connection class profile member pattern_in is_pattern_at
too-long = refl

not-defined : first_fault (with_classes (classes_of 16 ++ idle (codes "CDT     ") ++ idle (codes "DEPT$   "))) ≡ Some 327
unfolding spelled_at rows_of first_pass second_pass image_by options group user connection class profile member pattern_in is_pattern_at
not-defined = refl

no-class : first_fault (with_classes (classes_of 15 ++ defined 246)) ≡ Some 329
unfolding spelled_at rows_of first_pass second_pass image_by options group user connection class profile member pattern_in is_pattern_at
no-class = refl

-- Labels and what bars a user, computed by the definitions.
use Rattle.std.proofs.Common.{◌≡◌, ℕ, true, false, Some, None, refl}
use Rattle.access_levels.specs.declared.levels.Level.TheVariants.{Read, Update, Alter}
use Rattle.access_levels.specs.Category.{including, first_missing}
use Rattle.seclabels.specs.declared.labels.Label.{Label}
use Rattle.seclabels.specs.declared.labels.Clearance.{Clearance}
use Rattle.seclabels.specs.declared.classified.Classified.TheVariants.{LevelTooLow, CategoryMissing, LabelNotDominant, WriteDown}
use Rattle.seclabels.specs.declared.classified.Checks.{Checks}
use Rattle.seclabels.specs.Labels.{dominates, system_high, system_low, barred}

-- The categories of the rows: red is 0, blue is 7, green is 200.
abbrev none : ℕ
none = 0

abbrev red : ℕ
red = including none 0

abbrev blue : ℕ
blue = including none 7

abbrev label : ℕ → ℕ → Label
label level categories = record { level = level; categories = categories }

abbrev unlabelled : ℕ → ℕ → Clearance
unlabelled level categories = record { level = level; categories = categories; label = None }

-- What has a label, and the level 0 and no categories of its own.
abbrev labelled : Label → Clearance
labelled l = record { level = 0; categories = none; label = Some l }

abbrev levels_checked : Checks
levels_checked = record { labels = false; levels = true; mls = false }

abbrev labels_checked : Checks
labels_checked = record { labels = true; levels = true; mls = false }

abbrev under_mls : Checks
under_mls = record { labels = true; levels = true; mls = true }

-- ---- dominance
higher-alone : dominates (label 150 none) (label 100 red) ≡ false
unfolding first_missing
higher-alone = refl

categories-alone : dominates (label 50 (including blue 0)) (label 100 red) ≡ false
unfolding first_missing
categories-alone = refl

both : dominates (label 100 (including blue 0)) (label 100 red) ≡ true
unfolding first_missing
both = refl

-- Neither of these dominates the other.
not-red-over-blue : dominates (label 150 red) (label 100 blue) ≡ false
unfolding first_missing
not-red-over-blue = refl

not-blue-over-red : dominates (label 100 blue) (label 150 red) ≡ false
unfolding first_missing
not-blue-over-red = refl

high-over-low : dominates system_high system_low ≡ true
unfolding first_missing
high-over-low = refl

not-low-over-high : dominates system_low system_high ≡ false
unfolding first_missing
not-low-over-high = refl

-- ---- levels and categories
level-not-enough : barred (unlabelled 150 none) (unlabelled 100 blue) levels_checked Read ≡ Some (CategoryMissing 7)
unfolding first_missing
level-not-enough = refl

level-before-categories : barred (unlabelled 50 none) (unlabelled 100 blue) levels_checked Read ≡ Some LevelTooLow
unfolding first_missing
level-before-categories = refl

same-level : barred (unlabelled 100 blue) (unlabelled 100 blue) levels_checked Alter ≡ None
unfolding first_missing
same-level = refl

-- The least missing category, in whatever order the categories were added.
least-of-green-blue : barred (unlabelled 100 none) (unlabelled 100 (including (including none 200) 7)) levels_checked Read ≡ Some (CategoryMissing 7)
unfolding first_missing
least-of-green-blue = refl

least-of-blue-green : barred (unlabelled 100 none) (unlabelled 100 (including (including none 7) 200)) levels_checked Read ≡ Some (CategoryMissing 7)
unfolding first_missing
least-of-blue-green = refl

only-green-missing : barred (unlabelled 100 blue) (unlabelled 100 (including blue 200)) levels_checked Read ≡ Some (CategoryMissing 200)
unfolding first_missing
only-green-missing = refl

-- ---- labels
not-dominant : barred (labelled (label 100 red)) (labelled (label 100 blue)) labels_checked Read ≡ Some LabelNotDominant
unfolding first_missing
not-dominant = refl

-- Only under MLS is writing down forbidden, and only writing.
no-write-down : barred (labelled (label 150 red)) (labelled (label 100 red)) under_mls Update ≡ Some WriteDown
unfolding first_missing
no-write-down = refl

no-alter-down : barred (labelled (label 150 red)) (labelled (label 100 red)) under_mls Alter ≡ Some WriteDown
unfolding first_missing
no-alter-down = refl

read-down : barred (labelled (label 150 red)) (labelled (label 100 red)) under_mls Read ≡ None
unfolding first_missing
read-down = refl

write-down-without-mls : barred (labelled (label 150 red)) (labelled (label 100 red)) labels_checked Update ≡ None
unfolding first_missing
write-down-without-mls = refl

write-alike : barred (labelled (label 100 red)) (labelled (label 100 red)) under_mls Update ≡ None
unfolding first_missing
write-alike = refl

-- A label that isn't dominant is told before a write down.
dominance-first : barred (labelled (label 150 red)) (labelled (label 100 blue)) under_mls Update ≡ Some LabelNotDominant
unfolding first_missing
dominance-first = refl

-- A user without a label counts as SYSLOW, whatever his level and categories.
no-label : barred (unlabelled 150 red) (labelled (label 100 red)) labels_checked Read ≡ Some LabelNotDominant
unfolding first_missing
no-label = refl

no-label-for-low : barred (unlabelled 150 red) (labelled system_low) under_mls Update ≡ None
unfolding first_missing
no-label-for-low = refl

-- A resource without a label is open to each label, also to be written, whatever its level and categories.
no-label-there : barred (labelled (label 50 none)) (unlabelled 150 red) under_mls Update ≡ None
no-label-there = refl

-- ---- which checks are made
labels-for-levels : barred (labelled (label 100 red)) (record (labelled (label 100 red)) { level = 150; categories = blue }) labels_checked Read ≡ None
unfolding first_missing
labels-for-levels = refl

levels-for-labels : barred (unlabelled 100 none) (record (labelled system_high) { level = 100 }) levels_checked Read ≡ None
unfolding first_missing
levels-for-labels = refl

nothing-checked : barred (unlabelled 0 none) (record (labelled system_high) { level = 255; categories = blue }) (record { labels = false; levels = false; mls = true }) Alter ≡ None
nothing-checked = refl

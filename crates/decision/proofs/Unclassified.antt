-- What has no level, no category and no label bars nobody.
use Rattle.std.proofs.Common.{◌≡◌, ℕ, Bool, true, false, cond, Option, Some, None, is_none, refl, sym, ◌∙◌, ap, true≢false, arith, List}
use Rattle.std.specs.Prelude.{nat_lt, option_map}
use Rattle.std.proofs.lemmas.Bool.{ltb-true}
use Rattle.access_levels.specs.declared.levels.Level.{Level}
use Rattle.access_levels.specs.Category.{first_missing}
use Rattle.racf_profiles.specs.declared.profiles.Profile.{Profile}
use Rattle.racf_profiles.specs.State.{State}
use Rattle.acee.specs.declared.acee.Acee.{Acee}
use Rattle.seclabels.specs.declared.labels.Clearance.{Clearance}
use Rattle.seclabels.specs.declared.classified.Classified.TheVariants.{LevelTooLow, CategoryMissing}
use Rattle.seclabels.specs.declared.classified.Checks.{Checks}
use Rattle.seclabels.specs.Labels.{system_high, barred, barred_by_level}
use Rattle.seclabels.proofs.OrderLaws.{dominates_low}
use Rattle.decision.specs.Classification.{valued, user_clearance, checks, classified}

none_of : {X : Type 0} (o : Option X) → is_none o ≡ true → o ≡ None
none_of None h = refl
none_of (Some x) h = absurd (true≢false (sym h))

-- no category lacks of none
none_missing : (set : ℕ) → first_missing set 0 ≡ None
none_missing set = none_of (first_missing set 0) (dominates_low (record { level = 0; categories = set }))

-- no level is below 0
not_below : (level : ℕ) → nat_lt level 0 ≡ false
not_below level = by (nat_lt level 0) refl
  where
    by : (b : Bool) → nat_lt level 0 ≡ b → b ≡ false
    by true h = absurd (omega (arith, ltb-true level 0 h))
    by false h = refl

abbrev bare : Clearance
bare = record { level = 0; categories = 0; label = None }

level_passes : (user : Clearance) → barred_by_level user bare ≡ None
level_passes user =
    ap (λ b. cond b (Some LevelTooLow) (option_map CategoryMissing (first_missing user.categories 0))) (not_below user.level)
    ∙ ap (option_map CategoryMissing) (none_missing user.categories)

nothing_bars : (user : Clearance) (made : Checks) (asked : Level) → barred user bare made asked ≡ None
nothing_bars user made asked = by made.labels made.levels
  where
    by : (labels levels : Bool) → cond labels None (cond levels (barred_by_level user bare) None) ≡ None
    by true levels = refl
    by false true = level_passes user
    by false false = refl

pub unclassified_passes : (state : State) (acee : Acee) (p : Profile) (asked : Level) → p.level ≡ 0 → p.categories ≡ 0 → p.label ≡ None → classified state acee p asked ≡ None
unfolding classified
unclassified_passes state acee p asked level categories label =
    let user : Clearance = user_clearance state acee in
    let made : Checks = checks state.rows in
    ap (λ (l : ℕ). barred user (record { level = l; categories = p.categories; label = option_map (valued state system_high) p.label }) made asked) level
    ∙ ap (λ (c : ℕ). barred user (record { level = 0; categories = c; label = option_map (valued state system_high) p.label }) made asked) categories
    ∙ ap (λ (l : Option (List ℕ)). barred user (record { level = 0; categories = 0; label = option_map (valued state system_high) l }) made asked) label
    ∙ nothing_bars user made asked

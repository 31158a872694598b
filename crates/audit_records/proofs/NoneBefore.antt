-- The last cases, where none of those before them fits.
use Rattle.std.proofs.Common.{◌≡◌, Bool, true, false, ◌||◌, refl, true≢false}
use Rattle.std.specs.Prelude.{ℕ, if◌then◌else◌}
use Rattle.racf_profiles.specs.declared.class_rows.LogOption.{LogOption}
use Rattle.racf_profiles.specs.declared.class_rows.LogOption.TheVariants as log
use Rattle.decision.specs.declared.outcome.Rule.{Rule}
use Rattle.decision.specs.declared.outcome.Rule.TheVariants as rule
use Rattle.decision.specs.Table.{is_warning}
use Rattle.audit_records.specs.Logged.{is_global, is_always, is_never}

pub not_warning : (r : Rule) → (r ≡ rule.Warning → ⊥) → is_warning r ≡ false
not_warning rule.Warning h = absurd (h refl)
not_warning _ h = refl

pub not_global : (r : Rule) → ((place : ℕ) → r ≡ rule.Global place → ⊥) → is_global r ≡ false
not_global (rule.Global place) h = absurd (h place refl)
not_global _ h = refl

pub not_always : (option : LogOption) → (option ≡ log.Always → ⊥) → is_always option ≡ false
not_always log.Always h = absurd (h refl)
not_always _ h = refl

pub not_never : (option : LogOption) → (option ≡ log.Never → ⊥) → is_never option ≡ false
not_never log.Never h = absurd (h refl)
not_never _ h = refl

-- the last four cases, each of which says yes
one_of_four : (p o s f : Bool) → (p || o || s || f) ≡ (if p then true else if o then true else if s then true else if f then true else false)
one_of_four true o s f = refl
one_of_four false true s f = refl
one_of_four false false true f = refl
one_of_four false false false true = refl
one_of_four false false false false = refl

-- the seven before them, none of which fits
pub none_before : (fast warning global always never undecided uaudit : Bool) (p o s f : Bool) → fast ≡ false → warning ≡ false → global ≡ false → always ≡ false → never ≡ false → undecided ≡ false → uaudit ≡ false
    → (p || o || s || f)
    ≡ (if fast then false else if warning then true else if global then false else if always then true else if never then false else if undecided then false else if uaudit then true else if p then true else if o then true else if s then true else if f then true else false)
none_before false false false false false false false p o s f h1 h2 h3 h4 h5 h6 h7 = one_of_four p o s f
none_before true warning global always never undecided uaudit p o s f h1 h2 h3 h4 h5 h6 h7 = absurd (true≢false h1)
none_before false true global always never undecided uaudit p o s f h1 h2 h3 h4 h5 h6 h7 = absurd (true≢false h2)
none_before false false true always never undecided uaudit p o s f h1 h2 h3 h4 h5 h6 h7 = absurd (true≢false h3)
none_before false false false true never undecided uaudit p o s f h1 h2 h3 h4 h5 h6 h7 = absurd (true≢false h4)
none_before false false false false true undecided uaudit p o s f h1 h2 h3 h4 h5 h6 h7 = absurd (true≢false h5)
none_before false false false false false true uaudit p o s f h1 h2 h3 h4 h5 h6 h7 = absurd (true≢false h6)
none_before false false false false false false true p o s f h1 h2 h3 h4 h5 h6 h7 = absurd (true≢false h7)

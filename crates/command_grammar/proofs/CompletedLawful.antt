-- The slots of a text that was read to its end: GENERIC leaves nothing behind, and PERMIT has its defaults.
use Rattle.std.proofs.Common.{◌≡◌, inl, inr, ℕ, zero, suc, List, [], ◌∷◌, length, Bool, true, false, cond, not, ◌&&◌, Option, None, Some, refl, sym, ap, subst, ◌∙◌, arith}
use Rattle.std.specs.Prelude.{slice_set, codes}
use Rattle.std.proofs.lemmas.Bool.{and_parts}
use Rattle.access_levels.specs.declared.levels.Level.TheVariants.{Read}
use Rattle.command_values.specs.declared.operand_words.Word.TheVariants as words
use Rattle.command_grammar.specs.declared.table.Verb.{Verb}
use Rattle.command_grammar.specs.declared.table.Verb.TheVariants as verbs
use Rattle.command_values.specs.declared.value_kinds.ValueKind.{ValueKind}
use Rattle.command_grammar.specs.declared.table.Operand.{Operand}
use Rattle.command_values.specs.declared.values.Content.{Content}
use Rattle.command_values.specs.declared.values.Content.TheVariants as contents
use Rattle.command_values.specs.declared.values.Known.{Known}
use Rattle.command_grammar.specs.Table.{operands_of}
use Rattle.command_grammar.specs.Reading.{Slots, row_at, is_generic_kind, permits, generic_place, cleared, with_class, means_read, with_access, completed, lacking}
use Rattle.command_grammar.specs.Lawful.{FitsAll, SuitsAll, first_known}
use Rattle.command_values.proofs.ValueLawful.{FitsHere}
use Rattle.command_grammar.proofs.OperandsLawful.{Holds, HoldsAll, HoldsAll-tail}

-- GENERIC leaves nothing behind
abbrev none_generic : List Operand → Bool
none_generic [] = true
none_generic (o ∷ os) = not (is_generic_kind o.kind) && none_generic os

abbrev only_generic : List Operand → ℕ → Bool
only_generic [] k = true
only_generic (o ∷ os) zero = none_generic os
only_generic (o ∷ os) (suc k) = not (is_generic_kind o.kind) && only_generic os k

-- each value fits, and suits what stands in front
abbrev pub BothAll : Known → List Operand → Slots → Type 0
BothAll known os ss = FitsAll os ss × SuitsAll known os ss

holds-fits : (known : Known) (k : ValueKind) (v : Content) → not (is_generic_kind k) ≡ true → Holds known k v → FitsHere known k v
holds-fits known k v h (inl g) = let no : not true ≡ true = ap not (sym g) ∙ h in cc
holds-fits known k v h (inr fits) = fits

none-fits : (known : Known) (os : List Operand) (ss : Slots) → HoldsAll known os ss → none_generic os ≡ true → BothAll known os ss
none-fits known [] [] h none = (tt, tt)
none-fits known [] (s ∷ ss) h none = absurd h
none-fits known (o ∷ os) [] h none = absurd h
none-fits known (o ∷ os) (None ∷ ss) h none = none-fits known os ss h (and_parts (not (is_generic_kind o.kind)) (none_generic os) none).1
none-fits known (o ∷ os) (Some v ∷ ss) h none =
    let here = holds-fits known o.kind v (and_parts (not (is_generic_kind o.kind)) (none_generic os) none).0 h.0 in
    let more = none-fits known os ss h.1 (and_parts (not (is_generic_kind o.kind)) (none_generic os) none).1 in
    ((here.0, more.0), (here.1, more.1))

cleared-fits : (known : Known) (os : List Operand) (ss : Slots) (k : ℕ) → HoldsAll known os ss → only_generic os k ≡ true → BothAll known os (slice_set ss k None)
cleared-fits known [] [] k h only = (tt, tt)
cleared-fits known [] (s ∷ ss) k h only = absurd h
cleared-fits known (o ∷ os) [] k h only = absurd h
cleared-fits known (o ∷ os) (s ∷ ss) zero h only = none-fits known os ss (HoldsAll-tail known o os s ss h) only
cleared-fits known (o ∷ os) (None ∷ ss) (suc k) h only = cleared-fits known os ss k h (and_parts (not (is_generic_kind o.kind)) (only_generic os k) only).1
cleared-fits known (o ∷ os) (Some v ∷ ss) (suc k) h only =
    let here = holds-fits known o.kind v (and_parts (not (is_generic_kind o.kind)) (only_generic os k) only).0 h.0 in
    let more = cleared-fits known os ss k h.1 (and_parts (not (is_generic_kind o.kind)) (only_generic os k) only).1 in
    ((here.0, more.0), (here.1, more.1))

BothAll-tail : (known : Known) (o : Operand) (os : List Operand) (s : Option Content) (ss : Slots) → BothAll known (o ∷ os) (s ∷ ss) → BothAll known os ss
BothAll-tail known o os None ss h = h
BothAll-tail known o os (Some v) ss h = (h.0.1, h.1.1)

BothAll-set : (known : Known) (os : List Operand) (ss : Slots) (k : ℕ) (v : Content) → BothAll known os ss → FitsHere known (row_at os k).kind v → BothAll known os (slice_set ss k (Some v))
BothAll-set known [] [] k v h fits = (tt, tt)
BothAll-set known [] (s ∷ ss) k v h fits = absurd h.0
BothAll-set known (o ∷ os) [] k v h fits = absurd h.0
BothAll-set known (o ∷ os) (s ∷ ss) zero v h fits = let tail = BothAll-tail known o os s ss h in ((fits.0, tail.0), (fits.1, tail.1))
BothAll-set known (o ∷ os) (None ∷ ss) (suc k) v h fits = BothAll-set known os ss k v h fits
BothAll-set known (o ∷ os) (Some u ∷ ss) (suc k) v h fits = let more = BothAll-set known os ss k v (h.0.1, h.1.1) fits in ((h.0.0, more.0), (h.1.0, more.1))

either-fits : (known : Known) (os : List Operand) (c : Bool) (x y : Slots) → BothAll known os x → BothAll known os y → BothAll known os (cond c x y)
either-fits known os true x y h k = h
either-fits known os false x y h k = k

-- PERMIT's defaults
class-fits : (known : Known) (ss : Slots) → BothAll known (operands_of verbs.Permit) ss → BothAll known (operands_of verbs.Permit) (with_class ss)
class-fits known ss h = either-fits known (operands_of verbs.Permit) (permits words.Class ss) ss (slice_set ss 0 (Some (contents.Id (codes "DATASET")))) h (BothAll-set known (operands_of verbs.Permit) ss 0 (contents.Id (codes "DATASET")) h (refl, tt))

access-default-fits : (known : Known) (ss : Slots) → BothAll known (operands_of verbs.Permit) ss → BothAll known (operands_of verbs.Permit) (with_access ss)
access-default-fits known ss h = either-fits known (operands_of verbs.Permit) (means_read ss) (slice_set ss 3 (Some (contents.Level Read))) ss (BothAll-set known (operands_of verbs.Permit) ss 3 (contents.Level Read) h (tt, tt)) h

pub completed-fits : (known : Known) (v : Verb) (ss : Slots) → HoldsAll known (operands_of v) ss → BothAll known (operands_of v) (completed v ss)
completed-fits known verbs.AddUser ss h = none-fits known (operands_of verbs.AddUser) ss h refl
completed-fits known verbs.AltUser ss h = none-fits known (operands_of verbs.AltUser) ss h refl
completed-fits known verbs.DelUser ss h = none-fits known (operands_of verbs.DelUser) ss h refl
completed-fits known verbs.AddGroup ss h = none-fits known (operands_of verbs.AddGroup) ss h refl
completed-fits known verbs.AltGroup ss h = none-fits known (operands_of verbs.AltGroup) ss h refl
completed-fits known verbs.DelGroup ss h = none-fits known (operands_of verbs.DelGroup) ss h refl
completed-fits known verbs.Connect ss h = none-fits known (operands_of verbs.Connect) ss h refl
completed-fits known verbs.Remove ss h = none-fits known (operands_of verbs.Remove) ss h refl
completed-fits known verbs.RDefine ss h = none-fits known (operands_of verbs.RDefine) ss h refl
completed-fits known verbs.RAlter ss h = none-fits known (operands_of verbs.RAlter) ss h refl
completed-fits known verbs.DefineClass ss h = none-fits known (operands_of verbs.DefineClass) ss h refl
completed-fits known verbs.AlterClass ss h = none-fits known (operands_of verbs.AlterClass) ss h refl
completed-fits known verbs.RDelete ss h = none-fits known (operands_of verbs.RDelete) ss h refl
completed-fits known verbs.SetRopts ss h = none-fits known (operands_of verbs.SetRopts) ss h refl
completed-fits known verbs.AddSd ss h = cleared-fits known (operands_of verbs.AddSd) ss 8 h refl
completed-fits known verbs.AltSd ss h = cleared-fits known (operands_of verbs.AltSd) ss 12 h refl
completed-fits known verbs.DelSd ss h = cleared-fits known (operands_of verbs.DelSd) ss 0 h refl
completed-fits known verbs.Permit ss h = access-default-fits known (with_class (slice_set ss 6 None)) (class-fits known (slice_set ss 6 None) (cleared-fits known (operands_of verbs.Permit) ss 6 h refl))

set-twice : (ss : Slots) (k : ℕ) → slice_set (slice_set ss k None) k None ≡ slice_set ss k None
set-twice [] k = refl
set-twice (s ∷ ss) zero = refl
set-twice (s ∷ ss) (suc k) = ap (λ rest. s ∷ rest) (set-twice ss k)

cleared-again : (o : Option ℕ) (ss : Slots) → cleared o (cleared o ss) ≡ cleared o ss
cleared-again None ss = refl
cleared-again (Some k) ss = set-twice ss k

-- what completing changes nothing of
pub record IsSettled (v : Verb) (ss : Slots) : Type 0 where
  pub again : completed v (completed v ss) ≡ completed v ss
  pub lacks : lacking v (completed v ss) ≡ lacking v ss
  pub class : first_known v (completed v ss) ≡ first_known v ss

-- PERMIT has seven slots
record AreSeven (ss : Slots) : Type 0 where
  s0 : Option Content
  s1 : Option Content
  s2 : Option Content
  s3 : Option Content
  s4 : Option Content
  s5 : Option Content
  s6 : Option Content
  are : ss ≡ s0 ∷ (s1 ∷ (s2 ∷ (s3 ∷ (s4 ∷ (s5 ∷ (s6 ∷ []))))))

seven-slots : (known : Known) (ss : Slots) → HoldsAll known (operands_of verbs.Permit) ss → AreSeven ss
seven-slots known ss h = seven-of ss (holds-length (operands_of verbs.Permit) ss h)
  where
    holds-length : (os : List Operand) (ss : Slots) → HoldsAll known os ss → length ss ≡ length os
    holds-length [] [] h = refl
    holds-length [] (s ∷ ss) h = absurd h
    holds-length (o ∷ os) [] h = absurd h
    holds-length (o ∷ os) (None ∷ ss) h = ap suc (holds-length os ss h)
    holds-length (o ∷ os) (Some v ∷ ss) h = ap suc (holds-length os ss h.1)

    seven-of : (ss : Slots) → length ss ≡ 7 → AreSeven ss
    seven-of [] h = cc
    seven-of (a ∷ []) h = cc
    seven-of (a ∷ (b ∷ [])) h = cc
    seven-of (a ∷ (b ∷ (c ∷ []))) h = cc
    seven-of (a ∷ (b ∷ (c ∷ (d ∷ [])))) h = cc
    seven-of (a ∷ (b ∷ (c ∷ (d ∷ (e ∷ []))))) h = cc
    seven-of (a ∷ (b ∷ (c ∷ (d ∷ (e ∷ (f ∷ [])))))) h = cc
    seven-of (a ∷ (b ∷ (c ∷ (d ∷ (e ∷ (f ∷ (g ∷ []))))))) h = record { s0 = a; s1 = b; s2 = c; s3 = d; s4 = e; s5 = f; s6 = g; are = refl }
    seven-of (a ∷ (b ∷ (c ∷ (d ∷ (e ∷ (f ∷ (g ∷ (i ∷ ss)))))))) h = let more : suc (suc (suc (suc (suc (suc (suc (suc (length ss)))))))) ≡ 7 = h in absurd (omega arith)

settled-permit : (c r i a d w g : Option Content) → IsSettled verbs.Permit (c ∷ (r ∷ (i ∷ (a ∷ (d ∷ (w ∷ (g ∷ [])))))))
settled-permit None r None a d w g = record { again = refl; lacks = refl; class = refl }
settled-permit None r (Some i) None None None g = record { again = refl; lacks = refl; class = refl }
settled-permit None r (Some i) None None (Some w) g = record { again = refl; lacks = refl; class = refl }
settled-permit None r (Some i) None (Some d) w g = record { again = refl; lacks = refl; class = refl }
settled-permit None r (Some i) (Some a) d w g = record { again = refl; lacks = refl; class = refl }
settled-permit (Some c) r None a d w g = record { again = refl; lacks = refl; class = refl }
settled-permit (Some c) r (Some i) None None None g = record { again = refl; lacks = refl; class = refl }
settled-permit (Some c) r (Some i) None None (Some w) g = record { again = refl; lacks = refl; class = refl }
settled-permit (Some c) r (Some i) None (Some d) w g = record { again = refl; lacks = refl; class = refl }
settled-permit (Some c) r (Some i) (Some a) d w g = record { again = refl; lacks = refl; class = refl }

pub settled-slots : (known : Known) (v : Verb) (ss : Slots) → HoldsAll known (operands_of v) ss → IsSettled v ss
settled-slots known verbs.AddUser ss h = record { again = cleared-again (generic_place (operands_of verbs.AddUser)) ss; lacks = refl; class = refl }
settled-slots known verbs.AltUser ss h = record { again = cleared-again (generic_place (operands_of verbs.AltUser)) ss; lacks = refl; class = refl }
settled-slots known verbs.DelUser ss h = record { again = cleared-again (generic_place (operands_of verbs.DelUser)) ss; lacks = refl; class = refl }
settled-slots known verbs.AddGroup ss h = record { again = cleared-again (generic_place (operands_of verbs.AddGroup)) ss; lacks = refl; class = refl }
settled-slots known verbs.AltGroup ss h = record { again = cleared-again (generic_place (operands_of verbs.AltGroup)) ss; lacks = refl; class = refl }
settled-slots known verbs.DelGroup ss h = record { again = cleared-again (generic_place (operands_of verbs.DelGroup)) ss; lacks = refl; class = refl }
settled-slots known verbs.Connect ss h = record { again = cleared-again (generic_place (operands_of verbs.Connect)) ss; lacks = refl; class = refl }
settled-slots known verbs.Remove ss h = record { again = cleared-again (generic_place (operands_of verbs.Remove)) ss; lacks = refl; class = refl }
settled-slots known verbs.AddSd ss h = record { again = cleared-again (generic_place (operands_of verbs.AddSd)) ss; lacks = refl; class = refl }
settled-slots known verbs.AltSd ss h = record { again = cleared-again (generic_place (operands_of verbs.AltSd)) ss; lacks = refl; class = refl }
settled-slots known verbs.DelSd ss h = record { again = cleared-again (generic_place (operands_of verbs.DelSd)) ss; lacks = refl; class = refl }
settled-slots known verbs.RDefine ss h = record { again = cleared-again (generic_place (operands_of verbs.RDefine)) ss; lacks = refl; class = refl }
settled-slots known verbs.RAlter ss h = record { again = cleared-again (generic_place (operands_of verbs.RAlter)) ss; lacks = refl; class = refl }
settled-slots known verbs.DefineClass ss h = record { again = cleared-again (generic_place (operands_of verbs.DefineClass)) ss; lacks = refl; class = refl }
settled-slots known verbs.AlterClass ss h = record { again = cleared-again (generic_place (operands_of verbs.AlterClass)) ss; lacks = refl; class = refl }
settled-slots known verbs.RDelete ss h = record { again = cleared-again (generic_place (operands_of verbs.RDelete)) ss; lacks = refl; class = refl }
settled-slots known verbs.SetRopts ss h = record { again = cleared-again (generic_place (operands_of verbs.SetRopts)) ss; lacks = refl; class = refl }
settled-slots known verbs.Permit ss h =
    let seven = seven-slots known ss h in
    subst (λ (xs : Slots). IsSettled verbs.Permit xs) (sym seven.are) (settled-permit seven.s0 seven.s1 seven.s2 seven.s3 seven.s4 seven.s5 seven.s6)

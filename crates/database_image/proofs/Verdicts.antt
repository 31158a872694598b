-- What is read of the bytes of rows, up to the first field that misleads, is told of the rows.
use Rattle.std.proofs.Common.{◌≡◌, ℕ, ◌+◌, ◌-◌, List, [], ◌++◌, length, take, Option, Some, None, Result, Ok, Err, refl, sym, ap, subst, ◌∙◌, arith, inl, inr, zero-add}
use Rattle.std.specs.Prelude.{IfOk, IfErr}
use Rattle.std.specs.Option.{unwrap_or}
use Rattle.std.specs.List.{sum_by}
use Rattle.std.proofs.lemmas.List.{append-nil}
use Rattle.std.proofs.Math.Seq.{take-length}
use Rattle.racf_profiles.specs.declared.rows.Rows.{Rows}
use Rattle.database_image.specs.declared.faults.ImageFault.{ImageFault}
use Rattle.database_image.specs.declared.faults.ImageFault.TheVariants as faults
use Rattle.database_image.specs.Reading.{◌>>=◌}
use Rattle.database_image.specs.Description.{image, read_image}
use Rattle.database_image.specs.Facts.{facts, first_broken, classes_place, class_width}
use Rattle.database_image.specs.Image.{image_of, completed, unless_more, from_beginning, first_pass, unless_broken, second_pass, rows_of, IsStored, FirstUnlawful, IsFirst, Judges, Reads}
use Rattle.database_image.specs.Misleading.{marks}
use Rattle.database_image.specs.Spelled.{AreSpelled}
use Rattle.database_image.proofs.Images.{fields_only, behind-first}
use Rattle.database_image.proofs.Judged.{FindsIn, IsWhole, Judgement}
use Rattle.database_image.proofs.JudgedRows.{judged-rows, wide-rows, decided-image}

-- ---- a fault that the first pass finds
from-place : (place left size : ℕ) → place + left ≡ size → size - left ≡ place
from-place place left size h = omega (arith, h)

found-first : (rows : Rows) (bytes : List ℕ) → FindsIn (image.FaultAt rows) bytes (read_image.reading bytes) → Judges rows (rows_of bytes)
unfolding rows_of first_pass
found-first rows bytes f =
    let read : rows_of bytes ≡ Err f.place = ap (λ r. from_beginning bytes (r >>= λ x. unless_more (completed x.0) x.1) >>= second_pass) f.reads ∙ ap (λ n. Err n) (from-place f.place f.left (length bytes) f.whole) in
    subst (Judges rows) (sym read) (inl f.is)

-- ---- rows each field of which is lawful
fitting : (rows : Rows) → image.Fits rows → (o : Option ℕ) → first_broken (facts rows) ≡ o → Judges rows (unless_broken rows o)
fitting rows fits None e = (refl, record { fields = fits; between = e })
fitting rows fits (Some place) e = inr (fits, e)

fitting-second : (rows : Rows) → image.Fits rows → Judges rows (second_pass rows)
unfolding second_pass
fitting-second rows fits = fitting rows fits (first_broken (facts rows)) refl

whole-judged : (rows : Rows) → IsWhole (image.Fits rows) (image.FaultAt rows) (image.bytes rows) read_image.reading → Judges rows (rows_of (image.bytes rows))
unfolding image_of
whole-judged rows (inl fits) = subst (Judges rows) (sym (behind-first (image_of rows) rows (fields_only rows fits))) (fitting-second rows fits)
whole-judged rows (inr found) = subst (λ (t : List ℕ). Judges rows (rows_of t)) (append-nil (image.bytes rows)) (found-first rows (image.bytes rows ++ []) (found []))

-- The bytes that are to be read: those before the field that misleads.
abbrev pub until : Option ℕ → List ℕ → List ℕ
until o bytes = take (unwrap_or o (length bytes)) bytes

judged-until : (rows : Rows) (o : Option ℕ) → Judgement (image.Fits rows) (image.FaultAt rows) (image.bytes rows) read_image.reading 0 o → Judges rows (rows_of (until o (image.bytes rows)))
judged-until rows None h = subst (λ (t : List ℕ). Judges rows (rows_of t)) (sym (take-length (image.bytes rows))) (whole-judged rows h)
judged-until rows (Some place) c =
    let at : c.count ≡ place = sym (c.at ∙ zero-add c.count) in
    subst (λ (n : ℕ). Judges rows (rows_of (take n (image.bytes rows)))) at (found-first rows (take c.count (image.bytes rows)) c.found)

pub judged : (rows : Rows) → AreSpelled rows → Judges rows (rows_of (until (first_broken (marks rows)) (image_of rows)))
unfolding image_of
judged rows spelled = judged-until rows (first_broken (marks rows)) (judged-rows rows spelled)

pub wide : (rows : Rows) → AreSpelled rows → classes_place rows + sum_by class_width rows.classes ≡ length (image_of rows)
unfolding image_of
wide rows spelled = wide-rows rows spelled

-- ---- what was answered
pub copied : (rows : Rows) (read : Result Rows ℕ) (result : Result Rows ImageFault) → Judges rows read → Reads result read → IfOk result (λ copy. (copy ≡ rows) × IsStored rows)
copied rows (Ok copy) (Ok other) j r = (let e : copy ≡ other = cc in sym e ∙ j.0, j.1)
copied rows (Err place) (Ok other) j r = absurd cc
copied rows read (Err fault) j r = tt

pub first : (rows : Rows) (read : Result Rows ℕ) (result : Result Rows ImageFault) → Judges rows read → Reads result read → IfErr result (IsFirst rows)
first rows read (Ok other) j r = tt
first rows read (Err faults.NoMemory) j r = tt
first rows (Ok copy) (Err (faults.BadField place)) j r = absurd cc
first rows (Err at) (Err (faults.BadField place)) j r = let e : at ≡ place = cc in subst (FirstUnlawful rows) e j

-- ---- a first unlawful field is one, and no stored rows have one
pub apart : (rows : Rows) (place : ℕ) → IsStored rows → FirstUnlawful rows place → ⊥
apart rows place stored (inl fault) = decided-image.apart rows stored.fields place fault
apart rows place stored (inr broken) = let e : None ≡ Some place = sym stored.between ∙ broken.1 in cc

the-place : (m n : ℕ) → (let o : Option ℕ = Some m in o ≡ Some n) → m ≡ n
the-place m n h = cc

pub one : (rows : Rows) (place other : ℕ) → FirstUnlawful rows place → FirstUnlawful rows other → place ≡ other
one rows place other (inl a) (inl b) = decided-image.one rows place other a b
one rows place other (inl a) (inr b) = absurd (decided-image.apart rows b.0 place a)
one rows place other (inr a) (inl b) = absurd (decided-image.apart rows a.0 other b)
one rows place other (inr a) (inr b) = the-place place other (sym a.1 ∙ b.1)

-- so nothing but want of memory is told of rows that an image may hold, as of lawful ones
pub no-memory : (rows : Rows) (result : Result Rows ImageFault) → IsStored rows → IfErr result (IsFirst rows) → IfErr result (λ fault. fault ≡ faults.NoMemory)
no-memory rows (Ok copy) stored h = tt
no-memory rows (Err faults.NoMemory) stored h = refl
no-memory rows (Err (faults.BadField place)) stored h = absurd (apart rows place stored h)

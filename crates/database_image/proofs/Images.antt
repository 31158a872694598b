-- Images are read as the rows that they are written for.
use Rattle.std.proofs.Common.{◌≡◌, ℕ, ◌+◌, ◌≤◌, Bool, true, false, List, [], ◌∷◌, ◌++◌, length, arith, Option, Some, None, Result, Ok, Err, refl, sym, ap, subst, ◌∙◌}
use Rattle.std.specs.List.{sum_by}
use Rattle.std.proofs.lemmas.List.{append-nil}
use Rattle.std.proofs.lemmas.List.Sums.{sum_by-append}
use Rattle.racf_profiles.specs.declared.class_rows.ClassRow.{ClassRow}
use Rattle.racf_profiles.specs.declared.rows.Rows.{Rows}
use Rattle.racf_profiles.specs.DynamicClasses.{cdt}
use Rattle.racf_profiles.specs.Edits.{added_class}
use Rattle.database_image.specs.Reading.{AreBytes, Reading, ◌>>=◌}
use Rattle.database_image.specs.Description.{is_read_count, is_class_count, is_old_count, image_by, image, read_image}
use Rattle.database_image.specs.Facts.{facts, first_broken, classes_place, class_width}
use Rattle.database_image.specs.Image.{image_of, with_cdt, completed, AreImageOf, unless_more, from_beginning, first_pass, unless_broken, second_pass, rows_of, IsStored, Tells, Reads}
use Rattle.std.specs.Prelude.{IfOk, if◌then◌else◌}
use Rattle.database_image.specs.declared.faults.ImageFault.{ImageFault}
use Rattle.database_image.specs.declared.faults.ImageFault.TheVariants as faults
use Rattle.database_image.proofs.Exact.{Takes, bind_ok}
use Rattle.database_image.proofs.Described.{exact-image, wide-image}
use Rattle.database_image.proofs.Completed.{completed-fits, read-fits, completed-whole}

told_ok : (bytes : List ℕ) (r : Result Rows ℕ) (rows : Rows) → from_beginning bytes r ≡ Ok rows → r ≡ Ok rows
told_ok bytes (Ok x) rows e = e
told_ok bytes (Err left) rows e = absurd cc

nothing_more : (x rows : Rows) (behind : List ℕ) → unless_more x behind ≡ Ok rows → (x ≡ rows) × (behind ≡ [])
nothing_more x rows [] e = (cc, refl)
nothing_more x rows (byte ∷ behind) e = absurd cc

none_broken : (x rows : Rows) (broken : Option ℕ) → unless_broken x broken ≡ Ok rows → (x ≡ rows) × (broken ≡ None)
none_broken x rows None e = (cc, refl)
none_broken x rows (Some place) e = absurd cc

-- What the first pass reads is written in the bytes, but perhaps for the class CDT.
takes-of : (bytes : List ℕ) (rows : Rows) → AreBytes bytes → first_pass bytes ≡ Ok rows → (written : Rows) × (completed written ≡ rows) × Takes read_image bytes written []
unfolding first_pass image_by
takes-of bytes rows fits first =
    let rest : Rows × List ℕ → Result Rows ℕ = λ read. unless_more (completed read.0) read.1 in
    let read = bind_ok (read_image.reading bytes) rest rows (told_ok bytes (read_image.reading bytes >>= rest) rows first) in
    let m = nothing_more (completed read.0.0) rows read.0.1 read.2 in
    let takes : Takes read_image bytes read.0.0 read.0.1 = (exact-image is_read_count).takes bytes read.0.0 read.0.1 fits read.1 in
    (read.0.0, m.0, subst (λ (t : List ℕ). Takes read_image bytes read.0.0 t) m.1 takes)

-- It is lawful field by field, and the bytes are its image.
pub fields_found : (bytes : List ℕ) (rows : Rows) → AreBytes bytes → first_pass bytes ≡ Ok rows → image.Fits rows × AreImageOf bytes rows
unfolding image_of image_by
fields_found bytes rows fits first =
    let t = takes-of bytes rows fits first in
    (subst (λ (x : Rows). image.Fits x) t.1 (completed-fits t.0 t.2.fits), record { written = t.0; whole = t.1; is = t.2.parts ∙ append-nil (read_image.bytes t.0) })

pub fields_only : (rows : Rows) → image.Fits rows → first_pass (image_of rows) ≡ Ok rows
unfolding first_pass image_of image_by
fields_only rows h =
    let again : read_image.reading (read_image.bytes rows) ≡ Ok (rows, []) = ap read_image.reading (sym (append-nil (read_image.bytes rows))) ∙ (exact-image is_read_count).again rows [] (read-fits rows h) in
    ap (λ (r : Reading Rows). from_beginning (read_image.bytes rows) (r >>= λ read. unless_more (completed read.0) read.1)) again ∙ ap (λ (x : Rows). Ok x) (completed-whole rows h)

pub found : (bytes : List ℕ) (rows : Rows) → AreBytes bytes → rows_of bytes ≡ Ok rows → IsStored rows × AreImageOf bytes rows
unfolding rows_of second_pass
found bytes rows fits e =
    let b = bind_ok (first_pass bytes) second_pass rows e in
    let n = none_broken b.0 rows (first_broken (facts b.0)) b.2 in
    let f = fields_found bytes rows fits (b.1 ∙ ap (λ (x : Rows). Ok x) n.0) in
    (record { fields = f.0; between = subst (λ (x : Rows). first_broken (facts x) ≡ None) n.0 n.1 }, f.1)

pub only : (rows : Rows) → IsStored rows → rows_of (image_of rows) ≡ Ok rows
unfolding rows_of second_pass
only rows h = rw (fields_only rows h.fields, h.between) refl

pub own : (rows : Rows) → IsStored rows → AreImageOf (image_of rows) rows
own rows h = record { written = rows; whole = completed-whole rows h.fields; is = refl }

-- An image has as many bytes as the widths of its parts say.
pub image-width : (rows : Rows) → image.Fits rows → length (image_of rows) ≡ classes_place rows + sum_by class_width rows.classes
unfolding image_of
image-width rows h = wide-image is_class_count rows h

-- Rows that are read have at most an empty class more than the bytes say.
class-more : (classes : List ClassRow) → sum_by class_width (with_cdt classes) ≤ sum_by class_width classes + 14
class-more classes = by (is_old_count (length classes))
  where
    by : (b : Bool) → sum_by class_width (if b then classes ++ added_class cdt ∷ [] else classes) ≤ sum_by class_width classes + 14
    by true = let sum = sum_by-append class_width classes (added_class cdt ∷ []) in let one : sum_by class_width (added_class cdt ∷ []) ≡ 14 = refl in omega (arith, sum, one)
    by false = omega arith

pub read-width : (bytes : List ℕ) (rows : Rows) → AreBytes bytes → first_pass bytes ≡ Ok rows → length (image_of rows) ≤ length bytes + 14
read-width bytes rows fits first =
    let t = takes-of bytes rows fits first in
    let whole : length bytes ≡ length (read_image.bytes t.0) = ap length (t.2.parts ∙ append-nil (read_image.bytes t.0)) in
    let read : length (read_image.bytes t.0) ≡ classes_place t.0 + sum_by class_width t.0.classes = wide-image is_read_count t.0 t.2.fits in
    let more : sum_by class_width (with_cdt t.0.classes) ≤ sum_by class_width t.0.classes + 14 = class-more t.0.classes in
    let after : length (image_of (completed t.0)) ≡ classes_place t.0 + sum_by class_width (with_cdt t.0.classes) = image-width (completed t.0) (completed-fits t.0 t.2.fits) in
    subst (λ (x : Rows). length (image_of x) ≤ length bytes + 14) t.1 (omega (arith, whole, read, more, after))

-- ---- both passes, one behind the other
pub behind-first : (bytes : List ℕ) (rows : Rows) → first_pass bytes ≡ Ok rows → rows_of bytes ≡ second_pass rows
unfolding rows_of
behind-first bytes rows h = ap (λ r. r >>= second_pass) h

pub first-refused : (bytes : List ℕ) (fault : ImageFault) → Tells fault (first_pass bytes) → Tells fault (rows_of bytes)
unfolding rows_of
first-refused bytes faults.NoMemory h = tt
first-refused bytes (faults.BadField place) h = ap (λ r. r >>= second_pass) h

pub found_in : (result : Result Rows ImageFault) (bytes : List ℕ) → AreBytes bytes → Reads result (rows_of bytes) → IfOk result (λ rows. IsStored rows × AreImageOf bytes rows)
found_in (Ok rows) bytes fits h = found bytes rows fits h
found_in (Err fault) bytes fits h = tt

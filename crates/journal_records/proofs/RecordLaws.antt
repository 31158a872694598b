-- What is read is spelled so, and what is spelled so is read.
use Rattle.std.proofs.Common.{◌≡◌, ℕ, ◌+◌, ◌≤◌, Bool, true, false, cond, eqb, ltb, not, ◌||◌, List, ◌++◌, length, take, drop, Option, Some, None, Result, Ok, Err, is_ok, refl, sym, ap, subst, ◌∙◌, append_assoc, arith}
use Rattle.std.specs.Prelude.{◌↔◌}
use Rattle.std.proofs.Math.Bool.{Bool-set}
use Rattle.std.proofs.lemmas.Bool.{ltb-false, le-ltb, eqb-true, eq-eqb}
use Rattle.std.proofs.lemmas.List.{length-append, take_at, drop_at, take-append-drop}
use Rattle.byteorder.specs.Endian.{big_bytes, big_number}
use Rattle.byteorder.specs.Numbers.{length-bytes_high_first}
use Rattle.access_levels.specs.Spelling.{id_of, group_of}
use Rattle.command_fields.specs.declared.issuer.Issuer.{Issuer}
use Rattle.command_fields.specs.declared.fields.CommandFields.{CommandFields}
use Rattle.command_parser.specs.Canonical.{canonical, IsWritten}
use Rattle.journal_records.specs.declared.record.CommandRecord.{CommandRecord}
use Rattle.journal_records.specs.declared.record.RecordFault.{RecordFault}
use Rattle.journal_records.specs.declared.record.RecordFault.TheVariants as faults
use Rattle.journal_records.specs.Spelling.{filled, content, spelled, IsLawful, AreBytes}
use Rattle.journal_records.specs.Reading.{id_in, canonical_command, ◌>>=◌, or_fault, issuer_with, issuer_in, item_from, item_in, record_of}
use Rattle.journal_records.proofs.FieldLaws.{group-id, length-filled, filled-again, IsField, field-filled}
use Rattle.journal_records.proofs.NumberLaws.{length-back, length-again}

-- ---- steps that did not fail

step : {A B : Type 0} (r : Result A RecordFault) (f : A → Result B RecordFault) (y : B) → (r >>= f) ≡ Ok y → (x : A) × (r ≡ Ok x) × (f x ≡ Ok y)
step (Ok x) f y h = (x, refl, h)
step (Err fault) f y h = absurd cc

there : {A : Type 0} (o : Option A) (fault : RecordFault) (x : A) → or_fault o fault ≡ Ok x → o ≡ Some x
there (Some y) fault x h = cc
there None fault x h = absurd cc

-- ---- the issuer

-- The two fields are those of the issuer.
record AreFields (id group : List ℕ) (issuer : Issuer) : Type 0 where
  first : IsField id issuer.id
  second : IsField group issuer.group

with_parts : (id group : List ℕ) (b : Bool) (is : is_ok (group_of group) ≡ b) (issuer : Issuer) → issuer_with id group b is ≡ Ok issuer → (id ≡ issuer.id) × (group ≡ issuer.group)
with_parts id group true is issuer h = (cc, cc)
with_parts id group false is issuer h = absurd cc

issuer-fields : (id group : List ℕ) (issuer : Issuer) → issuer_in id group ≡ Ok issuer → AreFields id group issuer
issuer-fields id group issuer h =
    let a = step (or_fault (id_in id) faults.BadIssuer) (λ one. or_fault (id_in group) faults.BadGroup >>= λ two. issuer_with one two (is_ok (group_of two)) refl) issuer h in
    let b = step (or_fault (id_in group) faults.BadGroup) (λ two. issuer_with a.0 two (is_ok (group_of two)) refl) issuer a.2 in
    let parts = with_parts a.0 b.0 (is_ok (group_of b.0)) refl issuer b.2 in
    let first : IsField id a.0 = field-filled id a.0 (there (id_in id) faults.BadIssuer a.0 a.1) in
    let second : IsField group b.0 = field-filled group b.0 (there (id_in group) faults.BadGroup b.0 b.1) in
    record { first = subst (IsField id) parts.0 first; second = subst (IsField group) parts.1 second }

with_again : (issuer : Issuer) (b : Bool) (is : is_ok (group_of issuer.group) ≡ b) → issuer_with issuer.id issuer.group b is ≡ Ok issuer
with_again issuer true is = ap (λ (spelled : is_ok (group_of issuer.group) ≡ true). Ok (record { id = issuer.id; group = issuer.group; group_spelled = spelled })) (Bool-set (is_ok (group_of issuer.group)) true is issuer.group_spelled)
with_again issuer false is = let no : true ≡ false = sym issuer.group_spelled ∙ is in absurd cc

-- The issuer of that ID and group is the one that the definition makes.
pub issuer_with-is : (issuer : Issuer) (id group : List ℕ) → issuer.id ≡ id → issuer.group ≡ group → Ok issuer ≡ issuer_with id group (is_ok (group_of group)) refl
issuer_with-is issuer id group is_id is_group =
    subst (λ (i : List ℕ). Ok issuer ≡ issuer_with i group (is_ok (group_of group)) refl) is_id
    (subst (λ (g : List ℕ). Ok issuer ≡ issuer_with issuer.id g (is_ok (group_of g)) refl) is_group (sym (with_again issuer (is_ok (group_of issuer.group)) refl)))

issuer-again : (issuer : Issuer) → id_of issuer.id ≡ Ok issuer.id → issuer_in (filled issuer.id) (filled issuer.group) ≡ Ok issuer
issuer-again issuer h =
    let first = filled-again issuer.id h in
    let second = filled-again issuer.group (group-id issuer.group issuer.group_spelled) in
    rw (first, second) (with_again issuer (is_ok (group_of issuer.group)) refl)

pub both_fields : (id group : List ℕ) (issuer : Issuer) → ((issuer_in id group ≡ Ok issuer) ↔ ((id_of issuer.id ≡ Ok issuer.id) × (id ≡ filled issuer.id) × (group ≡ filled issuer.group)))
both_fields id group issuer = (
  (λ h. let are = issuer-fields id group issuer h in (are.first.spelled, are.first.whole, are.second.whole)),
  λ h. ap (λ (t : List ℕ). issuer_in t group) h.1 ∙ ap (issuer_in (filled issuer.id)) h.2 ∙ issuer-again issuer h.0,
)

-- ---- the record

passed : {A : Type 0} (short same little : Bool) (r : Result A RecordFault) (x : A) → cond short (Err faults.Short) (cond (not same || little) (Err faults.BadLength) r) ≡ Ok x → (short ≡ false) × (same ≡ true) × (r ≡ Ok x)
passed true same little r x h = absurd cc
passed false false little r x h = absurd cc
passed false true true r x h = absurd cc
passed false true false r x h = (refl, refl, h)

length-content : (item : CommandRecord) → IsLawful item → length (content item) ≡ 16 + length (canonical item.command)
length-content item lawful =
    let first = length-filled item.issuer.id lawful.issuer in
    let second = length-filled item.issuer.group (group-id item.issuer.group item.issuer.group_spelled) in
    omega (arith, first, second, length-append (filled item.issuer.id ++ filled item.issuer.group) (canonical item.command), length-append (filled item.issuer.id) (filled item.issuer.group))

pub length-spelled : (item : CommandRecord) → IsLawful item → length (spelled item) ≡ 20 + length (canonical item.command)
unfolding spelled
length-spelled item lawful =
    let size = length-content item lawful in
    let four = length-bytes_high_first 4 (length (content item)) in
    omega (arith, size, four, length-append (big_bytes 4 (length (content item))) (content item))

module _
    (one : (issuer text : List ℕ) (c : CommandFields) → ((canonical_command issuer text ≡ Some c) ↔ IsWritten c text))
    (least : (text : List ℕ) (c : CommandFields) → IsWritten c text → 1 ≤ length text)
    (most : (text : List ℕ) (c : CommandFields) → IsWritten c text → length text ≤ 30000)
  where
    -- What follows the length is the content of the item.
    item-content : (bytes : List ℕ) (item : CommandRecord) → item_in bytes ≡ Ok item → IsLawful item × (bytes ≡ content item)
    item-content bytes item h =
        let id = take 8 bytes in
        let group = take 8 (drop 8 bytes) in
        let text = drop 8 (drop 8 bytes) in
        let a = step (issuer_in id group) (λ issuer. or_fault (canonical_command issuer.id text) faults.BadText >>= λ command. Ok (record { issuer = issuer; command = command })) item h in
        let b = step (or_fault (canonical_command a.0.id text) faults.BadText) (λ command. Ok (record { issuer = a.0; command = command })) item a.2 in
        let fields = issuer-fields id group a.0 a.1 in
        let written : IsWritten b.0 text = (one a.0.id text b.0).0 (there (canonical_command a.0.id text) faults.BadText b.0 b.1) in
        let made : CommandRecord = record { issuer = a.0; command = b.0 } in
        let parts : bytes ≡ id ++ (group ++ text) = sym (ap (λ (rest : List ℕ). id ++ rest) (take-append-drop 8 (drop 8 bytes)) ∙ take-append-drop 8 bytes) in
        let whole : bytes ≡ content made = parts ∙ sym (append_assoc id group text) ∙ ap (λ (t : List ℕ). (t ++ group) ++ text) fields.first.whole ∙ ap (λ (t : List ℕ). (filled a.0.id ++ t) ++ text) fields.second.whole ∙ ap (λ (t : List ℕ). (filled a.0.id ++ filled a.0.group) ++ t) written.canonic in
        let lawful : IsLawful made = record { issuer = fields.first.spelled; command = subst (IsWritten b.0) written.canonic written } in
        let done : let r : Result CommandRecord RecordFault = Ok made in r ≡ Ok item = b.2 in
        let is : made ≡ item = cc in
        subst (λ (i : CommandRecord). IsLawful i × (bytes ≡ content i)) is (lawful, whole)

    content-again : (item : CommandRecord) → IsLawful item → item_in (content item) ≡ Ok item
    content-again item lawful =
        let id = filled item.issuer.id in
        let group = filled item.issuer.group in
        let text = canonical item.command in
        let first = length-filled item.issuer.id lawful.issuer in
        let second = length-filled item.issuer.group (group-id item.issuer.group item.issuer.group_spelled) in
        let parts : content item ≡ id ++ (group ++ text) = append_assoc id group text in
        let front : take 8 (content item) ≡ id = ap (take 8) parts ∙ take_at id (group ++ text) 8 first in
        let behind : drop 8 (content item) ≡ group ++ text = ap (drop 8) parts ∙ drop_at id (group ++ text) 8 first in
        let middle : take 8 (drop 8 (content item)) ≡ group = ap (take 8) behind ∙ take_at group text 8 second in
        let rest : drop 8 (drop 8 (content item)) ≡ text = ap (drop 8) behind ∙ drop_at group text 8 second in
        let issuer = issuer-again item.issuer lawful.issuer in
        let command : canonical_command item.issuer.id text ≡ Some item.command = (one item.issuer.id text item.command).1 lawful.command in
        ap (λ (t : List ℕ). item_from t (take 8 (drop 8 (content item))) (drop 8 (drop 8 (content item)))) front
        ∙ ap (λ (t : List ℕ). item_from id t (drop 8 (drop 8 (content item)))) middle
        ∙ ap (λ (t : List ℕ). item_from id group t) rest
        ∙ rw (issuer, command) refl

    first-of : (item : CommandRecord) → IsLawful item → big_number 4 (big_bytes 4 (length (content item)) ++ content item) ≡ length (content item)
    first-of item lawful =
        let size = length-content item lawful in
        let short = most (canonical item.command) item.command lawful.command in
        length-again (length (content item)) (content item) (omega (arith, size, short))

    behind-first : (item : CommandRecord) → drop 4 (big_bytes 4 (length (content item)) ++ content item) ≡ content item
    behind-first item = drop_at (big_bytes 4 (length (content item))) (content item) 4 (length-bytes_high_first 4 (length (content item)))

    pub first-spelled : (item : CommandRecord) → IsLawful item → big_number 4 (spelled item) ≡ length (drop 4 (spelled item))
    unfolding spelled
    first-spelled item lawful = first-of item lawful ∙ ap length (sym (behind-first item))

    pub read-spelled : (bytes : List ℕ) (item : CommandRecord) → AreBytes bytes → record_of bytes ≡ Ok item → IsLawful item × (bytes ≡ spelled item)
    unfolding record_of spelled
    read-spelled bytes item fits h =
        let tests = passed (ltb (length bytes) 4) (eqb (big_number 4 bytes) (length (drop 4 bytes))) (ltb (length (drop 4 bytes)) 17) (item_in (drop 4 bytes)) item h in
        let long : 4 ≤ length bytes = ltb-false _ _ tests.0 in
        let number : big_number 4 bytes ≡ length (drop 4 bytes) = eqb-true _ _ tests.1 in
        let found = item-content (drop 4 bytes) item tests.2 in
        let whole : bytes ≡ big_bytes 4 (length (drop 4 bytes)) ++ drop 4 bytes = length-back bytes (length (drop 4 bytes)) long fits number in
        (found.0, whole ∙ ap (λ (t : List ℕ). big_bytes 4 (length t) ++ t) found.1)

    pub spelled-again : (item : CommandRecord) → IsLawful item → record_of (spelled item) ≡ Ok item
    unfolding record_of spelled
    spelled-again item lawful =
        let size = length-content item lawful in
        let some = least (canonical item.command) item.command lawful.command in
        let number = big_bytes 4 (length (content item)) in
        let four : length number ≡ 4 = length-bytes_high_first 4 (length (content item)) in
        let a : ltb (length (number ++ content item)) 4 ≡ false = le-ltb _ _ (omega (arith, length-append number (content item), four)) in
        let e : ltb (length (content item)) 17 ≡ false = le-ltb _ _ (omega (arith, size, some)) in
        let same : eqb (length (content item)) (length (content item)) ≡ true = eq-eqb _ _ refl in
        rw (a, behind-first item, first-of item lawful, same, e) (content-again item lawful)

-- For the layers above: what crashes leave of a journal at rest, what an append and an opening say of the records that
-- a caller knows of, and the front of a journal that stands alone.
use Rattle.std.proofs.Common.{ℕ, ◌+◌, ◌≡◌, ◌∙◌, List, [], ◌∷◌, ◌++◌, Option, None, Some, Ok, length, take, refl, sym, ap, subst, arith, append_assoc, length-append, inl}
use Rattle.std.proofs.lemmas.Option.{none-some, same_Some}
use Rattle.std.proofs.lemmas.Slice.Eq.{bytes_eq-Decides}
use Rattle.racf_outside.specs.Crashes.{Leaves, StaysIn}
use Rattle.racf_outside.specs.Disk.{History, Now}
use Rattle.racf_outside.specs.Moments.{Moment, IsImage}
use Rattle.racf_outside.proofs.Images.{only, durable-leaves}
use Rattle.racf_outside.proofs.Runs.{StaysIn-weaker}
use Rattle.racf_journal.specs.Appending.{Acknowledges, LeavesEither}
use Rattle.racf_journal.specs.Kept.{IsAtRest, IsResting, Keeps, ReadsAs, IsAppended}
use Rattle.racf_journal.specs.Reading.{Reading, magic, is_formatted, reading, spelled}
use Rattle.racf_journal.proofs.Files.{ReadsAs-end}
use Rattle.racf_journal.proofs.Parts.{formatted}

-- a journal at rest leaves its records, whatever crashes
pub rest_leaves : (front : List ℕ) (start gate : ℕ) (records : List (List ℕ)) (m : Moment) → IsAtRest front start gate records m → Leaves (ReadsAs front records) m
rest_leaves front start gate records m rest =
    let bytes : List ℕ = front ++ spelled records ++ 0 ∷ [] in
    let whole : ReadsAs front records (front ++ (spelled records ++ 0 ∷ [])) = ReadsAs-end front records (0 ∷ []) (ap (λ s. is_formatted s front) rest.from ∙ rest.formatted) rest.lawful refl in
    subst (Leaves (ReadsAs front records)) (sym rest.is) (durable-leaves (ReadsAs front records) bytes (subst (ReadsAs front records) (sym (append_assoc front (spelled records) (0 ∷ []))) whole))

pub rest_leaves_either : (front : List ℕ) (start gate : ℕ) (records : List (List ℕ)) (next : List ℕ) (m : Moment) → IsAtRest front start gate records m → Leaves (IsAppended front records next gate) m
rest_leaves_either front start gate records next m rest = record {
  each = λ image i. (
    inl ((rest_leaves front start gate records m rest).each image i),
    let is : image ≡ front ++ spelled records ++ 0 ∷ [] = only (front ++ spelled records ++ 0 ∷ []) image (subst (λ n. IsImage n image) rest.is i) in
        omega (arith, ap length is, length-append (front ++ spelled records) (0 ∷ []), length-append front (spelled records), rest.from, rest.to),
  );
}

-- an append that was told the moment before: what it says of the records that the caller knows of
kept_at : (front : List ℕ) (start gate : ℕ) (records : List (List ℕ)) (a : Option History) (h : History) → a ≡ Some h → IsAtRest front start gate records h.now → Keeps front start gate records a
kept_at front start gate records a h e rest i told = subst (λ j. IsAtRest front start gate records j.now) (same_Some h i (sym e ∙ told)) rest

append_untold : (start gate : ℕ) (next : List ℕ) (a b : Option History) → LeavesEither start gate next a b → a ≡ None → b ≡ None
append_untold start gate next a b leaves none = (leaves [] [] (λ h told. absurd (none-some h (sym none ∙ told)))).untold none

-- Within an append a crash leaves what has P, where that holds of the records from before, and of these with the new.
pub append_stays : (P : List ℕ → Type 0) (start gate : ℕ) (next : List ℕ) (a b : Option History) → LeavesEither start gate next a b
    → ((h : History) → a ≡ Some h → (front : List ℕ) × (records : List (List ℕ)) × IsAtRest front start gate records h.now × ((image : List ℕ) → IsAppended front records next gate image → P image)) → StaysIn P a b
append_stays P start gate next a b leaves known = record {
  told = λ h e. let k = known h e in (StaysIn-weaker P (leaves k.0 k.1 (kept_at k.0 start gate k.1 a h e k.2)) (λ i told image. k.3 image)).told h e;
  untold = append_untold start gate next a b leaves;
}

-- Behind one that succeeded the moment has Q, where that holds wherever the disk keeps one record more.
pub append_keeps : (Q : Moment → Type 0) (start gate : ℕ) (next : List ℕ) (a b : Option History) → LeavesEither start gate next a b → Acknowledges start gate next a b
    → ((h : History) → a ≡ Some h → (front : List ℕ) × (records : List (List ℕ)) × IsAtRest front start gate records h.now × ((m : Moment) → IsAtRest front start (gate + 1 + length next) (records ++ next ∷ []) m → Q m)) → Now b Q
append_keeps Q start gate next None b leaves kept known k e = absurd (none-some k (sym (append_untold start gate next None b leaves refl) ∙ e))
append_keeps Q start gate next (Some h) b leaves kept known k e = let r = known h refl in r.3 k.now (kept r.0 r.1 (kept_at r.0 start gate r.1 (Some h) h refl r.2) k e)

pub resting_then : (start gate place : ℕ) (next : List ℕ) (a b : Option History) → place ≡ gate + 1 + length next → Acknowledges start gate next a b → LeavesEither start gate next a b → Now a (IsResting start gate) → Now b (IsResting start place)
resting_then start gate place next a b at kept leaves rest =
    append_keeps (IsResting start place) start gate next a b leaves kept (λ h e.
    let r = rest h e in
    (r.0, r.1, r.2, λ m is. (r.0, r.1 ++ next ∷ [], subst (λ n. IsAtRest r.0 start n (r.1 ++ next ∷ []) m) (sym at) is)))

-- a file that is read as a journal that begins at place 8 begins with the magic
pub front_is_magic : (file : List ℕ) (found : Reading) → reading 8 file ≡ Ok found → take 8 file ≡ magic
front_is_magic file found reads = (bytes_eq-Decides (take 8 file) magic).0 (formatted 8 file found reads)

-- what is known of the disk of such a journal when it was opened
pub opened_keeps : (gate : ℕ) (records : List (List ℕ)) (a b : Option History) → Now a (λ m. reading 8 m.bytes ≡ Ok (record { records = records; gate = gate }))
    → ((front : List ℕ) → Now a (λ m. take 8 m.bytes ≡ front) → Keeps front 8 gate records b) → Keeps magic 8 gate records b
opened_keeps gate records a b reads rest = rest magic (λ h e. front_is_magic h.now.bytes (record { records = records; gate = gate }) (reads h e))

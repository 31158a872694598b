-- A reader at whose hand the end of a line is: its source isn't read before that line is given.
use Rattle.std.proofs.Common.{ℕ, ◌≡◌, ◌≢◌, ◌∙◌, ◌||◌, eqb, Bool, true, false, List, [], ◌∷◌, ◌++◌, length, take, drop, None, Some, inl, inr, refl, sym, ap, arith}
use Rattle.std.specs.Prelude.{◌⊎◌, ◌==◌, Option, IfNone, IfSome, is_some}
use Rattle.std.proofs.Math.Seq.{take-length}
use Rattle.std.proofs.lemmas.Bool.{eqb-true, ne_eqb}
use Rattle.std.proofs.lemmas.List.{take-append-drop}
use Rattle.std.proofs.lemmas.List.Elements.{All-weaker}
use Rattle.std.proofs.lemmas.List.Folds.{list_any-append, list_any_none, list_any_at}
use Rattle.racf_outside.specs.Blocks.{Block}
use Rattle.racf_outside.specs.Lines.{NoFeed}
use Rattle.racf_outside.specs.Reader.{Reader, has_feed, KeepsSource}
use Rattle.racf_outside.specs.Scan.{IsFirstFeed}
use Rattle.racf_outside.proofs.Bytes.{take-window}

-- no line ends in bytes without a feed
pub feedless : (bytes : List ℕ) → NoFeed bytes → has_feed bytes ≡ false
feedless bytes h = list_any_none (λ byte. byte == 10) bytes (All-weaker (λ byte. byte ≢ 10) (λ byte. (byte == 10) ≡ false) (λ byte other. ne_eqb byte 10 other) bytes h)

-- one ends where the first feed stands
pub feed_at : (bytes : List ℕ) (place : ℕ) → IsFirstFeed bytes place → has_feed bytes ≡ true
feed_at bytes place first = list_any_at (λ byte. byte == 10) bytes place 0 first.within (ap (λ byte. byte == 10) first.here)

pub found_feed : (bytes : List ℕ) (found : Option ℕ) → IfNone found (NoFeed bytes) → IfSome found (IsFirstFeed bytes) → is_some found ≡ has_feed bytes
found_feed bytes None none some = sym (feedless bytes none)
found_feed bytes (Some place) none some = sym (feed_at bytes place some)

-- none ends in no bytes
pub none_in : (bytes : List ℕ) → bytes ≡ [] → has_feed bytes ≡ true → ⊥
none_in bytes none h = no (sym (ap has_feed none) ∙ h)
  where
    no : false ≡ true → ⊥
    no e = cc

-- bytes that are empty
pub empty_is_nil : (bytes : List ℕ) (empty : Bool) → empty ≡ eqb (length bytes) 0 → empty ≡ true → bytes ≡ []
empty_is_nil [] empty is holds = refl
empty_is_nil (byte ∷ bytes) empty is holds = let e : length (byte ∷ bytes) ≡ 0 = eqb-true (length (byte ∷ bytes)) 0 (sym is ∙ holds) in absurd (omega arith)

-- a line that doesn't end in a window ends behind it
pub held_behind : (m : ℕ) (window bytes : List ℕ) → window ≡ take m bytes → NoFeed window → has_feed bytes ≡ true → has_feed (drop (length window) bytes) ≡ true
held_behind m window bytes is none h =
    let rest : List ℕ = drop (length window) bytes in
    let front : take (length window) bytes ≡ window =
    sym (take-window (length window) m bytes (let e : length window ≡ length (take m bytes) = ap length is in omega arith)) ∙ ap (take (length window)) (sym is) ∙ take-length window in
    let whole : window ++ rest ≡ bytes = ap (λ xs. xs ++ rest) (sym front) ∙ take-append-drop (length window) bytes in
    sym (ap (λ b. b || has_feed rest) (feedless window none)) ∙ sym (list_any-append (λ byte. byte == 10) window rest) ∙ ap has_feed whole ∙ h

-- the reader of blocks was at a block that is at hand, and then passed some of it
pub block_kept : (old filled now : Block) → (old.ready ≡ []) ⊎ (filled ≡ old) → has_feed old.ready ≡ true → now.left ≡ filled.left → now.faults ≡ filled.faults → (now.left ≡ old.left) × (now.faults ≡ old.faults)
block_kept old filled now (inl none) h left faults = absurd (none_in old.ready none h)
block_kept old filled now (inr same) h left faults = (left ∙ ap (λ block. block.left) same, faults ∙ ap (λ block. block.faults) same)

-- what is at hand then
pub ready_kept : (old filled : Block) → (old.ready ≡ []) ⊎ (filled ≡ old) → has_feed old.ready ≡ true → has_feed filled.ready ≡ true
ready_kept old filled (inl none) h = absurd (none_in old.ready none h)
ready_kept old filled (inr same) h = ap (λ block. has_feed block.ready) same ∙ h

-- one call after another
pub KeepsSource-then : (old now next : Reader) → KeepsSource old now → KeepsSource now next → KeepsSource old next
KeepsSource-then old now next k l = record { left = l.left ∙ k.left; faults = l.faults ∙ k.faults }

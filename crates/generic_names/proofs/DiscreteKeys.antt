-- The keys of names without generic characters.
use Rattle.std.proofs.Common.{◌≡◌, ◌≢◌, ℕ, ◌<◌, ◌+◌, ◌-◌, Bool, true, false, ◌||◌, cond, suc, eqb, ltb, List, [], ◌∷◌, ◌++◌, map, take, drop, replicate, set, length, get_or, append_assoc, add-one, take-suc, refl, ap, sym, ◌∙◌, subst, arith}
use Rattle.std.specs.List.{onto_first, list_any}
use Rattle.std.proofs.lemmas.Bool.{or_parts}
use Rattle.std.proofs.lemmas.Bool.Decides.{nat_tests}
use Rattle.std.proofs.lemmas.List.{map-append, length-set, take_more_set, take_all, drop-set-lt, drop-drop, drop-replicate}
use Rattle.generic_names.specs.Spelled.{Spelled, qualifiers, is_empty}
use Rattle.generic_names.specs.Before.{rank, ranks}
use Rattle.generic_names.specs.Ranked.{ranks_within}
use Rattle.generic_names.specs.Laws.{IsResource}
use Rattle.generic_names.specs.OrderKey.{squeezed, order_key, discrete_byte, IsDiscrete, AreDiscrete}
use Rattle.generic_names.proofs.Lawful.{EachQualifier, IsPlain, resource-plain}
use Rattle.generic_names.proofs.QualifierLaws.{qualifiers-some}

-- a byte that is no generic character is its own rank, and that of no whole `**`
discrete-rank : (b : ℕ) → IsDiscrete b → squeezed (rank b) ≡ b
discrete-rank b h =
    let percent : eqb b 37 ≡ false = (let n : b ≢ 37 = h.1 in grind (arith, nat_tests)) in
    let asterisk : eqb b 42 ≡ false = (let n : b ≢ 42 = h.2 in grind (arith, nat_tests)) in
    let low : ltb b 256 ≡ true = (let l : b < 256 = h.0 in grind (arith, nat_tests)) in
    rw (percent, asterisk, low) refl

onto-ranks : (b : ℕ) (qs : List (List ℕ)) → b ≢ 42 → is_empty qs ≡ false → ranks (onto_first b qs) ≡ rank b ∷ ranks_within qs
onto-ranks b [] other some = absurd (cc (some))
onto-ranks b (q ∷ qs) other some = let no : eqb b 42 ≡ false = grind (arith, nat_tests) in rw no refl

onto-within : (b : ℕ) (qs : List (List ℕ)) → is_empty qs ≡ false → ranks_within (onto_first b qs) ≡ rank b ∷ ranks_within qs
onto-within b [] some = absurd (cc (some))
onto-within b (q ∷ qs) some = refl

-- the ranks behind a place within a qualifier are those from where one begins
same-ranks : (text : List ℕ) → AreDiscrete text → ranks (qualifiers text) ≡ ranks_within (qualifiers text)
same-ranks [] h = refl
same-ranks (b ∷ text) h = settled (eqb b 46)
  where
    settled : (t : Bool) → ranks (cond t ([] ∷ qualifiers text) (onto_first b (qualifiers text))) ≡ ranks_within (cond t ([] ∷ qualifiers text) (onto_first b (qualifiers text)))
    settled true = refl
    settled false = onto-ranks b (qualifiers text) h.0.2 (qualifiers-some text) ∙ sym (onto-within b (qualifiers text) (qualifiers-some text))

key-within : (text : List ℕ) → AreDiscrete text → map squeezed (ranks_within (qualifiers text)) ≡ map discrete_byte text ++ 252 ∷ 254 ∷ []
key-within [] h = refl
key-within (b ∷ text) h = settled (eqb b 46) (key-within text h.1)
  where
    settled : (t : Bool) → map squeezed (ranks_within (qualifiers text)) ≡ map discrete_byte text ++ 252 ∷ 254 ∷ []
        → map squeezed (ranks_within (cond t ([] ∷ qualifiers text) (onto_first b (qualifiers text)))) ≡ cond t 252 b ∷ (map discrete_byte text ++ 252 ∷ 254 ∷ [])
    settled true again = ap (λ (some : List ℕ). 252 ∷ map squeezed some) (same-ranks text h.1) ∙ ap (λ (key : List ℕ). 252 ∷ key) again
    settled false again =
        ap (λ (some : List ℕ). map squeezed some) (onto-within b (qualifiers text) (qualifiers-some text))
        ∙ ap (λ (n : ℕ). n ∷ map squeezed (ranks_within (qualifiers text))) (discrete-rank b h.0)
        ∙ ap (λ (key : List ℕ). b ∷ key) again

pub discrete-key : (text : List ℕ) → AreDiscrete text → order_key text ≡ map discrete_byte text ++ 252 ∷ 254 ∷ []
discrete-key text h = ap (λ (some : List ℕ). map squeezed some) (same-ranks text h) ∙ key-within text h

-- bytes of which none is a generic character are such bytes
pub none-generic : (text : List ℕ) → ((i : ℕ) → get_or text i 0 < 256) → list_any (λ b. eqb b 37 || eqb b 42) text ≡ false → AreDiscrete text
none-generic [] low none = tt
none-generic (b ∷ text) low none =
    let parts = or_parts (eqb b 37 || eqb b 42) (list_any (λ b. eqb b 37 || eqb b 42) text) none in
    let two = or_parts (eqb b 37) (eqb b 42) parts.0 in
    let percent : b ≢ 37 = (let t : eqb b 37 ≡ false = two.0 in λ e. grind (arith, nat_tests)) in
    let asterisk : b ≢ 42 = (let t : eqb b 42 ≡ false = two.1 in λ e. grind (arith, nat_tests)) in
    ((low 0, percent, asterisk), none-generic text (λ i. low (suc i)) parts.1)

-- the bytes of a resource's name are such bytes
plain-period : (b : ℕ) → eqb b 46 ≡ true → IsDiscrete b
plain-period b is = let same : b ≡ 46 = grind (arith, nat_tests) in subst (λ (n : ℕ). IsDiscrete n) (sym same) (omega arith, (λ e. omega arith), (λ e. omega arith))

onto-plain : (b : ℕ) (qs : List (List ℕ)) → is_empty qs ≡ false → EachQualifier IsPlain (onto_first b qs) → IsDiscrete b × EachQualifier IsPlain qs
onto-plain b [] some h = absurd (cc (some))
onto-plain b (q ∷ qs) some h = ((h.0.0.small, h.0.0.no_percent, h.0.0.no_asterisk), (h.0.1, h.1))

are-discrete : (text : List ℕ) → EachQualifier IsPlain (qualifiers text) → AreDiscrete text
are-discrete [] h = tt
are-discrete (b ∷ text) h = settled (eqb b 46) refl (λ plain. are-discrete text plain) h
  where
    settled : (t : Bool) → eqb b 46 ≡ t → (EachQualifier IsPlain (qualifiers text) → AreDiscrete text) → EachQualifier IsPlain (cond t ([] ∷ qualifiers text) (onto_first b (qualifiers text))) → IsDiscrete b × AreDiscrete text
    settled true is again plain = (plain-period b is, again plain.1)
    settled false is again plain =
        let both = onto-plain b (qualifiers text) (qualifiers-some text) plain in
        (both.0, again both.1)

pub resource-discrete : (name : Spelled) → IsResource name → AreDiscrete name.text
resource-discrete name h = are-discrete name.text (resource-plain name h)

-- the array of a key, as a loop fills it
pub front-step : (bytes text : List ℕ) (at v : ℕ) → at < length bytes → at < length text → v ≡ discrete_byte (get_or text at 0)
    → take at bytes ≡ map discrete_byte (take at text) → take (at + 1) (set bytes at v) ≡ map discrete_byte (take (at + 1) text)
front-step bytes text at v room more is front =
    let next : take (at + 1) text ≡ take at text ++ get_or text at 0 ∷ [] = rw add-one (take-suc text at 0 more) in
    take_more_set bytes at v room
    ∙ ap (λ (key : List ℕ). key ++ v ∷ []) front
    ∙ ap (λ (b : ℕ). map discrete_byte (take at text) ++ b ∷ []) is
    ∙ sym (map-append (λ b. discrete_byte b) (take at text) (get_or text at 0 ∷ []))
    ∙ ap (λ (xs : List ℕ). map discrete_byte xs) (sym next)

pub behind-step : (bytes : List ℕ) (at v : ℕ) → drop at bytes ≡ replicate (248 - at) 0 → drop (at + 1) (set bytes at v) ≡ replicate (248 - (at + 1)) 0
behind-step bytes at v behind =
    let left : 248 - at - 1 ≡ 248 - (at + 1) = omega arith in
    drop-set-lt (at + 1) bytes at v (omega arith)
    ∙ sym (drop-drop 1 at bytes)
    ∙ ap (λ (xs : List ℕ). drop 1 xs) behind
    ∙ drop-replicate 1 (248 - at) 0
    ∙ ap (λ (k : ℕ). replicate k 0) left

-- and its end
pub behind-end : (bytes : List ℕ) (n : ℕ) → drop n bytes ≡ replicate (248 - n) 0 → drop (n + 2) (set (set bytes n 252) (n + 1) 254) ≡ replicate (248 - (n + 2)) 0
behind-end bytes n behind =
    let two : n + 1 + 1 ≡ n + 2 = omega arith in
    subst (λ (k : ℕ). drop k (set (set bytes n 252) (n + 1) 254) ≡ replicate (248 - k) 0) two
    (behind-step (set bytes n 252) (n + 1) 254 (behind-step bytes n 252 behind))

pub front-end : (bytes text : List ℕ) (n : ℕ) → n ≡ length text → n + 1 < length bytes → AreDiscrete text → take n bytes ≡ map discrete_byte (take n text)
    → take (n + 2) (set (set bytes n 252) (n + 1) 254) ≡ order_key text
front-end bytes text n all room plain front =
    let two : n + 1 + 1 ≡ n + 2 = omega arith in
    let size : length (set bytes n 252) ≡ length bytes = length-set bytes n 252 in
    ap (λ (k : ℕ). take k (set (set bytes n 252) (n + 1) 254)) (sym two)
    ∙ take_more_set (set bytes n 252) (n + 1) 254 (omega (arith, size))
    ∙ ap (λ (key : List ℕ). key ++ 254 ∷ []) (take_more_set bytes n 252 (omega arith))
    ∙ append_assoc (take n bytes) (252 ∷ []) (254 ∷ [])
    ∙ ap (λ (key : List ℕ). key ++ 252 ∷ 254 ∷ []) (front ∙ ap (λ (xs : List ℕ). map discrete_byte xs) (take_all n text (omega arith)))
    ∙ sym (discrete-key text plain)

-- Beginnings of lists of events, and which list extends which.
use Rattle.std.proofs.Common.{◌≡◌, ◌⊎◌, Option, ◌+◌, ◌-◌, ◌≤◌, ℕ, Bool, nat_lt, MatchBool, true, false, List, [], ◌∷◌, ◌++◌, length, refl, ap, sym, ◌∙◌, subst, arith, inl, inr, append_assoc, length-append}
use Rattle.std.proofs.lemmas.Bool.Decides.{nat_tests}
use mathlib.Core.List.{IsPrefix}
use Rattle.command_history.specs.declared.events.Event.{Event}
use Rattle.command_history.specs.declared.events.Event.TheVariants.{Added, Ended}
use Rattle.command_history.specs.declared.events.Accepted.{Accepted}
use Rattle.command_history.specs.Events.{entries_of, failed_of, is_ended, ends_last, all_of, Extends}

-- ---- beginnings

pub prefix_trans : {A : Type 0} (xs ys zs : List A) → IsPrefix xs ys → IsPrefix ys zs → IsPrefix xs zs
prefix_trans xs ys zs p q = (p.0 ++ q.0, sym (append_assoc xs p.0 q.0) ∙ (ap (λ w. w ++ q.0) p.1 ∙ q.1))

prefix_length : {A : Type 0} (xs ys : List A) → IsPrefix xs ys → length xs ≤ length ys
prefix_length xs ys p = omega (arith, sym (ap length p.1) ∙ length-append xs p.0)

-- One that is as long as the whole is the whole.
pub prefix_whole : {A : Type 0} (xs ys : List A) → IsPrefix xs ys → length ys ≤ length xs → xs ≡ ys
prefix_whole [] [] p le = refl
prefix_whole [] (y ∷ ys) p le = absurd (omega arith)
prefix_whole (x ∷ xs) [] p le = absurd (cc (p.1))
prefix_whole (x ∷ xs) (y ∷ ys) p le =
    let rest = prefix_whole xs ys (p.0, cc (p.1)) (omega arith) in cc (p.1, rest)

-- Of two beginnings of one list the shorter begins the longer.
prefix_shorter : {A : Type 0} (xs ys zs : List A) → IsPrefix xs zs → IsPrefix ys zs → length xs ≤ length ys → IsPrefix xs ys
prefix_shorter [] ys zs p q le = (ys, refl)
prefix_shorter (x ∷ xs) [] zs p q le = absurd (omega arith)
prefix_shorter (x ∷ xs) (y ∷ ys) [] p q le = absurd (cc (p.1))
prefix_shorter (x ∷ xs) (y ∷ ys) (z ∷ zs) p q le =
    let heads : x ≡ y = cc (p.1, q.1) in
    let rest = prefix_shorter xs ys zs (p.0, cc (p.1)) (q.0, cc (q.1)) (omega arith) in
    (rest.0, cc (heads, rest.1))

-- ---- which list extends which

-- A list whose beginning has the final mark is that beginning.
pub ended_whole : (earlier later : List Event) → ends_last later ≡ true → IsPrefix earlier later → is_ended earlier ≡ true → later ≡ earlier
ended_whole [] later last p e = absurd cc
ended_whole (x ∷ xs) [] last p e = absurd (cc (p.1))
ended_whole (Added a ∷ xs) (Added b ∷ ys) last p e =
    let rest = ended_whole xs ys last (p.0, cc (p.1)) e in cc (p.1, rest)
ended_whole (Added a ∷ xs) (Ended k ∷ ys) last p e = absurd (cc (p.1))
ended_whole (Ended h ∷ xs) (Added b ∷ ys) last p e = absurd (cc (p.1))
ended_whole (Ended h ∷ []) (Ended k ∷ []) last p e = cc (p.1)
ended_whole (Ended h ∷ x ∷ xs) (Ended k ∷ []) last p e = absurd (cc (p.1))
ended_whole (Ended h ∷ xs) (Ended k ∷ y ∷ ys) last p e = absurd (cc last)

-- a list in which nothing stands behind the final mark extends each of its beginnings
pub extends_beginning : (earlier later : List Event) → ends_last later ≡ true → IsPrefix earlier later → Extends earlier later
extends_beginning earlier later last p = record { prefix = p; whole = ended_whole earlier later last p }

pub extends_push : (events : List Event) (event : Event) → is_ended events ≡ false → Extends events (events ++ event ∷ [])
extends_push events event goes = record { prefix = (event ∷ [], refl); whole = λ e. absurd (cc (e, goes)) }

pub extends_trans : (xs ys zs : List Event) → Extends xs ys → Extends ys zs → Extends xs zs
extends_trans xs ys zs p q =
    record {
      prefix = prefix_trans xs ys zs p.prefix q.prefix;
      whole = λ e. q.whole (subst (λ l. is_ended l ≡ true) (sym (p.whole e)) e) ∙ p.whole e;
    }

-- lists that extend each other are one
pub extends_both : (xs ys : List Event) → Extends xs ys → Extends ys xs → xs ≡ ys
extends_both xs ys p q = prefix_whole xs ys p.prefix (prefix_length ys xs q.prefix)

-- what is one of two lists and extends the one that extends the other is that one
pub learned_all : (seen note new : List Event) → Extends seen note → (new ≡ seen) ⊎ (new ≡ note) → Extends note new → new ≡ note
learned_all seen note new p (inl is) q =
    is ∙ extends_both seen note p (subst (λ l. Extends note l) is q)
learned_all seen note new p (inr is) q = is

-- ---- fronts of one history

-- The shorter of two is extended by the other.
pub shorter_front : (xs ys both : List Event) → ends_last ys ≡ true → IsPrefix xs both → IsPrefix ys both → length xs ≤ length ys → Extends xs ys
shorter_front xs ys both last p q le = extends_beginning xs ys last (prefix_shorter xs ys both p q le)

-- What both know is no more than the one has, where the word that comes home with the next event is still away.
pub covered : (mine other both after : List Event) (key : ℕ) → length mine ≡ key - 2 → IsPrefix mine both → IsPrefix other both
    → IsPrefix both after → length after + 2 ≤ key → ends_last mine ≡ true → Extends other mine
covered mine other both after key at p q r away last =
    let more = prefix_length other both q in
    let whole = prefix_length both after r in
    shorter_front other mine both last q p (omega arith)

-- The lengths tell which of two extends the other.
compared_so : (xs ys both : List Event) → ends_last xs ≡ true → ends_last ys ≡ true → IsPrefix xs both → IsPrefix ys both
    → (b : Bool) → nat_lt (length xs) (length ys) ≡ b → MatchBool b (Extends xs ys) (Extends ys xs)
compared_so xs ys both last last' p q true is = shorter_front xs ys both last' p q (grind (arith, nat_tests))
compared_so xs ys both last last' p q false is = shorter_front ys xs both last q p (grind (arith, nat_tests))

pub compared : (xs ys both : List Event) → ends_last xs ≡ true → ends_last ys ≡ true → IsPrefix xs both → IsPrefix ys both
    → MatchBool (nat_lt (length xs) (length ys)) (Extends xs ys) (Extends ys xs)
compared xs ys both last last' p q = compared_so xs ys both last last' p q (nat_lt (length xs) (length ys)) refl

-- ---- whole lists

pub all_is : (events : List Event) → ends_last events ≡ true → is_ended events ≡ true → events ≡ all_of (entries_of events) (failed_of events)
all_is [] last ended = absurd (cc ended)
all_is (Added entry ∷ events) last ended = ap (λ (l : List Event). Added entry ∷ l) (all_is events last ended)
all_is (Ended doubt ∷ []) last ended = refl
all_is (Ended doubt ∷ event ∷ events) last ended = absurd (cc last)

pub entries_of_all : (entries : List Accepted) (doubt : Option Accepted) → entries_of (all_of entries doubt) ≡ entries
entries_of_all [] doubt = refl
entries_of_all (entry ∷ entries) doubt = ap (λ (l : List Accepted). entry ∷ l) (entries_of_all entries doubt)

pub failed_of_all : (entries : List Accepted) (doubt : Option Accepted) → failed_of (all_of entries doubt) ≡ doubt
failed_of_all [] doubt = refl
failed_of_all (entry ∷ entries) doubt = failed_of_all entries doubt

pub ended_all : (entries : List Accepted) (doubt : Option Accepted) → is_ended (all_of entries doubt) ≡ true
ended_all [] doubt = refl
ended_all (entry ∷ entries) doubt = ended_all entries doubt

pub last_of_all : (entries : List Accepted) (doubt : Option Accepted) → ends_last (all_of entries doubt) ≡ true
last_of_all [] doubt = refl
last_of_all (entry ∷ entries) doubt = last_of_all entries doubt

-- A legal history is no longer than the numbers that commands get.
use Rattle.std.proofs.Common.{◌≡◌, ◌⊎◌, ℕ, ◌+◌, ◌<◌, ◌≤◌, ◌^◌, true, false, List, [], ◌∷◌, ◌++◌, length, Ok, Bool, Option, Some, None, nat_le, if◌then◌else◌, leb-false, inl, inr, refl, ◌∙◌, arith, ⊎_elim}
use Rattle.journal_records.specs.declared.record.CommandRecord.{CommandRecord}
use Rattle.desk_rules.specs.declared.refusal.Refusal.{Refusal}
use Rattle.desk_rules.specs.declared.refusal.Refusal.TheVariants as refusal
use Rattle.desk_rules.specs.Outcome.{most_number, first_of, rules_of, number_spent}
use Rattle.desk_rules.specs.Position.{Position, position_behind}
use Rattle.desk_rules.specs.Recovery.{outcome_again, refusal_again}
use Rattle.desk_rules.proofs.RecoveryLaws.{judged_parts}
use Rattle.command_history.specs.declared.events.Accepted.{Accepted}
use Rattle.command_history.specs.declared.events.Event.{Event}
use Rattle.command_history.specs.declared.events.Event.TheVariants.{Added, Ended}
use Rattle.command_history.specs.Events.{entries_of, ends_last}
use Rattle.command_history.specs.Reached.{AreLegal}

-- Where nothing is refused, the end of the numbers isn't reached.
last_none : (rules spent : Option Refusal) → first_of (rules ∷ spent ∷ []) ≡ None → spent ≡ None
last_none (Some why) spent h = cc
last_none None (Some why) h = cc
last_none None None h = refl

unspent : (number : ℕ) (b : Bool) → nat_le most_number number ≡ b → (if b then Some refusal.NumberSpent else None) ≡ None → nat_le most_number number ≡ false
unspent number true is h = cc
unspent number false is h = is

-- There is a number for each command that is accepted.
numbered : (base : Position) (given : CommandRecord) → outcome_again base given ≡ Ok given → base.image.generation + 1 ≤ most_number
numbered base given is =
    let number = base.image.generation in
    let rows = base.image.state.rows in
    let none = (judged_parts (refusal_again number rows) rows given.issuer.id (Some given.issuer.group) given.command given is).2 in
    let below = unspent number (nat_le most_number number) refl (last_none (rules_of rows given) (number_spent number) none) in
    let lt : number < most_number = leb-false most_number number below in omega arith

few_from : (base : Position) (entries : List Accepted) → AreLegal base entries → (entries ≡ []) ⊎ (base.image.generation + length entries ≤ most_number)
few_from base [] legal = inl refl
few_from base (entry ∷ entries) legal =
    let first = numbered base legal.0 legal.2 in
    inr (⊎_elim
    (λ none. rw none (omega arith))
    (λ rest. omega arith)
    (few_from (position_behind base legal.0) entries legal.4))

few : (base : Position) (entries : List Accepted) → AreLegal base entries → length entries ≤ 2 ^ 62
few base entries legal = ⊎_elim (λ none. rw none (omega arith)) (λ some. omega arith) (few_from base entries legal)

-- The final mark is one event more.
one_more : (events : List Event) → ends_last events ≡ true → length events ≤ length (entries_of events) + 1
one_more [] last = omega arith
one_more (Added entry ∷ events) last = let rest = one_more events last in omega arith
one_more (Ended doubt ∷ []) last = omega arith
one_more (Ended doubt ∷ event ∷ events) last = absurd (cc last)

pub has_room : (base : Position) (events : List Event) → AreLegal base (entries_of events) → ends_last events ≡ true → length events ≤ 2 ^ 62 + 1
has_room base events legal last = let entries = few base (entries_of events) legal in let more = one_more events last in omega arith

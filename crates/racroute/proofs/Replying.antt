-- What callers learn of replies.
use Rattle.std.proofs.Common.{◌≡◌, ◌⊎◌, ℕ, ◌+◌, ◌%◌, ◌^◌, true, List, [], ◌∷◌, ◌++◌, Some, None, refl, sym, ◌∙◌, ap, subst}
use Rattle.desk_rules.specs.declared.answers.Reply.{Reply}
use Rattle.desk_rules.specs.declared.answers.Reply.TheVariants as reply
use Rattle.desk_rules.specs.Position.{Position}
use Rattle.command_history.specs.declared.events.Event.{Event}
use Rattle.command_history.specs.declared.events.Event.TheVariants.{Added, Ended}
use Rattle.command_history.specs.Events.{Extends}
use Rattle.command_history.proofs.Extensions.{extends_push, extends_trans, learned_all}
use Rattle.racroute.specs.Core.{Passing}
use Rattle.racroute.specs.Replies.{Given, Says, IsNoted, Learns}

pub extends_self : (events : List Event) → Extends events events
extends_self events = record { prefix = ([], append_nil events); whole = λ _. refl }
  where
    append_nil : (xs : List Event) → xs ++ [] ≡ xs
    append_nil [] = refl
    append_nil (x ∷ xs) = ap (λ (l : List Event). x ∷ l) (append_nil xs)

same_extends : (before after : List Event) → after ≡ before → Extends before after
same_extends before after is = subst (Extends before) (sym is) (extends_self before)

-- behind every command is no less than before it
pub says_extends : (base : Position) (given : Given) (told : Reply) (before after : List Event) (pass back : Passing)
    → Says base given told before after pass back → Extends before after
says_extends base given (reply.Accepted number) before after pass back says =
    subst (Extends before) (sym says.added) (extends_push before (Added says.entry) says.goes_on)
says_extends base given (reply.Refused number why) before after pass back says = same_extends before after says.same
says_extends base given (reply.Halted number) before after pass back says = same_extends before after says.same
says_extends base given (reply.DiskFault number) before after pass back says =
    subst (Extends before) (sym says.ended) (extends_push before (Ended (Some says.entry)) says.goes_on)
says_extends base given reply.NoMemory before after pass back says = same_extends before after says.same

-- the note is of what is there then
noted_is : (told : Reply) (note events : List Event) → IsNoted told (Some note) events → note ≡ events
noted_is (reply.Accepted number) note events is = cc is
noted_is (reply.Refused number why) note events is = cc is
noted_is (reply.Halted number) note events is = cc is
noted_is (reply.DiskFault number) note events is = cc is
noted_is reply.NoMemory note events is = absurd (cc is)

abbrev pub SaysLater : Position → Given → Reply → (seen after : List Event) → (pass back : Passing) → Type 0
SaysLater base given told seen after pass back = (before : List Event) × Extends seen before × Says base given told before after pass back

-- a caller that learned the note has seen what the reply is about
pub learned_says : (base : Position) (given : Given) (told : Reply) (note seen before after now : List Event) (pass back : Passing)
    → IsNoted told (Some note) after → Extends seen before → Says base given told before after pass back
    → (now ≡ seen) ⊎ (now ≡ note) → Extends note now → SaysLater base given told seen now pass back
learned_says base given told note seen before after now pass back is extends says one more =
    let note_is = noted_is told note after is in
    let extends' : Extends seen note = subst (Extends seen) (sym note_is) (extends_trans seen before after extends (says_extends base given told before after pass back says)) in
    let now_is : now ≡ after = learned_all seen note now extends' one more ∙ note_is in
    (before, extends, subst (λ (l : List Event). Says base given told before l pass back) (sym now_is) says)

pub learned_learns : (told : Reply) (note events : List Event) (old now : ℕ) → IsNoted told (Some note) events → now ≡ (old + 1) % 2 ^ 64 → Learns told old now
learned_learns (reply.Accepted number) note events old now is more = more
learned_learns (reply.Refused number why) note events old now is more = more
learned_learns (reply.Halted number) note events old now is more = more
learned_learns (reply.DiskFault number) note events old now is more = more
learned_learns reply.NoMemory note events old now is more = absurd (cc is)

-- where there is no note, nothing has changed
pub untold_says : (base : Position) (given : Given) (told : Reply) (seen before after : List Event) (pass back : Passing)
    → IsNoted told None after → Says base given told before after pass back → SaysLater base given told seen seen pass back
untold_says base given (reply.Accepted number) seen before after pass back is says = absurd (cc is)
untold_says base given (reply.Refused number why) seen before after pass back is says = absurd (cc is)
untold_says base given (reply.Halted number) seen before after pass back is says = absurd (cc is)
untold_says base given (reply.DiskFault number) seen before after pass back is says = absurd (cc is)
untold_says base given reply.NoMemory seen before after pass back is says =
    (seen, extends_self seen, record { same = refl; kept = says.kept })

pub untold_learns : (told : Reply) (events : List Event) (learned : ℕ) → IsNoted told None events → Learns told learned learned
untold_learns (reply.Accepted number) events learned is = absurd (cc is)
untold_learns (reply.Refused number why) events learned is = absurd (cc is)
untold_learns (reply.Halted number) events learned is = absurd (cc is)
untold_learns (reply.DiskFault number) events learned is = absurd (cc is)
untold_learns reply.NoMemory events learned is = refl

-- What a command that was given leaves.
use Rattle.std.proofs.Common.{◌≡◌, ◌≢◌, ℕ, Bool, true, false, List, [], ◌∷◌, ◌++◌, refl, ◌∙◌, ap, subst}
use Rattle.std.specs.Prelude.{◌||◌, Option, Some, is_some}
use Rattle.desk_rules.specs.Position.{Position}
use Rattle.desk_rules.specs.declared.answers.Reply.{Reply}
use Rattle.desk_rules.specs.declared.answers.Reply.TheVariants as reply
use Rattle.command_history.specs.declared.events.Accepted.{Accepted}
use Rattle.command_history.specs.declared.events.Event.{Event}
use Rattle.command_history.specs.declared.events.Event.TheVariants.{Added, Ended}
use Rattle.command_history.specs.Events.{Extends, is_ended, failed_of}
use Rattle.command_history.proofs.Marks.{failed_push}
use Rattle.racroute.specs.Core.{Passing}
use Rattle.racroute.specs.Replies.{Given, given_by, Says}
use Rattle.racf_workers.specs.Deck.{Met, counted, is_refusal, is_failure, told_line}
use Rattle.racf_workers.specs.Giving.{Giving, Commands, told_of}

-- the pass counts what the reply says
pub says_counted : (base : Position) (given : Given) (told : Reply) (before behind : List Event) (pass back : Passing) → Says base given told before behind pass back → back ≡ counted told pass
says_counted base given (reply.Accepted number) before behind pass back s = s.counted
says_counted base given (reply.Refused number why) before behind pass back s = s.kept
says_counted base given (reply.Halted number) before behind pass back s = s.kept
says_counted base given (reply.DiskFault number) before behind pass back s = s.counted
says_counted base given reply.NoMemory before behind pass back s = s.kept

-- A command was given, and what it was told stands behind what was there.
pub commanded : (base : Position) (text shown : List ℕ) (told : Reply) (seen front : List Event) (pass back : Passing) (old new : Giving) (gathered mid now : List ℕ)
    → ((before : List Event) × Extends seen before × Says base (given_by old.issuer.id old.issuer.group shown) told before front pass back) → shown ≡ text
    → told ≢ reply.NoMemory → new ≡ told_of told old → mid ≡ gathered → now ≡ mid ++ told_line told
    → Commands base text seen front pass back old new gathered now
commanded base text shown told seen front pass back old new gathered mid now says same some state kept line =
    let is : back ≡ counted told pass = says_counted base (given_by old.issuer.id old.issuer.group shown) told says.0 front pass back says.2 in
    let met : Met = record { reply = told; before = says.0; behind = front } in
    let by_text : Says base (given_by old.issuer.id old.issuer.group text) told says.0 front pass back =
    subst (λ (bytes : List ℕ). Says base (given_by old.issuer.id old.issuer.group bytes) told says.0 front pass back) same says.2 in
    record {
      met = met;
      right =
          record {
            later = says.1;
            says = subst (λ (p : Passing). Says base (given_by old.issuer.id old.issuer.group text) told says.0 front pass p) is by_text;
            told = some;
          };
      front_is = refl;
      back_is = is;
      state = state;
      text_is = line ∙ ap (λ bytes. bytes ++ told_line told) kept;
    }

-- what stands behind a reply, by what was remembered of it
pub told_state : (told : Reply) (old : Giving) (refused failed : Bool) → refused ≡ (old.has_refused || is_refusal told) → failed ≡ (old.has_failed || is_failure told)
    → record { issuing = old.issuing; issuer = old.issuer; has_refused = refused; has_failed = failed } ≡ told_of told old
told_state told old refused failed r f =
    ap (λ (x : Bool). new_with x failed) r ∙ ap (λ (x : Bool). new_with (old.has_refused || is_refusal told) x) f
  where
    new_with : Bool → Bool → Giving
    new_with x y = record { issuing = old.issuing; issuer = old.issuer; has_refused = x; has_failed = y }

-- ---- disks that failed
-- where a disk failed a command, the history has ended so
pub failure_ends : (base : Position) (given : Given) (told : Reply) (before behind : List Event) (pass back : Passing) → Says base given told before behind pass back → is_failure told ≡ true → is_some (failed_of behind) ≡ true
failure_ends base given (reply.Accepted number) before behind pass back s h = absurd (cc)
failure_ends base given (reply.Refused number why) before behind pass back s h = absurd (cc)
failure_ends base given (reply.Halted number) before behind pass back s h = ap (λ (e : List Event). is_some (failed_of e)) s.same ∙ s.ended
failure_ends base given (reply.DiskFault number) before behind pass back s h = ap (λ (e : List Event). is_some (failed_of e)) s.ended ∙ ap (λ (o : Option Accepted). is_some o) (failed_push before (Some s.entry) s.goes_on)
failure_ends base given reply.NoMemory before behind pass back s h = absurd (cc)

pub marked_ends : (events : List Event) → is_some (failed_of events) ≡ true → is_ended events ≡ true
marked_ends [] h = absurd (cc)
marked_ends (Added entry ∷ events) h = marked_ends events h
marked_ends (Ended doubt ∷ events) h = refl

-- and stays so
pub stays_marked : (earlier later : List Event) → Extends earlier later → is_some (failed_of earlier) ≡ true → is_some (failed_of later) ≡ true
stays_marked earlier later more h = ap (λ (e : List Event). is_some (failed_of e)) (more.whole (marked_ends earlier h)) ∙ h

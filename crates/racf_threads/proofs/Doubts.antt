-- A command that a disk failed is in doubt, and stays so.
use Rattle.std.proofs.Common.{◌≡◌, ℕ, List, [], ◌∷◌, ◌++◌, Some, refl, sym, ◌∙◌, ap, subst, append-nil}
use Rattle.std.specs.Prelude.{Option, is_some}
use Rattle.desk_rules.specs.Position.{Position}
use Rattle.desk_rules.specs.declared.answers.Reply.{Reply}
use Rattle.desk_rules.specs.declared.answers.Reply.TheVariants as reply
use Rattle.command_history.specs.declared.events.Accepted.{Accepted}
use Rattle.command_history.specs.declared.events.Event.{Event}
use Rattle.command_history.specs.declared.events.Event.TheVariants.{Added, Ended}
use Rattle.command_history.specs.Events.{failed_of, Extends}
use Rattle.command_history.proofs.Extensions.{extends_push}
use Rattle.command_history.proofs.Marks.{failed_push}
use Rattle.racroute.specs.Core.{Passing}
use Rattle.racroute.specs.Replies.{Given, Says}
use Rattle.racf_workers.specs.Deck.{Turn}
use Rattle.racf_workers.proofs.DeckLaws.{marked_ends}
use Rattle.racf_threads.specs.Outputs.{IsDoubted, AreDoubted}

stays_itself : (events : List Event) → Extends events events
stays_itself events = record { prefix = ([], append-nil events); whole = λ ended. refl }

same_extends : (before behind : List Event) → behind ≡ before → Extends before behind
same_extends before behind same = subst (λ (l : List Event). Extends before l) (sym same) (stays_itself before)

-- what a command is told stands behind what was there before
pub says_extends : (base : Position) (given : Given) (told : Reply) (before behind : List Event) (pass back : Passing) → Says base given told before behind pass back → Extends before behind
says_extends base given (reply.Accepted number) before behind pass back s =
    subst (λ (l : List Event). Extends before l) (sym s.added) (extends_push before (Added s.entry) s.goes_on)
says_extends base given (reply.Refused number why) before behind pass back s = same_extends before behind s.same
says_extends base given (reply.Halted number) before behind pass back s = same_extends before behind s.same
says_extends base given (reply.DiskFault number) before behind pass back s =
    subst (λ (l : List Event). Extends before l) (sym s.ended) (extends_push before (Ended (Some s.entry)) s.goes_on)
says_extends base given reply.NoMemory before behind pass back s = same_extends before behind s.same

module _ (deck : ℕ) where
  -- a command that a disk failed is in doubt where it was told so
  pub told_doubted : (base : Position) (given : Given) (told : Reply) (before behind : List Event) (pass back : Passing) → pass.deck ≡ deck → Says base given told before behind pass back
      → IsDoubted deck behind told before behind
  told_doubted base given (reply.Accepted number) before behind pass back own s = tt
  told_doubted base given (reply.Refused number why) before behind pass back own s = tt
  told_doubted base given (reply.Halted number) before behind pass back own s = tt
  told_doubted base given (reply.DiskFault number) before behind pass back own s =
      (s.entry, s.entry_is.deck_is ∙ own, s.ended, ap failed_of s.ended ∙ failed_push before (Some s.entry) s.goes_on)
  told_doubted base given reply.NoMemory before behind pass back own s = tt

  -- and stays so in each list that extends it
  one_later : (seen later : List Event) → Extends seen later → (told : Reply) (before behind : List Event) → IsDoubted deck seen told before behind → IsDoubted deck later told before behind
  one_later seen later more (reply.Accepted number) before behind d = tt
  one_later seen later more (reply.Refused number why) before behind d = tt
  one_later seen later more (reply.Halted number) before behind d = tt
  one_later seen later more (reply.DiskFault number) before behind d =
      let whole : later ≡ seen = more.whole (marked_ends seen (ap (λ (o : Option Accepted). is_some o) d.3)) in
      (d.0, d.1, d.2, ap failed_of whole ∙ d.3)
  one_later seen later more reply.NoMemory before behind d = tt

  pub doubted_later : (seen later : List Event) → Extends seen later → (turns : List Turn) → AreDoubted deck seen turns → AreDoubted deck later turns
  doubted_later seen later more [] all = tt
  doubted_later seen later more (turn ∷ turns) all =
      (one_later seen later more turn.met.reply turn.met.before turn.met.behind all.0, doubted_later seen later more turns all.1)

  pub doubted_push : (seen : List Event) (turns : List Turn) (turn : Turn) → AreDoubted deck seen turns → IsDoubted deck seen turn.met.reply turn.met.before turn.met.behind
      → AreDoubted deck seen (turns ++ turn ∷ [])
  doubted_push seen [] turn all one = (one, tt)
  doubted_push seen (first ∷ turns) turn all one = (all.0, doubted_push seen turns turn all.1 one)

-- Worked rows of decks' entries, of what their commands made, and of statuses, computed on the definitions.
use Rattle.std.proofs.Common.{◌≡◌, ℕ, true, List, [], ◌∷◌, refl}
use Rattle.std.specs.Prelude.{Some, None, codes}
use Rattle.command_fields.specs.declared.issuer.Issuer.{Issuer}
use Rattle.desk_rules.specs.declared.refusal.Refusal.{Refusal}
use Rattle.desk_rules.specs.declared.answers.Reply.{Reply}
use Rattle.desk_rules.specs.declared.answers.Reply.TheVariants as reply
use Rattle.command_history.specs.declared.events.Accepted.{Accepted}
use Rattle.command_history.specs.declared.events.Event.{Event}
use Rattle.command_history.specs.declared.events.Event.TheVariants.{Added, Ended}
use Rattle.racroute.specs.Replies.{given_by}
use Rattle.statements.specs.declared.status.Status.TheVariants.{Done, Refusals, ReadFault, WriteFault, DiskFault, NoMemory, InputTooLong}
use Rattle.racf_workers.specs.Deck.{Turn}
use Rattle.racf_threads.specs.Outputs.{entries_by, made_in, faults_in, new_pass}
use Rattle.racf_threads.specs.Together.{greatest}

abbrev turn : Reply → List Event → Turn
turn told behind = record {
  given = given_by (codes "IBMUSER") None (codes "DELUSER A");
  seen = [];
  pass = new_pass 0;
  met = record { reply = told; before = []; behind = behind };
}

module _ (issuer : Issuer) (why : Refusal) where
  abbrev entry : ℕ → List ℕ → Accepted
  entry deck text = record { deck = deck; issuer = issuer; text = text }

  -- The entries of three decks, the second of which has two, in their order.
  abbrev four : List Accepted
  four =
      entry 0 (codes "DELUSER A") ∷ entry 1 (codes "DELUSER B") ∷ entry 2 (codes "DELUSER C") ∷ entry 1 (codes "DELUSER D") ∷ []

  of_first : entries_by 0 four ≡ entry 0 (codes "DELUSER A") ∷ []
  of_first = refl

  of_second : entries_by 1 four ≡ entry 1 (codes "DELUSER B") ∷ entry 1 (codes "DELUSER D") ∷ []
  of_second = refl

  of_fourth : entries_by 3 four ≡ []
  of_fourth = refl

  -- A deck's command is accepted behind another deck's, one is refused, a disk fails the next one, and the last one is
  -- told so: one entry was made, the last of those that stood there then, and one line says DISKFAULT.
  abbrev turns : List Turn
  turns =
      turn (reply.Accepted 2) (Added (entry 0 (codes "DELUSER A")) ∷ Added (entry 1 (codes "DELUSER B")) ∷ [])
      ∷ turn (reply.Refused 2 why) (Added (entry 0 (codes "DELUSER A")) ∷ Added (entry 1 (codes "DELUSER B")) ∷ [])
      ∷ turn (reply.DiskFault 2) (Added (entry 0 (codes "DELUSER A")) ∷ Added (entry 1 (codes "DELUSER B")) ∷ Ended (Some (entry 1 (codes "DELUSER E"))) ∷ [])
      ∷ turn (reply.Halted 2) (Added (entry 0 (codes "DELUSER A")) ∷ Added (entry 1 (codes "DELUSER B")) ∷ Ended (Some (entry 1 (codes "DELUSER E"))) ∷ [])
      ∷ []

  made : made_in turns ≡ entry 1 (codes "DELUSER B") ∷ []
  made = refl

  failed : faults_in turns ≡ 1
  failed = refl

-- of statuses the one with the greatest code, wherever it stands
of_none : greatest [] ≡ Done
of_none = refl

of_three : greatest (Done ∷ Refusals ∷ Done ∷ []) ≡ Refusals
of_three = refl

of_faults : greatest (WriteFault ∷ DiskFault ∷ ReadFault ∷ []) ≡ DiskFault
of_faults = refl

of_ends : greatest (InputTooLong ∷ NoMemory ∷ Refusals ∷ []) ≡ InputTooLong
of_ends = refl

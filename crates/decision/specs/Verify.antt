-- VERIFY: the checks of the user and of his connection, then of his port of entry, of his application and of his label.
use Rattle.std.specs.Prelude.{◌≡◌, ℕ, ◌==◌, Bool, false, not, ◌&&◌, ◌||◌, is_some, List, Option, Some, None, Result, Ok, Err, codes, if◌then◌else◌}
use Rattle.std.specs.Option.{option_map_or}
use Rattle.access_levels.specs.declared.entries.Condition.{Condition}
use Rattle.access_levels.specs.declared.levels.Level.TheVariants.{Read}
use Rattle.access_levels.specs.Level.{port_class_name}
use Rattle.generic_names.specs.declared.kind.NameKind.TheVariants.{General}
use Rattle.racf_profiles.specs.State.{State}
use Rattle.acee.specs.declared.acee.Acee.{Acee}
use Rattle.acee.specs.declared.request.VerifyRequest.{VerifyRequest}
use Rattle.acee.specs.declared.request.VerifyFault.{VerifyFault}
use Rattle.acee.specs.declared.request.VerifyFault.TheVariants.{Port, Application, Label, NoMemory}
use Rattle.acee.specs.Verify.{acee_of, acee_unless, is_active}
use Rattle.decision.specs.Classification.{label_profile}
use Rattle.decision.specs.Table.{decided}

module _ (state : State) (generation : ℕ) where
  -- A resource is refused to the user where a request for READ gets the code 8.
  abbrev pub is_refused : Acee → (class name : List ℕ) → Bool
  is_refused acee class name = (decided state generation acee class (record { kind = General; text = name }) Read).rc == 8

  abbrev pub is_port_refused : Acee → Option Condition → Bool
  is_port_refused acee port = option_map_or (λ (port : Condition). is_refused acee (port_class_name port.class) port.name) port false

  abbrev pub is_application_refused : Acee → Option (List ℕ) → Bool
  is_application_refused acee application = option_map_or (λ name. is_refused acee (codes "APPL") name) application false

  abbrev pub is_label_refused : Acee → Option (List ℕ) → Bool
  is_label_refused acee label = option_map_or (λ name. is_refused acee (codes "SECLABEL") name) label false

  -- A label that is named needs a profile, while class SECLABEL is active.
  abbrev pub is_unknown_label : Option (List ℕ) → Bool
  is_unknown_label named = option_map_or (λ name. is_active (codes "SECLABEL") state.rows && not (is_some (label_profile state name))) named false

  -- The port of entry is asked in its class, then the application in class APPL and the ACEE's label in class SECLABEL,
  -- each with the whole ACEE.
  abbrev pub entry_fault : Acee → (named : Option (List ℕ)) → Option VerifyFault
  entry_fault acee named =
      if is_port_refused acee acee.port then Some Port
      else if is_application_refused acee acee.application then Some Application
      else if is_label_refused acee acee.label || is_unknown_label named then Some Label
      else None

  abbrev pub admitted : (named : Option (List ℕ)) → Result Acee VerifyFault → Result Acee VerifyFault
  admitted named (Err fault) = Err fault
  admitted named (Ok acee) = acee_unless (entry_fault acee named) acee

  unfoldable pub verified : VerifyRequest → Result Acee VerifyFault
  verified request = admitted request.label (acee_of state generation request)

  -- What is answered is what is told, but that memory may be wanting for the ACEE of a user whose first checks pass. Want
  -- of memory may be told in place of any answer for him: no clause says when there is enough, and tests alone show that
  -- it isn't told then.
  abbrev pub IsVerified : VerifyRequest → Result Acee VerifyFault → Type 0
  IsVerified request (Ok acee) = verified request ≡ Ok acee
  IsVerified request (Err NoMemory) = (acee : Acee) × (acee_of state generation request ≡ Ok acee)
  IsVerified request (Err fault) = verified request ≡ Err fault

-- A worked row: lines worked one after another on a new database.
use Rattle.std.proofs.Common.{◌≡◌, ℕ, List, [], ◌∷◌, ◌++◌, refl, codes, decimal}
use Rattle.std.specs.Fmt.{digits}
use Rattle.racf_profiles.specs.NewDatabase.{new_database}
use Rattle.racf_profiles.specs.State.{restart}
use Rattle.raclist_image.specs.Imaged.{Imaged}
use Rattle.global_table.specs.Grants.{granted}
use Rattle.acee.specs.Verify.{acee_of}
use Rattle.decision.specs.Classification.{classified}
use Rattle.decision.specs.Table.{decided, fast_decided}
use Rattle.decision.specs.Verify.{verified}
use Rattle.audit_records.specs.Logged.{logged}
use Rattle.audit_records.specs.Line.{audit_line}
use Rattle.request_files.specs.declared.acees.NamedAcee.{NamedAcee}
use Rattle.command_words.specs.LineWords.{words_at}
use Rattle.request_files.specs.Grammar.{next, deleted, number_after, asked_by, verified_by, requested, read}
use Rattle.request_files.specs.Answers.{answer_line, numbered, never_line}
use Rattle.request_files.specs.Worked.{audited, worked}

on_new : Imaged
on_new = record { state = restart new_database; generation = 0 }

-- the texts of lines, the first on these ACEEs
abbrev texts : Imaged → List NamedAcee → List (List ℕ) → List (List ℕ)
texts image acees [] = []
texts image acees (line ∷ lines) = (worked image acees (read line)).text ∷ texts image (worked image acees (read line)).acees lines

life_of_an_acee : texts on_new [] (
    codes "AUTH A FACILITY X READ"
    ∷ codes "VERIFY A NOBODY"
    ∷ codes "VERIFY A IBMUSER"
    ∷ codes "VERIFY A IBMUSER"
    ∷ codes "AUTH A DATASET A..B READ"
    ∷ codes "AUTH A DATASET SYS1.A EXECUTE"
    ∷ codes "AUTH A DATASET SYS1.A READ"
    ∷ codes "FASTAUTH A DATASET SYS1.A READ"
    ∷ codes "FASTAUTH B DATASET SYS1.A READ"
    ∷ codes "DELETE A"
    ∷ codes "AUTH A DATASET A..B READ"
    ∷ codes "*AFTER 0"
    ∷ codes "*AFTER 1" ∷ [])
    ≡ numbered 0 (codes "REFUSED NOACEE A")
    ∷ numbered 0 (codes "4 NOTDEFINED")
    ∷ numbered 0 (codes "0 VERIFIED")
    ∷ numbered 0 (codes "REFUSED ACEEEXISTS A")
    ∷ numbered 0 (codes "REFUSED BADNAME EMPTYQUALIFIER " ++ decimal 2)
    ∷ numbered 0 (codes "REFUSED BADLINE " ++ decimal 23)
    ∷ numbered 0 (decimal 4 ++ codes " " ++ codes "NOPROFILE")
    ∷ numbered 0 (decimal 4 ++ codes " " ++ codes "NOTLISTED")
    ∷ numbered 0 (codes "REFUSED NOACEE B")
    ∷ numbered 0 (codes "0 DELETED")
    ∷ numbered 0 (codes "REFUSED NOACEE A")
    ∷ []
    ∷ never_line 0
    ∷ []
unfolding digits on_new decided fast_decided verified acee_of words_at next deleted number_after asked_by verified_by requested read answer_line classified granted audited logged audit_line
life_of_an_acee = refl

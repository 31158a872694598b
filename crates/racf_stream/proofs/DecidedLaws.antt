-- The lines of AUTH, FASTAUTH and VERIFY, by what is decided.
use Rattle.std.proofs.Common.{◌≡◌, ℕ, List, None, Some, Ok, ◌∙◌, ap}
use Rattle.std.specs.Prelude.{Option, Result, true, false}
use Rattle.acee.specs.declared.acee.Acee.{Acee}
use Rattle.acee.specs.declared.request.VerifyRequest.{VerifyRequest}
use Rattle.decision.specs.Table.{decided, fast_decided}
use Rattle.decision.specs.Verify.{verified}
use Rattle.request_files.specs.declared.line.LineRefusal.{LineRefusal}
use Rattle.request_files.specs.Acees.{acee_named, put_refusal}
use Rattle.request_files.specs.Grammar.{Access, Line, Auth, Fastauth, Verify, read}
use Rattle.request_files.specs.Worked.{decision_text, answer_for, auth_for, fastauth_for, verify_told, verify_unless}
use Rattle.statements.specs.declared.statement.Statement.TheVariants as item
use Rattle.racf_stream.specs.Stream as s
use Rattle.racf_stream.specs.Stream.{State, number_of}

-- A request's text is that of what its line is read as, wherever a disk fails a command.
request_as : (fault : Option ℕ) (r : Result Line LineRefusal) (line : List ℕ) (before : State) → read line ≡ r → s.text fault (item.Request line) before ≡ (s.answer_line r before).text
unfolding s.text s.request
request_as fault r line before h =
    ap (λ (x : Result Line LineRefusal). (s.answer_line x before).text) h

pub auth_text : (fault : Option ℕ) (line acee : List ℕ) (access : Access) (user : Acee) (before : State) → read line ≡ Ok (Auth acee access) → acee_named acee before.acees ≡ Some user
    → s.text fault (item.Request line) before ≡ decision_text before.position.image false access user (decided before.position.image.state (number_of before) user access.class access.name access.asked)
auth_text fault line acee access user before h found =
    request_as fault (Ok (Auth acee access)) line before h
    ∙ ap (λ (x : Option Acee). (answer_for before.position.image before.acees acee (auth_for before.position.image before.acees access) x).text) found

pub fastauth_text : (fault : Option ℕ) (line acee : List ℕ) (access : Access) (user : Acee) (before : State) → read line ≡ Ok (Fastauth acee access) → acee_named acee before.acees ≡ Some user
    → s.text fault (item.Request line) before ≡ decision_text before.position.image true access user (fast_decided before.position.image.state (number_of before) user access.class access.name access.asked)
fastauth_text fault line acee access user before h found =
    request_as fault (Ok (Fastauth acee access)) line before h
    ∙ ap (λ (x : Option Acee). (answer_for before.position.image before.acees acee (fastauth_for before.position.image before.acees access) x).text) found

pub verify_text : (fault : Option ℕ) (line acee : List ℕ) (asked : VerifyRequest) (before : State) → read line ≡ Ok (Verify acee asked) → put_refusal acee before.acees ≡ None
    → s.text fault (item.Request line) before ≡ (verify_told before.position.image before.acees acee (verified before.position.image.state (number_of before) asked)).text
verify_text fault line acee asked before h free =
    request_as fault (Ok (Verify acee asked)) line before h
    ∙ ap (λ (x : Option LineRefusal). (verify_unless before.position.image before.acees acee asked x).text) free

use Rattle.std.proofs.Common.{◌∙◌, ap}
use Rattle.racf_stream.specs.Stream.{text}
use Rattle.racf_stream.proofs.DecidedLaws.{auth_text, fastauth_text, verify_text}
use Rattle.racf_stream.proofs.laws.requests_are_decided.Goals as goal

pub returns-clause-auth : goal.returns-clause-auth
returns-clause-auth c =
    λ turn line acee access user is reads found. ap (λ item. text turn.fault item turn.before) is ∙ auth_text turn.fault line acee access user turn.before reads found

pub returns-clause-fastauth : goal.returns-clause-fastauth
returns-clause-fastauth c =
    λ turn line acee access user is reads found. ap (λ item. text turn.fault item turn.before) is ∙ fastauth_text turn.fault line acee access user turn.before reads found

pub returns-clause-verify : goal.returns-clause-verify
returns-clause-verify c =
    λ turn line acee asked is reads free. ap (λ item. text turn.fault item turn.before) is ∙ verify_text turn.fault line acee asked turn.before reads free

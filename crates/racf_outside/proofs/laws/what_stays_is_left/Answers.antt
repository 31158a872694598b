use Rattle.std.specs.Prelude.{◌≡◌, true}
use Rattle.racf_outside.proofs.SinceLaws.{Stays-left, StaysIn-left}
use Rattle.racf_outside.proofs.laws.what_stays_is_left.Goals as goal

pub returns-clause-stays : goal.returns-clause-stays
returns-clause-stays c = λ test. Stays-left (λ image. test image ≡ true)

pub returns-clause-told : goal.returns-clause-told
returns-clause-told c = λ test. StaysIn-left (λ image. test image ≡ true)

use Rattle.std.proofs.Common.{◌≡◌, ℕ, List, refl, sym, ap, subst}
use Rattle.std.specs.Prelude.{Option}
use Rattle.racf_outside.specs.Causes.{Rose}
use Rattle.racf_outside.specs.Reader.{Reader}
use Rattle.statements.specs.declared.status.Status.TheVariants as status
use Rattle.statements.specs.Runs.{Ran}
use Rattle.statements.proofs.RunLaws.{ran_too_long}
use Rattle.statements.proofs.Walk.{none_read, Ran-causes}
use Rattle.racf_ask.specs.Asking.{asking}
use Rattle.racf_ask.proofs.AskWalk.{Nothing}
use Rattle.racf_ask.proofs.AskEnds.{written_whole, not_longer, never, with_image}
use Rattle.racf_ask.proofs.asking.ask.Goals as goal

-- there was no memory for the reader
pub returns-in-Err-clause-ran : goal.returns-in-Err-clause-ran
returns-in-Err-clause-ran g c = λ base same. none_read (asking c.args.numbered base) Nothing _ _ _ _ _ tt

-- nor for the ACEEs
pub returns-in-Err-new-clause-ran : goal.returns-in-Err-new-clause-ran
returns-in-Err-new-clause-ran g c = λ base same. none_read (asking c.args.numbered base) Nothing _ _ _ _ _ tt

-- the lines were answered
rose_as : (a b c d : ℕ) → a ≡ c → b ≡ d → Rose a b → Rose c d
rose_as a b c d p q rose = subst (λ (n : ℕ). Rose n d) p (subst (λ (n : ℕ). Rose a n) q rose)

pub returns-in-Ok-new-clause-ran : goal.returns-in-Ok-new-clause-ran
returns-in-Ok-new-clause-ran g c =
    λ base same.
    let m = asking c.args.numbered base in
    let read = Rose c.in-Ok.lines.faults c.run-status.new.lines.faults in
    let wrote = Rose (g.O.Sink.faults c.args.sink.now) (g.O.Sink.faults c.run-status.new.sink) in
    Ran-causes m Nothing read (Rose (g.S.Source.faults c.args.source) (g.S.Source.faults c.into_source-in-Ok-new.result)) wrote wrote c.run-status.result _ _ _ _
    (rose_as _ _ _ _ (ap (λ (r : Reader). r.faults) c.in-Ok.ensures.start) (sym c.into_source-in-Ok-new.ensures.faults)) (λ why. why)
    (subst (λ (known : Option (List ℕ)). Ran m Nothing read wrote c.run-status.result known (g.S.Source.left c.into_source-in-Ok-new.result) (g.O.Sink.taken c.args.sink.now) (g.O.Sink.taken c.run-status.new.sink)) (ap (λ (r : Reader). r.left) c.in-Ok.ensures.start)
    (subst (λ (known : Option (List ℕ)). Ran m Nothing read wrote c.run-status.result c.in-Ok.lines.left known (g.O.Sink.taken c.args.sink.now) (g.O.Sink.taken c.run-status.new.sink)) (sym c.into_source-in-Ok-new.ensures.left)
    (c.run-status.ensures.ran base same)))

pub returns-in-Ok-new-clause-whole : goal.returns-in-Ok-new-clause-whole
returns-in-Ok-new-clause-whole g c = λ base same is. written_whole c.args.numbered base _ _ _ _ _ _ c.run-status.result is (returns-in-Ok-new-clause-ran g c base same)

-- no other status comes
pub returns-in-Ok-new-clause-no_other : goal.returns-in-Ok-new-clause-no_other
returns-in-Ok-new-clause-no_other g c =
    let ran = returns-in-Ok-new-clause-ran g c (with_image c.args.image.now) refl in
    let base = with_image c.args.image.now in (
      λ is. (never c.args.numbered base _ _ _ _ _ _ c.run-status.result status.Usage ran is).wrote,
      λ is. (never c.args.numbered base _ _ _ _ _ _ c.run-status.result status.NotFormatted ran is).wrote,
      c.run-status.ensures.disk_fault,
    )

pub returns-in-Ok-new-clause-undamaged : goal.returns-in-Ok-new-clause-undamaged
returns-in-Ok-new-clause-undamaged g c =
    λ place is.
    let ran = returns-in-Ok-new-clause-ran g c (with_image c.args.image.now) refl in
    (never c.args.numbered (with_image c.args.image.now) _ _ _ _ _ _ c.run-status.result (status.Damaged place) ran is).wrote

pub returns-in-Ok-new-clause-too_long : goal.returns-in-Ok-new-clause-too_long
returns-in-Ok-new-clause-too_long g c =
    ran_too_long (asking c.args.numbered (with_image c.args.image.now)) Nothing _ _ c.run-status.result _ _ _ _ (returns-in-Ok-new-clause-ran g c (with_image c.args.image.now) refl)

pub returns-in-Ok-new-clause-not_too_long : goal.returns-in-Ok-new-clause-not_too_long
returns-in-Ok-new-clause-not_too_long g c =
    λ is. not_longer c.args.numbered (with_image c.args.image.now) _ _ _ _ _ _ c.run-status.result is (returns-in-Ok-new-clause-ran g c (with_image c.args.image.now) refl)

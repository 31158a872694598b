use Rattle.std.proofs.Common.{◌+◌, ◌-◌, ◌<◌, ◌≡◌, ◌∙◌, length, take, arith, ap, sym, refl, ◌^◌, ◌++◌}
use Rattle.std.specs.Prelude.{slice_index}
use Rattle.std.proofs.lemmas.List.{length-take, length-take-le}
use Rattle.racf_outside.specs.Reader.{has_feed}
use Rattle.racf_outside.proofs.HeldLaws.{none_in, empty_is_nil, held_behind, block_kept, ready_kept}
use Rattle.racf_outside.proofs.ScanLaws.{some_ready, takes_too_far, takes_to_feed, takes_window}
use Rattle.racf_outside.proofs.scanner.Scanner.piece.Goals as goal

-- one byte more stands behind the first 2^28
pub returns-then-self-eq-LIMIT-clause-taken : goal.returns-then-self-eq-LIMIT-clause-taken
returns-then-self-eq-LIMIT-clause-taken g c =
    rw (← c.self.view_is) (
      slice_index c.fill.new.self.ready 0,
      record {
        taken = sym c.in-Ok.ensures.unread ∙ takes_too_far c.fill.new.self c.pass.new.self (some_ready c.ready-ready.result.now c.fill.new.self.ready c.is_empty.result c.is_empty.ensures c.if-is_empty.false c.ready-ready.ensures) c.pass.ensures.ready c.pass.ensures.left;
        limit = c.if-self-eq-LIMIT.true;
        counted = refl;
        goes_on = ap (λ v. v.ended) c.self.view_is ∙ c.requires.going;
      },
    )

-- the line feed is the first of the window
pub returns-in-Some-clause-taken : goal.returns-in-Some-clause-taken
returns-in-Some-clause-taken g c =
    let first = c.in-Some.ensures.some in
    let within : c.in-Some.at < length c.front-window.result.now = first.within in
    let size : length (take c.in-Some.at c.front-window.result.now) ≡ c.in-Some.at = length-take-le c.in-Some.at c.front-window.result.now (omega (arith, within)) in
    rw (← c.self.view_is) (
      take c.in-Some.at c.front-window.result.now,
      record {
        no_feed = first.none_before;
        taken = sym c.in-Ok.ensures.unread ∙ takes_to_feed (2 ^ 28 - c.self.inside.passed) c.in-Some.at c.front-window.result.now c.fill.new.self c.pass-in-Some.new.self (c.front-window.ensures ∙ ap (take (2 ^ 28 - c.self.inside.passed)) c.ready-ready.ensures) first c.pass-in-Some.ensures.ready c.pass-in-Some.ensures.left;
        counted = omega (arith, size);
        goes_on = ap (λ v. v.ended) c.self.view_is ∙ c.requires.going;
        text = c.append.ensures.text ∙ ap (λ piece. take 4096 (c.args.line.now.text ++ piece)) c.front.ensures;
        size = c.append.ensures.size ∙ ap (λ piece. c.args.line.now.size + length piece) c.front.ensures;
      },
    )

-- the whole window is a piece of the line
pub returns-in-None-clause-taken : goal.returns-in-None-clause-taken
returns-in-None-clause-taken g c =
    let window : c.front-window.result.now ≡ take (2 ^ 28 - c.self.inside.passed) c.fill.new.self.ready = c.front-window.ensures ∙ ap (take (2 ^ 28 - c.self.inside.passed)) c.ready-ready.ensures in
    let some : 0 < length c.fill.new.self.ready = some_ready c.ready-ready.result.now c.fill.new.self.ready c.is_empty.result c.is_empty.ensures c.if-is_empty.false c.ready-ready.ensures in
    rw (← c.self.view_is) (
      c.front-window.result.now,
      record {
        no_feed = c.in-None.ensures.none;
        some = omega (arith, some, c.self.invariant.0, c.if-self-eq-LIMIT.false, ap length window, length-take (2 ^ 28 - c.self.inside.passed) c.fill.new.self.ready);
        taken = sym c.in-Ok.ensures.unread ∙ takes_window (2 ^ 28 - c.self.inside.passed) c.front-window.result.now c.fill.new.self c.pass-in-None.new.self window c.pass-in-None.ensures.ready c.pass-in-None.ensures.left;
        counted = refl;
        goes_on = ap (λ v. v.ended) c.self.view_is ∙ c.requires.going;
        text = c.append-in-None.ensures.text;
        size = c.append-in-None.ensures.size;
      },
    )

-- nothing was at hand
pub returns-in-Err-clause-held : goal.returns-in-Err-clause-held
returns-in-Err-clause-held g c = rw (← c.self.view_is) (λ h. absurd (none_in c.self.inside.blocks.ready c.in-Err.ensures.nothing_ready.0 h))

pub returns-then-is_empty-clause-held : goal.returns-then-is_empty-clause-held
returns-then-is_empty-clause-held g c =
    rw (← c.self.view_is) (λ h.
    absurd (none_in c.fill.new.self.ready (sym c.ready-ready.ensures ∙ empty_is_nil c.ready-ready.result.now c.is_empty.result c.is_empty.ensures c.if-is_empty.true) (ready_kept c.self.inside.blocks c.fill.new.self c.fill.ensures.at_hand h)))

-- what was at hand was passed
pub returns-then-self-eq-LIMIT-clause-held : goal.returns-then-self-eq-LIMIT-clause-held
returns-then-self-eq-LIMIT-clause-held g c =
    rw (← c.self.view_is) (λ h.
    let kept = block_kept c.self.inside.blocks c.fill.new.self c.pass.new.self c.fill.ensures.at_hand h c.pass.ensures.left c.pass.ensures.faults in
    record { left = kept.0; faults = kept.1 })

pub returns-in-Some-clause-held : goal.returns-in-Some-clause-held
returns-in-Some-clause-held g c =
    rw (← c.self.view_is) (λ h.
    let kept = block_kept c.self.inside.blocks c.fill.new.self c.pass-in-Some.new.self c.fill.ensures.at_hand h c.pass-in-Some.ensures.left c.pass-in-Some.ensures.faults in
    record { left = kept.0; faults = kept.1 })

pub returns-in-None-clause-held : goal.returns-in-None-clause-held
returns-in-None-clause-held g c =
    rw (← c.self.view_is) (λ h.
    let kept = block_kept c.self.inside.blocks c.fill.new.self c.pass-in-None.new.self c.fill.ensures.at_hand h c.pass-in-None.ensures.left c.pass-in-None.ensures.faults in
    record { left = kept.0; faults = kept.1 })

-- the line's end is behind the window
pub returns-in-None-clause-holds : goal.returns-in-None-clause-holds
returns-in-None-clause-holds g c =
    let window : c.front-window.result.now ≡ take (2 ^ 28 - c.self.inside.passed) c.fill.new.self.ready = c.front-window.ensures ∙ ap (take (2 ^ 28 - c.self.inside.passed)) c.ready-ready.ensures in
    rw (← c.self.view_is) (λ more h.
    ap has_feed c.pass-in-None.ensures.ready
    ∙ held_behind (2 ^ 28 - c.self.inside.passed) c.front-window.result.now c.fill.new.self.ready window c.in-None.ensures.none (ready_kept c.self.inside.blocks c.fill.new.self c.fill.ensures.at_hand h))

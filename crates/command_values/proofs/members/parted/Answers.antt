use Rattle.std.proofs.Common.{◌≡◌, ℕ, ◌+◌, ◌-◌, ◌<◌, length, drop, None, arith}
use Rattle.command_values.specs.Members.{parted as parts_of}
use Rattle.command_values.proofs.MemberParts.{parted-at}
use Rattle.command_values.proofs.members.parted.Goals as goal

pub returns-then-word-end-eq47 : goal.returns-then-word-end-eq47
returns-then-word-end-eq47 c =
    let k : ℕ = c.loop-end.end - 1 in
    let next : k + 1 ≡ c.loop-end.end = omega (arith, c.loop-end-test.true) in
    let within : k < length c.args.word.now = omega (arith, c.loop-end-test.true, c.loop-end.invariant.within) in
    let none : parts_of (drop (k + 1) c.args.word.now) ≡ None = rw next c.loop-end.invariant.none in
    rw (c.split_at.ensures.front, c.split_at-then-word-end-eq47.ensures.back) (parted-at c.args.word.now k within c.if-word-end-eq47.true none)

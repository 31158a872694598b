use Rattle.std.proofs.Common.{◌≡◌, ◌<◌, get_or, length, arith}
use Rattle.generic_names.proofs.GapLaws.{none-past, none-end, none-byte}
use Rattle.generic_names.proofs.gap.least_that_follows.Goals as goal
use Rattle.generic_names.proofs.gap.least_that_follows.Goals.{then-at-name-2-via-then-at-name-2, then-at-name-2-via-else-at-name-2+then-name-at-eq46}

pub returns-then-at-name-clause-none : goal.returns-then-at-name-clause-none
returns-then-at-name-clause-none c k low high = none-past c.args.name.now c.args.begun c.args.at k c.if-at-name.true (λ e. omega (arith, c.max.ensures)) (λ e. omega (arith, c.max.ensures))

pub returns-then-rank-le257-clause-none : goal.returns-then-rank-le257-clause-none
returns-then-rank-le257-clause-none c k low high =
    let ends : c.args.at < length c.args.name.now → get_or c.args.name.now c.args.at 0 ≡ 46 = λ l.
    elim c.then-at-name-2.branch [
      | then-at-name-2-via-then-at-name-2 w ↦ absurd (omega arith)
      | then-at-name-2-via-else-at-name-2+then-name-at-eq46 w ↦ w.if-name-at-eq46.true
    ] in
    none-end c.args.name.now c.args.begun c.args.at k c.if-at-name.false ends (λ e. omega arith) (λ e. omega arith) (λ e. omega arith)

pub returns-then-rank-eq259-clause-none : goal.returns-then-rank-eq259-clause-none
returns-then-rank-eq259-clause-none c k low high =
    let ends : c.args.at < length c.args.name.now → get_or c.args.name.now c.args.at 0 ≡ 46 = λ l.
    elim c.then-at-name-2.branch [
      | then-at-name-2-via-then-at-name-2 w ↦ absurd (omega arith)
      | then-at-name-2-via-else-at-name-2+then-name-at-eq46 w ↦ w.if-name-at-eq46.true
    ] in
    none-end c.args.name.now c.args.begun c.args.at k c.if-at-name.false ends (λ e. omega arith) (λ e. omega arith) (λ e. omega arith)

pub returns-then-rank-byte-clause-none : goal.returns-then-rank-byte-clause-none
returns-then-rank-byte-clause-none c k low high =
    let byte : get_or c.args.name.now c.args.at 0 < 256 = omega (arith, c.type_inv.name c.args.at) in
    none-byte c.args.name.now c.args.begun c.args.at k (omega arith) c.if-name-at-eq46.false (λ e. omega (arith, c.from-byte.ensures)) (λ e. omega (arith, c.from-byte.ensures)) (λ e. omega (arith, c.from-byte.ensures)) (λ e. omega (arith, c.from-byte.ensures))

pub returns-then-rank-le256-clause-none : goal.returns-then-rank-le256-clause-none
returns-then-rank-le256-clause-none c k low high =
    none-byte c.args.name.now c.args.begun c.args.at k (omega arith) c.if-name-at-eq46.false (λ e. omega (arith, c.from-byte.ensures)) (λ e. omega arith) (λ e. omega arith) (λ e. omega arith)

pub returns-then-rank-le258-clause-none : goal.returns-then-rank-le258-clause-none
returns-then-rank-le258-clause-none c k low high =
    none-byte c.args.name.now c.args.begun c.args.at k (omega arith) c.if-name-at-eq46.false (λ e. omega (arith, c.from-byte.ensures)) (λ e. omega arith) (λ e. omega arith) (λ e. omega arith)

pub returns-else-rank-le258-clause-none : goal.returns-else-rank-le258-clause-none
returns-else-rank-le258-clause-none c k low high =
    none-byte c.args.name.now c.args.begun c.args.at k (omega arith) c.if-name-at-eq46.false (λ e. omega (arith, c.from-byte.ensures)) (λ e. omega arith) (λ e. omega arith) (λ e. omega arith)

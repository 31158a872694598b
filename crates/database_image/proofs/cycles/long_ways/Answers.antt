use Rattle.std.proofs.Common.{◌≡◌, ℕ, suc, ◌+◌, ◌*◌, ◌^◌, ap, ◌∙◌, arith, pow-suc}
use Rattle.std.proofs.lemmas.Nat.{pow_pos}
use Rattle.database_image.specs.Ways.{climbed}
use Rattle.database_image.proofs.cycles.long_ways.Goals as goal

twice : (n : ℕ) → 2 ^ n + 2 ^ n ≡ 2 ^ (n + 1)
twice n =
    let a : 2 ^ suc n ≡ 2 ^ n * 2 = pow-suc 2 n in
    let b : 2 ^ (n + 1) ≡ 2 ^ suc n = ap (λ k. 2 ^ k) (omega arith) in
    omega (arith, a, b)

pub loop-preserved : goal.loop-preserved
loop-preserved c = λ id.
    c.in_ok-ways-2.ensures (2 ^ c.loop.counter) (pow_pos c.loop.counter) c.loop.invariant id
    ∙ ap (λ n. climbed n c.args.groups.now id) (twice c.loop.counter)

pub returns : goal.returns
returns c = λ id.
    let all : c.loop.counter ≡ 13 = omega arith in
    c.loop.invariant id ∙ ap (λ n. climbed (2 ^ n) c.args.groups.now id) all

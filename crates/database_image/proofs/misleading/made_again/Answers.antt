use Rattle.std.proofs.Common.{◌≡◌, ℕ, ◌%◌, ◌^◌, ap, subst, ◌∙◌, arith, lit<}
use Rattle.std.specs.Prelude.{nat_lt, ◌==◌, ◌&&◌, ◌||◌}
use Rattle.std.proofs.Math.Nat.{mod-lt}
use Rattle.access_levels.specs.Category.{is_member}
use Rattle.database_image.proofs.Sets.{built, grown, low-member}
use Rattle.database_image.proofs.misleading.made_again.Goals as goal

pub loop-n-preserved : goal.loop-n-preserved
loop-n-preserved c = λ m.
    let n = c.loop-n.n in
    c.with_number-again.ensures m
    ∙ ap (λ is. (m == n && is) || is_member c.loop-n.again m) (low-member c.args.set.now n (omega arith))
    ∙ grown m n (c.args.set.now % 2 ^ 256) _ (c.loop-n.invariant m)

pub returns : goal.returns
returns c =
    let e : c.loop-n.n ≡ 256 = omega (arith, c.loop-n-test.false, c.loop-n.auto.n-end) in
    built c.loop-n.again (c.args.set.now % 2 ^ 256) (mod-lt c.args.set.now {m = 2 ^ 256} (lit< tt))
    (subst (λ (n : ℕ). (m : ℕ) → is_member c.loop-n.again m ≡ (nat_lt m n && is_member (c.args.set.now % 2 ^ 256) m)) e c.loop-n.invariant)

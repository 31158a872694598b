use Rattle.std.proofs.Common.{◌≡◌, ℕ, ◌<◌, ◌^◌, sym, subst, ◌∙◌, arith}
use Rattle.std.specs.Prelude.{nat_lt, ◌&&◌}
use Rattle.access_levels.specs.Category.{is_member}
use Rattle.byteorder.specs.Endian.{little_number}
use Rattle.database_image.proofs.Sets.{bounded, built, grown}
use Rattle.database_image.proofs.categories.set_in.Goals as goal

pub loop-n-preserved : goal.loop-n-preserved
loop-n-preserved c = λ m. c.with_bit-set.ensures m ∙ grown m c.loop-n.n (little_number 32 c.args.field.now) _ (c.loop-n.invariant m)

pub returns-clause-value : goal.returns-clause-value
returns-clause-value c =
    let e : c.loop-n.n ≡ 256 = omega (arith, c.loop-n-test.false, c.loop-n.auto.n-end) in
    built c.loop-n.set (little_number 32 c.args.field.now) (bounded c.args.field.now (λ k. omega (arith, c.type_inv.field k)))
    (subst (λ (n : ℕ). (m : ℕ) → is_member c.loop-n.set m ≡ (nat_lt m n && is_member (little_number 32 c.args.field.now) m)) e c.loop-n.invariant)

pub returns-clause-bounded : goal.returns-clause-bounded
returns-clause-bounded c =
    let e : c.loop-n.n ≡ 256 = omega (arith, c.loop-n-test.false, c.loop-n.auto.n-end) in
    let is : c.loop-n.set ≡ little_number 32 c.args.field.now = built c.loop-n.set (little_number 32 c.args.field.now) (bounded c.args.field.now (λ k. omega (arith, c.type_inv.field k)))
    (subst (λ (n : ℕ). (m : ℕ) → is_member c.loop-n.set m ≡ (nat_lt m n && is_member (little_number 32 c.args.field.now) m)) e c.loop-n.invariant) in
    subst (λ (x : ℕ). x < 2 ^ 256) (sym is) (bounded c.args.field.now (λ k. omega (arith, c.type_inv.field k)))

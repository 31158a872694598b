use Rattle.std.proofs.Common.{ℕ, ◌%◌, sym, ap, ◌∙◌, arith}
use Rattle.std.specs.Prelude.{slice_index, nat_eq}
use Rattle.std.specs.Int.{bit_at}
use Rattle.std.proofs.lemmas.Nat.Bits.{shr_and_one}
use Rattle.database_image.proofs.Sets.{member-of}
use Rattle.database_image.proofs.categories.has.Goals as goal

pub returns : goal.returns
returns c =
    ap (λ (x : ℕ). nat_eq x 1) (shr_and_one (slice_index c.args.field.now c.from.result) (c.args.n % 8))
    ∙ ap (λ (i : ℕ). nat_eq (bit_at (slice_index c.args.field.now i) (c.args.n % 8)) 1) c.from.ensures
    ∙ sym (member-of c.args.field.now c.args.n (λ k. omega (arith, c.type_inv.field k)) (omega (arith, c.ranges.n.fits)))

use Rattle.std.proofs.Common.{◌≤◌, ◌-◌, length, take, drop, arith}
use Rattle.racf_outside.proofs.Bytes.{read_front_bytes}
use Rattle.racf_generator.proofs.parts.Parts.read_front.Goals as goal

-- what is left of the part is what was there but for what was copied
pub returns-clause-bytes : goal.returns-clause-bytes
returns-clause-bytes c =
    let most : c.min-count.result ≤ length (take (length c.deref.result.now - c.self.inside.at) (drop c.self.inside.at c.deref.result.now)) = omega (arith, c.min-count.ensures) in
    rw (← c.self.view_is) (read_front_bytes c.self.inside.at c.min-count.result c.self.inside.text.items c.deref.result.now c.copy_from_slice.new.self (drop c.min-count.result c.args.into.now) c.deref.ensures.value c.copy_from_slice.ensures.after most)

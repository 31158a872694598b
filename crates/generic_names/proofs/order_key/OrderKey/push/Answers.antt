use Rattle.std.proofs.Common.{◌≡◌, ℕ, ◌+◌, ◌-◌, drop, replicate, ap, sym, ◌∙◌, arith, rules}
use Rattle.std.proofs.lemmas.List.{places, drop-set-lt, drop-drop, drop-replicate}
use Rattle.generic_names.proofs.order_key.OrderKey.push.Goals as goal

pub invariant_of-self : goal.invariant_of-self
invariant_of-self c =
    let was = c.self.inside in
    let left : 248 - was.length - 1 ≡ 248 - (was.length + 1) = omega arith in (
      search (rules, places),
      drop-set-lt (was.length + 1) was.bytes was.length c.squeezed.result (omega arith)
          ∙ sym (drop-drop 1 was.length was.bytes)
          ∙ ap (λ xs. drop 1 xs) c.self.invariant.1
          ∙ drop-replicate 1 (248 - was.length) 0
          ∙ ap (λ (k : ℕ). replicate k 0) left,
    )

use Rattle.std.proofs.Common.{◌≡◌, ℕ, ◌+◌, ◌-◌, ◌≤◌, length, drop, replicate, ap, sym, ◌∙◌, arith, rules}
use Rattle.std.proofs.lemmas.List.{places, drop-drop, drop-replicate}
use Rattle.std.proofs.lemmas.Slice.{drop-put_mid}
use Rattle.generic_names.proofs.spelling.Spelling.push.Goals as goal

pub invariant_of-self : goal.invariant_of-self
invariant_of-self c =
    let was = c.self.inside in
    let part = c.args.part.now in
    let low : was.length ≤ length was.bytes = c.self.invariant.0 in
    let same : length part ≡ was.length + length part - was.length = omega arith in
    let left : 246 - was.length - length part ≡ 246 - (was.length + length part) = omega arith in (
      search (rules, places),
      drop-put_mid was.length _ was.bytes _ (was.length + length part) (omega arith) low (ap length c.copy_from_slice.ensures.after ∙ same)
          ∙ sym (drop-drop (length part) was.length was.bytes)
          ∙ ap (λ xs. drop (length part) xs) c.self.invariant.1
          ∙ drop-replicate (length part) (246 - was.length) 0
          ∙ ap (λ (k : ℕ). replicate k 0) left,
    )

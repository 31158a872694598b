use Rattle.std.proofs.Common.{length, not, ap, arith}
use Rattle.std.specs.List.{flat_map}
use Rattle.pages.specs.Rising.{reaches}
use Rattle.std.proofs.lemmas.List.Sums.{prefix_len-le-length}
use Rattle.pages.proofs.pages.Pages.first_by_key.Goals as goal

pub returns-clause-within : goal.returns-clause-within
returns-clause-within g c =
    let size = prefix_len-le-length (λ x. not (reaches g.L.KeyedPart.key_of c.args.key.now x)) (flat_map (λ page. page) c.deref.result.now) in
    omega (arith, size, c.first_of.ensures, ap (λ ps. length (flat_map (λ page. page) ps)) c.deref.ensures.value, ap length c.self.view_is)

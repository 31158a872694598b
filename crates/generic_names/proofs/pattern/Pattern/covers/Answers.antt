use Rattle.std.proofs.Common.{◌≡◌, ◌∙◌, ap, sym}
use Rattle.std.proofs.lemmas.Slice.Eq.{bytes_eq-Decides}
use Rattle.generic_names.specs.Spelled.{Spelled}
use Rattle.generic_names.specs.Covers.{covers}
use Rattle.generic_names.proofs.OrderLaws.{same_spelled}
use Rattle.generic_names.proofs.BestLaws.{covers-itself}
use Rattle.generic_names.proofs.pattern.Pattern.covers.Goals as goal

pub returns-then-eq : goal.returns-then-eq
returns-then-eq c =
    let name = c.args.name.now in
    let texts : c.text.result.now ≡ c.text-2.result.now = (bytes_eq-Decides _ _).0 (sym c.eq.ensures ∙ c.if-eq.true) in
    let seen = c.self.view_is in
    let text : c.args.self.now.text ≡ c.self.inside.name.text = ap (λ (n : Spelled). n.text) (sym seen) in
    let same = same_spelled c.args.self.now name c.requires (text ∙ sym c.text.ensures.text ∙ texts ∙ c.text-2.ensures.text) in
    sym (ap (λ (pattern : Spelled). covers pattern name) same ∙ covers-itself name c.text-2.ensures.name)

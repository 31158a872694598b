use Rattle.std.proofs.Common.{◌+◌, ◌≡◌, ◌∙◌, [], ◌++◌, length, drop, sym, ap, arith, length-drop}
use Rattle.std.proofs.lemmas.List.{drop_all}
use Rattle.racf_generator.specs.Made.{left_of, part_text, parts_from}
use Rattle.racf_generator.proofs.MadeLaws.{parts_from-next, parts_from-none, part_text-some}
use Rattle.racf_generator.proofs.parts.Parts.fill.Goals as goal

-- bytes are at hand
pub returns-then-self-len-clause-end : goal.returns-then-self-len-clause-end
returns-then-self-len-clause-end c none =
    let inside = c.self.inside in
    let all : drop inside.at inside.text.items ≡ [] = ap (λ seen. seen.ready) c.self.view_is ∙ none in
    absurd (omega (arith, c.if-self-len.true, c.len.ensures, inside.text.ok.0, ap length all, length-drop inside.at inside.text.items))

-- no part is to be made
pub returns-then-self-clause-end : goal.returns-then-self-clause-end
returns-then-self-clause-end c none =
    let inside = c.self.inside in
    sym (ap (λ seen. seen.rest) c.self.view_is) ∙ parts_from-none inside.users inside.next (omega (arith, c.if-self.true))

-- the next part is at hand
pub returns-in-Ok-clause-left : goal.returns-in-Ok-clause-left
returns-in-Ok-clause-left c =
    let inside = c.self.inside in
    let rest = parts_from inside.users (inside.next + 1) in
    let given : drop inside.at inside.text.items ≡ [] = drop_all inside.at inside.text.items (omega (arith, c.if-self-len.false, c.len.ensures, inside.text.ok.0)) in
    let made : c.write_part.new.out.items ≡ part_text inside.users inside.next = c.in-Ok.ensures ∙ ap (λ text. text ++ part_text inside.users inside.next) c.clear.ensures.items in
    ap (λ text. text ++ rest) made
    ∙ sym (parts_from-next inside.users inside.next (omega (arith, c.if-self.false, c.self.invariant.1)))
    ∙ ap (λ text. text ++ parts_from inside.users inside.next) (sym given)
    ∙ ap left_of c.self.view_is

pub returns-in-Ok-clause-end : goal.returns-in-Ok-clause-end
returns-in-Ok-clause-end c none =
    let inside = c.self.inside in
    let made : c.write_part.new.out.items ≡ part_text inside.users inside.next = c.in-Ok.ensures ∙ ap (λ text. text ++ part_text inside.users inside.next) c.clear.ensures.items in
    absurd (omega (arith, ap length (sym made ∙ none), part_text-some inside.users inside.next))

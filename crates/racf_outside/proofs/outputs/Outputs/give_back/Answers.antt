use Rattle.std.proofs.Common.{◌∙◌, ap, sym}
use Rattle.std.proofs.lemmas.Bool.{false≢true}
use Rattle.std.specs.Prelude.{position}
use Rattle.racf_outside.specs.Slots.{told_of, lent_of, is_named, is_lent, output_of}
use Rattle.racf_outside.proofs.SlotLaws.{find-replaced, find-other, find-missing, told-closed}
use Rattle.racf_outside.proofs.outputs.Outputs.give_back.Goals as goal

-- what is lent has a place
pub unreachable-requires : goal.unreachable-requires
unreachable-requires c =
    false≢true (sym (ap lent_of (find-missing c.args.name.now c.args.self.now (sym c.in_default.ensures))) ∙ c.requires)

pub returns-clause-bytes : goal.returns-clause-bytes
returns-clause-bytes c =
    let at = ap (position (is_named c.args.name.now)) c.self.view_is ∙ sym c.place.ensures ∙ c.in-Some.is in
    ap told_of (find-replaced c.args.name.now c.self.inside.slots.items c.in-Some.place c.index_mut.result.now c.close.new.self at c.index_mut.ensures.value c.close.ensures.name)
    ∙ told-closed c.close.new.self c.close.ensures.lent ∙ c.close.ensures.bytes

pub returns-clause-closed : goal.returns-clause-closed
returns-clause-closed c =
    let at = ap (position (is_named c.args.name.now)) c.self.view_is ∙ sym c.place.ensures ∙ c.in-Some.is in
    record {
      here = ap lent_of (find-replaced c.args.name.now c.self.inside.slots.items c.in-Some.place c.index_mut.result.now c.close.new.self at c.index_mut.ensures.value c.close.ensures.name) ∙ c.close.ensures.lent;
      others = λ other ne. ap lent_of (find-other c.args.name.now other c.self.inside.slots.items c.in-Some.place c.index_mut.result.now c.close.new.self at c.index_mut.ensures.value c.close.ensures.name ne) ∙ ap (λ outputs. is_lent outputs other) c.self.view_is;
    }

pub returns-clause-others : goal.returns-clause-others
returns-clause-others c =
    let at = ap (position (is_named c.args.name.now)) c.self.view_is ∙ sym c.place.ensures ∙ c.in-Some.is in
    λ other ne. ap told_of (find-other c.args.name.now other c.self.inside.slots.items c.in-Some.place c.index_mut.result.now c.close.new.self at c.index_mut.ensures.value c.close.ensures.name ne) ∙ ap (λ outputs. output_of outputs other) c.self.view_is

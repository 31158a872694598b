use Rattle.std.proofs.Common.{◌+◌, length, ◌∙◌, ap, refl}
use Rattle.racf_profiles.specs.Edits.{changed}
use Rattle.racf_desk.proofs.RepeatLaws.{accepted_again_is, repeated}
use Rattle.racf_desk.proofs.recovery.Recovery.repeat.Goals as goal

-- no conflict is met
pub prepare-prepared-requires : goal.prepare-prepared-requires
prepare-prepared-requires c = (accepted_again_is c.args.self.now.database.rows c.args.self.now.number c.in-Ok.given c.in-Some.issued c.in-Some.ensures).1

-- it is at the position behind the record
pub returns-clause-leads : goal.returns-clause-leads
returns-clause-leads c =
    repeated c.args.self.now (record { database = c.apply.new.self; number = c.args.self.now.number + 1; gate = c.args.self.now.gate + (1 + length c.args.bytes.now) })
    c.in-Ok.given c.in-Some.issued c.args.bytes.now c.in-Ok.ensures.same c.in-Ok.ensures.found c.in-Some.ensures
    (c.apply.ensures.rows ∙ ap (changed c.in-Ok-prepared.change.edits) c.prepare-prepared.ensures.rows ∙ c.in-Ok-prepared.ensures.step) refl refl

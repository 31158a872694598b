use Rattle.std.proofs.Common.{◌∙◌, ap, subst, sym}
use Rattle.std.specs.Arc.{arc_value}
use Rattle.checkpoint_disks.specs.declared.counting.Side.TheVariants.{First, Second}
use Rattle.racf_checkpoint.specs.Formatting.{StaysBaring, StaysFormatting}
use Rattle.racf_checkpoint.specs.Stored.{StoreOn, disk_on}
use Rattle.desk_rules.specs.Position.{Position}
use Rattle.desk_rules.specs.Made.{DeskOn}
use Rattle.desk_rules.specs.Durable.{LeavesIt}
use Rattle.racf_desk.proofs.OpenLaws.{first_is, stands_first, fresh_at}
use Rattle.racf_desk.proofs.FormatLaws.{leaves_no_older, nothing_older, nothing_bares, nothing_formats}
use Rattle.racf_desk.proofs.desk.Desk.format.Goals as goal

-- the store of a new database stands at the first position
pub fresh-requires-clause-stands : goal.fresh-requires-clause-stands
fresh-requires-clause-stands g c =
    let image = arc_value c.in-Ok.found.image in
    stands_first g.D.Disk.tells c.in-Ok-format.store (record { image = image; gate = c.gate-gate.result })
    (first_is image c.gate-gate.result c.in-Ok.ensures.position (c.gate-gate.ensures ∙ c.in-Ok-format.ensures.gate ∙ c.in-Ok-format.ensures.start))
    c.a_new_database_is_stored.ensures.checkpoint c.in-Ok-format.ensures.stores c.in-Ok-format.ensures.epoch (sym c.gate-gate.ensures)

pub returns-in-Ok-format-clause-desk : goal.returns-in-Ok-format-clause-desk
returns-in-Ok-format-clause-desk g c =
    let image = arc_value c.in-Ok.found.image in
    fresh_at c.fresh.result (record { image = image; gate = c.gate-gate.result }) _ c.in-Ok-format.store c.fresh.ensures.desk
    (first_is image c.gate-gate.result c.in-Ok.ensures.position (c.gate-gate.ensures ∙ c.in-Ok-format.ensures.gate ∙ c.in-Ok-format.ensures.start))

pub returns-in-Ok-format-clause-leaves : goal.returns-in-Ok-format-clause-leaves
returns-in-Ok-format-clause-leaves g c =
    subst (λ (position : Position). LeavesIt g.D.Disk.tells c.fresh.result.store position)
    (ap (λ (d : DeskOn _). d.position) c.fresh.ensures.desk
    ∙ first_is (arc_value c.in-Ok.found.image) c.gate-gate.result c.in-Ok.ensures.position (c.gate-gate.ensures ∙ c.in-Ok-format.ensures.gate ∙ c.in-Ok-format.ensures.start))
    c.fresh.ensures.leaves

-- what crashes leave of each disk,
pub returns-in-Err-clause-first_moments : goal.returns-in-Err-clause-first_moments
returns-in-Err-clause-first_moments g c = nothing_formats (g.D.Disk.tells c.args.disks.first)

pub returns-in-Err-clause-second_moments : goal.returns-in-Err-clause-second_moments
returns-in-Err-clause-second_moments g c = nothing_bares (g.D.Disk.tells c.args.disks.second)

pub returns-in-Ok-format-clause-first_moments : goal.returns-in-Ok-format-clause-first_moments
returns-in-Ok-format-clause-first_moments g c =
    subst (λ (s : StoreOn _). StaysFormatting (g.D.Disk.tells c.args.disks.first) (g.D.Disk.tells (disk_on First s))) (sym (ap (λ (d : DeskOn _). d.store) c.fresh.ensures.desk)) c.in-Ok-format.ensures.first_moments

pub returns-in-Ok-format-clause-second_moments : goal.returns-in-Ok-format-clause-second_moments
returns-in-Ok-format-clause-second_moments g c =
    subst (λ (s : StoreOn _). StaysBaring (g.D.Disk.tells c.args.disks.second) (g.D.Disk.tells (disk_on Second s))) (sym (ap (λ (d : DeskOn _). d.store) c.fresh.ensures.desk)) c.in-Ok-format.ensures.second_moments

-- and of both together
pub returns-in-Err-clause-joint : goal.returns-in-Err-clause-joint
returns-in-Err-clause-joint g c = nothing_older (g.D.Disk.tells c.args.disks.first) (g.D.Disk.tells c.args.disks.second)

pub returns-in-Err-format-clause-joint : goal.returns-in-Err-format-clause-joint
returns-in-Err-format-clause-joint g c = leaves_no_older _ _ _ _ c.in-Err-format.ensures.joint

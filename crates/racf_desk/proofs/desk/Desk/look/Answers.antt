use Rattle.std.proofs.Common.{◌≡◌, ◌+◌, length, Err, ◌⊎◌, ◌∙◌, ap, subst, sym}
use Rattle.std.specs.Arc.{arc_value}
use Rattle.racf_journal.specs.Reading.{spelled}
use Rattle.checkpoint_disks.specs.Files.{CheckpointRead}
use Rattle.racf_checkpoint.specs.declared.fault.StoreFault.TheVariants.{NoMemory}
use Rattle.racf_checkpoint.specs.Finding.{found_in}
use Rattle.racf_checkpoint.specs.Stored.{NowRead, StaysPossible}
use Rattle.desk_rules.specs.Made.{DeskOn}
use Rattle.desk_rules.specs.Reopening.{LeadOn}
use Rattle.racf_desk.proofs.OpenLaws.{found_along, goes_on, epoch_said, of_parts, only_damage}
use Rattle.racf_desk.proofs.JointLaws.{joint}
use Rattle.racf_desk.proofs.desk.Desk.look.Goals as goal

-- nothing was found
pub returns-in-Err-clause-joint : goal.returns-in-Err-clause-joint
returns-in-Err-clause-joint g c = joint c.what_was_possible_is_said.ensures _ _ _ _ c.in-Err.ensures.first_moments c.in-Err.ensures.second_moments

-- its records lead nowhere, or memory was wanting
pub returns-in-Err-recover-clause-no_other : goal.returns-in-Err-recover-clause-no_other
returns-in-Err-recover-clause-no_other g c =
    let why = c.in-Err-recover.fault in
    let kept = found_in c.in-Ok.found in
    (only_damage kept why
    (subst (λ led. (led ≡ Err why) ⊎ (why ≡ NoMemory)) (sym (of_parts kept c.in-Ok.rows c.number.result c.start.result c.records.result.now c.in-Ok.ensures.rows c.number.ensures c.start.ensures c.records.ensures)) c.in-Err-recover.ensures.fault)).0

pub returns-in-Err-recover-clause-cause : goal.returns-in-Err-recover-clause-cause
returns-in-Err-recover-clause-cause g c = λ failed.
    let why = c.in-Err-recover.fault in
    let kept = found_in c.in-Ok.found in
    absurd ((only_damage kept why
    (subst (λ led. (led ≡ Err why) ⊎ (why ≡ NoMemory)) (sym (of_parts kept c.in-Ok.rows c.number.result c.start.result c.records.result.now c.in-Ok.ensures.rows c.number.ensures c.start.ensures c.records.ensures)) c.in-Err-recover.ensures.fault)).1 failed)

pub returns-in-Err-recover-clause-first_moments : goal.returns-in-Err-recover-clause-first_moments
returns-in-Err-recover-clause-first_moments g c =
    subst (λ disk. StaysPossible (g.D.Disk.tells c.args.disks.first) (g.D.Disk.tells disk)) (sym c.into_disks.ensures.first) c.in-Ok.ensures.first_moments

pub returns-in-Err-recover-clause-second_moments : goal.returns-in-Err-recover-clause-second_moments
returns-in-Err-recover-clause-second_moments g c =
    subst (λ disk. StaysPossible (g.D.Disk.tells c.args.disks.second) (g.D.Disk.tells disk)) (sym c.into_disks.ensures.second) c.in-Ok.ensures.second_moments

pub returns-in-Err-recover-clause-joint : goal.returns-in-Err-recover-clause-joint
returns-in-Err-recover-clause-joint g c = joint c.what_was_possible_is_said.ensures _ _ _ _ (returns-in-Err-recover-clause-first_moments g c) (returns-in-Err-recover-clause-second_moments g c)

-- they lead to the position that is looked at
pub returns-in-Ok-open-clause-history : goal.returns-in-Ok-open-clause-history
returns-in-Ok-open-clause-history g c =
    let disks = c.args.disks in
    let kept = found_in c.in-Ok.found in
    let at = c.in-Ok-recover.recovered in
    let laws = c.records_lead_along_a_history.ensures in
    let agree = c.recovery_agrees_with_the_running_desk.ensures in
    subst (λ (d : DeskOn _). NowRead (g.D.Disk.tells disks.first) (g.D.Disk.tells disks.second) (LeadOn d.position)) (sym c.fresh.ensures.desk)
    (found_along (g.D.Disk.tells disks.first) (g.D.Disk.tells disks.second) kept (record { image = arc_value at.image; gate = at.gate }) c.in-Ok.ensures.says
    (goes_on laws.leads laws.room agree.outcome agree.history kept (record { image = arc_value at.image; gate = at.gate }) c.in-Ok.ensures.lawful
    (c.in-Ok-recover.ensures.gate ∙ ap (λ n. n + length (spelled c.records.result.now)) c.start.ensures ∙ ap (λ records. kept.start + length (spelled records)) c.records.ensures)
    (of_parts kept c.in-Ok.rows c.number.result c.start.result c.records.result.now c.in-Ok.ensures.rows c.number.ensures c.start.ensures c.records.ensures ∙ c.in-Ok-recover.ensures.position)))

pub returns-in-Ok-open-clause-epoch : goal.returns-in-Ok-open-clause-epoch
returns-in-Ok-open-clause-epoch g c =
    epoch_said _ _ (found_in c.in-Ok.found) _ c.in-Ok.ensures.says
    (ap (λ (d : DeskOn _). d.store.epoch) c.fresh.ensures.desk ∙ c.in-Ok-open.ensures.epoch ∙ ap (λ (kept : CheckpointRead). kept.epoch) c.apart-found.ensures.found)

-- what every crash leaves
pub returns-in-Ok-open-clause-first_moments : goal.returns-in-Ok-open-clause-first_moments
returns-in-Ok-open-clause-first_moments g c =
    subst (λ disk. StaysPossible (g.D.Disk.tells c.args.disks.first) (g.D.Disk.tells disk)) (sym c.apart-found.ensures.first) c.in-Ok.ensures.first_moments

pub returns-in-Ok-open-clause-second_moments : goal.returns-in-Ok-open-clause-second_moments
returns-in-Ok-open-clause-second_moments g c =
    subst (λ disk. StaysPossible (g.D.Disk.tells c.args.disks.second) (g.D.Disk.tells disk)) (sym c.apart-found.ensures.second) c.in-Ok.ensures.second_moments

pub returns-in-Ok-open-clause-joint : goal.returns-in-Ok-open-clause-joint
returns-in-Ok-open-clause-joint g c = joint c.what_was_possible_is_said.ensures _ _ _ _ (returns-in-Ok-open-clause-first_moments g c) (returns-in-Ok-open-clause-second_moments g c)

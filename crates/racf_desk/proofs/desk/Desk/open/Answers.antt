use Rattle.std.proofs.Common.{◌≡◌, ℕ, ◌+◌, ◌<◌, ◌≤◌, ◌^◌, List, length, Ok, Err, ◌⊎◌, ◌∙◌, ap, subst, sym}
use Rattle.std.specs.Arc.{arc_value}
use Rattle.racf_journal.specs.Reading.{spelled}
use Rattle.database_image.specs.Image.{IsStored as AreStored}
use Rattle.checkpoint_disks.specs.declared.counting.Side.TheVariants.{First, Second}
use Rattle.racf_checkpoint.specs.declared.fault.StoreFault.TheVariants.{NoMemory}
use Rattle.racf_checkpoint.specs.Finding.{found_in}
use Rattle.racf_checkpoint.specs.Stored.{StoreOn, NowRead, StaysPossible, disk_on}
use Rattle.desk_rules.specs.Outcome.{most_number}
use Rattle.desk_rules.specs.Made.{DeskOn}
use Rattle.desk_rules.specs.Recovery.{standing}
use Rattle.desk_rules.specs.Reopening.{LeadOn}
use Rattle.racf_desk.proofs.OpenLaws.{found, found_along, goes_on, epoch_said, of_parts, stands_there, store_goes, first_stays, second_stays, refused_to_load, refused_to_recover, only_damage}
use Rattle.racf_desk.proofs.JointLaws.{joint}
use Rattle.racf_desk.proofs.desk.Desk.open.Goals as goal

-- nothing was found
pub returns-in-Err-clause-fault : goal.returns-in-Err-clause-fault
returns-in-Err-clause-fault g c = refused_to_load _ _ _ c.in-Err.ensures.fault

-- what was found is a checkpoint
pub recover-requires-clause-stored : goal.recover-requires-clause-stored
recover-requires-clause-stored g c = subst AreStored (sym c.in-Ok.ensures.rows) c.in-Ok.ensures.lawful.stored

pub recover-requires-clause-number : goal.recover-requires-clause-number
recover-requires-clause-number g c = subst (λ n. n ≤ most_number) (sym c.number.ensures) c.in-Ok.ensures.lawful.number

pub recover-requires-clause-room : goal.recover-requires-clause-room
recover-requires-clause-room g c =
    subst (λ (records : List (List ℕ)). c.start.result + length (spelled records) < 2 ^ 64) (sym c.records.ensures)
    (subst (λ n. n + length (spelled c.in-Ok.found.journal.records) < 2 ^ 64) (sym c.start.ensures) c.in-Ok.ensures.room)

-- its records lead nowhere, or memory was wanting
pub returns-in-Err-recover-clause-fault : goal.returns-in-Err-recover-clause-fault
returns-in-Err-recover-clause-fault g c =
    let why = c.in-Err-recover.fault in
    let kept = found_in c.in-Ok.found in
    refused_to_recover _ _ why kept c.in-Ok.ensures.says
    (subst (λ led. (led ≡ Err why) ⊎ (why ≡ NoMemory)) (sym (of_parts kept c.in-Ok.rows c.number.result c.start.result c.records.result.now c.in-Ok.ensures.rows c.number.ensures c.start.ensures c.records.ensures)) c.in-Err-recover.ensures.fault)

pub returns-in-Err-recover-clause-no_other : goal.returns-in-Err-recover-clause-no_other
returns-in-Err-recover-clause-no_other g c =
    let why = c.in-Err-recover.fault in
    let kept = found_in c.in-Ok.found in
    (only_damage kept why
    (subst (λ led. (led ≡ Err why) ⊎ (why ≡ NoMemory)) (sym (of_parts kept c.in-Ok.rows c.number.result c.start.result c.records.result.now c.in-Ok.ensures.rows c.number.ensures c.start.ensures c.records.ensures)) c.in-Err-recover.ensures.fault)).0

pub returns-in-Err-recover-clause-cause : goal.returns-in-Err-recover-clause-cause
returns-in-Err-recover-clause-cause g c = λ failed.
    let why = c.in-Err-recover.fault in
    let kept = found_in c.in-Ok.found in
    absurd ((only_damage kept why
    (subst (λ led. (led ≡ Err why) ⊎ (why ≡ NoMemory)) (sym (of_parts kept c.in-Ok.rows c.number.result c.start.result c.records.result.now c.in-Ok.ensures.rows c.number.ensures c.start.ensures c.records.ensures)) c.in-Err-recover.ensures.fault)).1 failed)

-- the store was opened where they lead
pub fresh-requires-clause-stands : goal.fresh-requires-clause-stands
fresh-requires-clause-stands g c =
    let kept = found_in c.in-Ok.found in
    let at = c.in-Ok-recover.recovered in
    let opened = c.in-Ok-open.ensures in
    stands_there g.D.Disk.tells c.in-Ok-open.store kept (record { image = arc_value at.image; gate = at.gate }) c.in-Ok.ensures.lawful opened.stores opened.epoch opened.gate
    (c.in-Ok-recover.ensures.gate ∙ ap (λ n. n + length (spelled c.records.result.now)) c.start.ensures ∙ ap (λ records. kept.start + length (spelled records)) c.records.ensures)
    (of_parts kept c.in-Ok.rows c.number.result c.start.result c.records.result.now c.in-Ok.ensures.rows c.number.ensures c.start.ensures c.records.ensures ∙ c.in-Ok-recover.ensures.position)

pub returns-in-Ok-open-clause-stands : goal.returns-in-Ok-open-clause-stands
returns-in-Ok-open-clause-stands g c =
    let disks = c.args.disks in
    let kept = found_in c.in-Ok.found in
    let at = c.in-Ok-recover.recovered in
    subst (λ (d : DeskOn _). NowRead (g.D.Disk.tells disks.first) (g.D.Disk.tells disks.second) (λ one other. standing one other ≡ Ok d.position)) (sym c.fresh.ensures.desk)
    (found (g.D.Disk.tells disks.first) (g.D.Disk.tells disks.second) kept (record { image = arc_value at.image; gate = at.gate }) c.in-Ok.ensures.says
    (of_parts kept c.in-Ok.rows c.number.result c.start.result c.records.result.now c.in-Ok.ensures.rows c.number.ensures c.start.ensures c.records.ensures ∙ c.in-Ok-recover.ensures.position))

pub returns-in-Ok-open-clause-history : goal.returns-in-Ok-open-clause-history
returns-in-Ok-open-clause-history g c =
    let disks = c.args.disks in
    let kept = found_in c.in-Ok.found in
    let at = c.in-Ok-recover.recovered in
    let laws = c.records_lead_along_a_history.ensures in
    let agree = c.recovery_agrees_with_the_running_desk.ensures in
    subst (λ (d : DeskOn _). NowRead (g.D.Disk.tells disks.first) (g.D.Disk.tells disks.second) (LeadOn d.position)) (sym c.fresh.ensures.desk)
    (found_along (g.D.Disk.tells disks.first) (g.D.Disk.tells disks.second) kept (record { image = arc_value at.image; gate = at.gate }) c.in-Ok.ensures.says
    (goes_on laws.leads laws.room agree.outcome agree.history kept (record { image = arc_value at.image; gate = at.gate }) c.in-Ok.ensures.lawful
    (c.in-Ok-recover.ensures.gate ∙ ap (λ n. n + length (spelled c.records.result.now)) c.start.ensures ∙ ap (λ records. kept.start + length (spelled records)) c.records.ensures)
    (of_parts kept c.in-Ok.rows c.number.result c.start.result c.records.result.now c.in-Ok.ensures.rows c.number.ensures c.start.ensures c.records.ensures ∙ c.in-Ok-recover.ensures.position)))

pub returns-in-Ok-open-clause-epoch : goal.returns-in-Ok-open-clause-epoch
returns-in-Ok-open-clause-epoch g c =
    let opened = c.in-Ok-open.ensures in
    epoch_said _ _ (found_in c.in-Ok.found) _ c.in-Ok.ensures.says (ap (λ (d : DeskOn _). d.store.epoch) c.fresh.ensures.desk ∙ opened.epoch)

-- what every crash leaves meanwhile
pub returns-in-Ok-open-clause-first_moments : goal.returns-in-Ok-open-clause-first_moments
returns-in-Ok-open-clause-first_moments g c =
    let disk = c.in-Ok.found in
    let opened = c.in-Ok-open.ensures in
    let same = sym (ap (λ (d : DeskOn _). d.store) c.fresh.ensures.desk) in
    subst (λ (s : StoreOn _). StaysPossible (g.D.Disk.tells c.args.disks.first) (g.D.Disk.tells (disk_on First s))) same
    (first_stays g.D.Disk.tells g.D.Disk.faults disk.side disk.journal.disk disk.idle _ _
    (store_goes g.D.Disk.tells g.D.Disk.faults disk.side disk.journal.disk disk.idle c.in-Ok-open.store opened.side opened.idle opened.moments opened.no_fewer)
    (g.D.Disk.tells c.args.disks.first) c.in-Ok.ensures.first_moments c.in-Ok.ensures.first_synced)

pub returns-in-Ok-open-clause-second_moments : goal.returns-in-Ok-open-clause-second_moments
returns-in-Ok-open-clause-second_moments g c =
    let disk = c.in-Ok.found in
    let opened = c.in-Ok-open.ensures in
    let same = sym (ap (λ (d : DeskOn _). d.store) c.fresh.ensures.desk) in
    subst (λ (s : StoreOn _). StaysPossible (g.D.Disk.tells c.args.disks.second) (g.D.Disk.tells (disk_on Second s))) same
    (second_stays g.D.Disk.tells g.D.Disk.faults disk.side disk.journal.disk disk.idle _ _
    (store_goes g.D.Disk.tells g.D.Disk.faults disk.side disk.journal.disk disk.idle c.in-Ok-open.store opened.side opened.idle opened.moments opened.no_fewer)
    (g.D.Disk.tells c.args.disks.second) c.in-Ok.ensures.second_moments c.in-Ok.ensures.second_synced)

pub returns-in-Err-recover-clause-first_moments : goal.returns-in-Err-recover-clause-first_moments
returns-in-Err-recover-clause-first_moments g c =
    subst (λ disk. StaysPossible (g.D.Disk.tells c.args.disks.first) (g.D.Disk.tells disk)) (sym c.into_disks.ensures.first) c.in-Ok.ensures.first_moments

pub returns-in-Err-open-clause-first_moments : goal.returns-in-Err-open-clause-first_moments
returns-in-Err-open-clause-first_moments g c =
    let disk = c.in-Ok.found in
    let failed = c.in-Err-open.ensures in
    first_stays g.D.Disk.tells g.D.Disk.faults disk.side disk.journal.disk disk.idle c.in-Err-open.back.0.first c.in-Err-open.back.0.second
    (record { moments = failed.moments; no_fewer = failed.no_fewer; stays = failed.idle })
    (g.D.Disk.tells c.args.disks.first) c.in-Ok.ensures.first_moments c.in-Ok.ensures.first_synced

pub returns-in-Err-open-clause-second_moments : goal.returns-in-Err-open-clause-second_moments
returns-in-Err-open-clause-second_moments g c =
    let disk = c.in-Ok.found in
    let failed = c.in-Err-open.ensures in
    second_stays g.D.Disk.tells g.D.Disk.faults disk.side disk.journal.disk disk.idle c.in-Err-open.back.0.first c.in-Err-open.back.0.second
    (record { moments = failed.moments; no_fewer = failed.no_fewer; stays = failed.idle })
    (g.D.Disk.tells c.args.disks.second) c.in-Ok.ensures.second_moments c.in-Ok.ensures.second_synced

pub returns-in-Err-recover-clause-second_moments : goal.returns-in-Err-recover-clause-second_moments
returns-in-Err-recover-clause-second_moments g c =
    subst (λ disk. StaysPossible (g.D.Disk.tells c.args.disks.second) (g.D.Disk.tells disk)) (sym c.into_disks.ensures.second) c.in-Ok.ensures.second_moments

-- and of both together
pub returns-in-Err-clause-joint : goal.returns-in-Err-clause-joint
returns-in-Err-clause-joint g c = joint c.what_was_possible_is_said.ensures _ _ _ _ c.in-Err.ensures.first_moments c.in-Err.ensures.second_moments

pub returns-in-Err-recover-clause-joint : goal.returns-in-Err-recover-clause-joint
returns-in-Err-recover-clause-joint g c = joint c.what_was_possible_is_said.ensures _ _ _ _ (returns-in-Err-recover-clause-first_moments g c) (returns-in-Err-recover-clause-second_moments g c)

pub returns-in-Ok-open-clause-joint : goal.returns-in-Ok-open-clause-joint
returns-in-Ok-open-clause-joint g c = joint c.what_was_possible_is_said.ensures _ _ _ _ (returns-in-Ok-open-clause-first_moments g c) (returns-in-Ok-open-clause-second_moments g c)

pub returns-in-Err-open-clause-joint : goal.returns-in-Err-open-clause-joint
returns-in-Err-open-clause-joint g c = joint c.what_was_possible_is_said.ensures _ _ _ _ (returns-in-Err-open-clause-first_moments g c) (returns-in-Err-open-clause-second_moments g c)

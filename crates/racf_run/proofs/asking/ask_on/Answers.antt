use Rattle.std.proofs.Common.{◌≡◌, ◌≢◌, ◌∙◌, inr, sym, subst}
use Rattle.std.specs.Prelude.{Ok, IfOk, MatchResult}
use Rattle.racf_journal.specs.Opening.{OnlySynced}
use Rattle.racf_checkpoint.specs.Stored.{NowRead}
use Rattle.racf_checkpoint.specs.declared.fault.StoreFault.TheVariants.{DiskFault}
use Rattle.desk_rules.specs.Made.{DeskOn}
use Rattle.desk_rules.specs.Recovery.{standing}
use Rattle.racf_run.proofs.asking.ask_on.Goals as goal

pub returns-in-Ok-clause-asks : goal.returns-in-Ok-clause-asks
returns-in-Ok-clause-asks g c =
    let first = g.D.Disk.tells c.args.disks.first in
    let second = g.D.Disk.tells c.args.disks.second in
    let looked = c.look-disks.ensures in
    let now = c.look-disks.result.0 in
    let base = c.in-Ok.desk.position in
    let ran = c.ask_between-status in
    let image_is = sym (c.deref.ensures ∙ c.image.ensures) in
    let stood : NowRead first second (λ one other. standing one other ≡ Ok base) =
    subst (λ seen. IfOk seen (λ (desk : DeskOn _). NowRead first second (λ one other. standing one other ≡ Ok desk.position))) c.in-Ok.is looked.stands in
    let synced : OnlySynced first (g.D.Disk.tells now.first) × OnlySynced second (g.D.Disk.tells now.second) =
    subst (λ seen. MatchResult seen (λ (desk : DeskOn _). OnlySynced first (g.D.Disk.tells now.first) × OnlySynced second (g.D.Disk.tells now.second)) (λ why. why ≢ DiskFault → OnlySynced first (g.D.Disk.tells now.first) × OnlySynced second (g.D.Disk.tells now.second)))
    c.in-Ok.is looked.untouched in
    record {
      runs = inr (record { base = base; stood = stood; ran = ran.ensures.runs base image_is });
      whole = λ is. record { base = base; stood = stood; ran = ran.ensures.whole base image_is is };
      only_synced = λ sound. synced;
      first_moments = looked.first_moments;
      second_moments = looked.second_moments;
      joint = looked.joint;
      too_long = ran.ensures.too_long;
      not_too_long = ran.ensures.not_too_long;
    }

use Rattle.std.proofs.Common.{true, false, Some, None, Result, IfOk, ◌≡◌, ◌∙◌, ap, subst, sym}
use Rattle.std.specs.Arc.{arc_value}
use Rattle.racf_profiles.specs.declared.rows.Rows.{Rows}
use Rattle.raclist_image.specs.Imaged.{Imaged}
use Rattle.journal_records.specs.declared.record.CommandRecord.{CommandRecord}
use Rattle.desk_rules.specs.declared.refusal.Refusal.{Refusal}
use Rattle.desk_rules.specs.Outcome.{refusal_of}
use Rattle.desk_rules.specs.Images.{IsImageOf}
use Rattle.desk_rules.specs.Made.{DeskOn, made_in}
use Rattle.racf_desk.specs.Kept.{contents_of}
use Rattle.racf_desk.proofs.DeskLaws.{ready, still_stands}
use Rattle.racf_desk.proofs.desk.Desk.judge.Goals as goal

-- what was made is ready, and the disks stand where they stood
pub invariant_of-self-2 : goal.invariant_of-self-2
invariant_of-self-2 g c =
    let desk = c.self.inside in
    let settled : desk.committed ≡ false = ap (λ (d : DeskOn _). d.committed) c.self.view_is ∙ c.requires.settled in
    record {
      image = subst (λ (rows : Rows). IsImageOf rows (arc_value desk.image)) (sym c.in-Ok.ensures.rows) c.self.invariant.image;
      made =
          ready c.make.new.database (contents_of desk).position c.generation-number.result desk.database.rows c.args.issuer c.args.group c.args.text.now c.in-Ok-Ok.given c.of.result.value c.in-Ok.ready
          (c.generation-number.ensures ∙ ap (λ (image : Imaged). image.generation) c.deref.ensures) c.self.invariant.image.same c.in-Ok.ensures.rows
          (sym c.in-Ok-Ok.field-0-is ∙ c.in-Ok-Ok.ensures.outcome)
          (subst (λ (one : Result CommandRecord Refusal). IfOk one (λ given. refusal_of desk.gate c.generation-number.result desk.database.rows given ≡ None)) c.in-Ok-Ok.field-0-is c.in-Ok-Ok.ensures.accepted)
          c.is_recorded.ensures
          c.of.ensures c.in-Ok.ensures.made c.in-Ok.ensures.prepared c.in-Ok.ensures.behind;
      stands = still_stands g.D.Disk.tells desk (Some (made_in c.of.result.value)) c.self.invariant settled;
      committed = λ done. let no : true ≡ false = sym done ∙ settled in cc;
    }

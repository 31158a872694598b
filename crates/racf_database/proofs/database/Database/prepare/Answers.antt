use Rattle.std.proofs.Common.{◌≡◌, ◌∙◌, true, not, List, None, ap, sym, subst}
use Rattle.std.specs.List.{list_all}
use Rattle.racf_profiles.specs.declared.edits.Edit.{Edit}
use Rattle.racf_profiles.specs.Edits.{changed}
use Rattle.racf_profiles.specs.State.{is_of_copies}
use Rattle.racf_profiles.specs.Lawful.{AreLawful, LeaveLawfulClasses}
use Rattle.row_tables.specs.Applying.{CanApply, HasRoom}
use Rattle.command_parser.specs.Canonical.{canonical}
use Rattle.command_fields.specs.LawfulFields.{AreLawfulFields}
use Rattle.command_fields.specs.declared.fields.CommandFields.{CommandFields}
use Rattle.command_fields.specs.declared.fields.CommandFields.TheVariants as command
use Rattle.command_rules.specs.Edits.{edits_of}
use Rattle.command_rules.specs.Conflicts.{conflict_of}
use Rattle.lawful_commands.proofs.ProfileRows.{PutsAreCounted}
use Rattle.racf_database.proofs.StepLaws.{changed-edits_of}
use Rattle.racf_database.proofs.EachReady.{can_apply-edits_of, permit-fits}
use Rattle.racf_database.proofs.database.Database.prepare.Goals as goal

-- PERMIT leaves lists that fit
pub edits_of-requires : goal.edits_of-requires
edits_of-requires c permit is =
    let issuer = c.args.issuer.now in
    let rows = c.self.inside.tables.rows in
    let order = c.order_is_total.ensures in
    let puts : PutsAreCounted = record { length = c.puts_are_counted.ensures.length; profiles = c.puts_are_counted.ensures.profiles; entries = c.puts_are_counted.ensures.entries } in
    let free : conflict_of issuer c.args.command.now rows ≡ None = ap (λ v. conflict_of issuer c.args.command.now v.rows) c.self.view_is ∙ c.requires in
    let met : conflict_of issuer (command.Permit permit) rows ≡ None =
    subst (λ (fields : CommandFields). conflict_of issuer fields rows ≡ None) (sym c.fields.ensures ∙ is) free in
    permit-fits order.either puts order.passed_on order.not_both c.text_reads_back.ensures.pattern issuer permit rows c.self.invariant.lawful met

-- the rows are as they were, so what was made of them can be applied, and leaves lawful rows
pub invariant_of-self-2 : goal.invariant_of-self-2
invariant_of-self-2 c =
    let issuer = c.args.issuer.now in
    let fields = c.args.command.now in
    let tables = c.reserve.new.self in
    let order = c.order_is_total.ensures in
    let puts : PutsAreCounted = record { length = c.puts_are_counted.ensures.length; profiles = c.puts_are_counted.ensures.profiles; entries = c.puts_are_counted.ensures.entries } in
    let same : tables.rows ≡ c.self.inside.tables.rows = c.in_ok-reserve.ensures.kept.rows in
    let lawful : AreLawful tables.rows = subst AreLawful (sym same) c.self.invariant.lawful in
    let free : conflict_of issuer fields tables.rows ≡ None = ap (conflict_of issuer fields) (same ∙ ap (λ v. v.rows) c.self.view_is) ∙ c.requires in
    let of_rows : c.in_ok-edits.edits.items ≡ edits_of issuer fields tables.rows = c.in_ok-edits.ensures ∙ ap (λ (fields : CommandFields). edits_of issuer fields c.self.inside.tables.rows) c.fields.ensures ∙ sym (ap (edits_of issuer fields) same) in
    let made : c.of.result.value.edits ≡ edits_of issuer fields tables.rows = ap (λ change. change.edits) c.of.ensures ∙ of_rows in
    let own : AreLawfulFields fields = c.fields_of_a_text_are_lawful.ensures issuer.id (canonical fields) fields (c.printed_is_read.ensures issuer.id) in
    let room : HasRoom tables (edits_of issuer fields tables.rows) = subst (HasRoom tables) (c.as_slice.ensures.value ∙ of_rows) c.in_ok-reserve.ensures.room in
    let after : AreLawful (changed (edits_of issuer fields tables.rows) tables.rows) =
    subst AreLawful (sym (changed-edits_of issuer fields tables.rows lawful free)) (c.commands_leave_lawful_rows.ensures issuer fields tables.rows lawful own free) in
    record {
      lawful = lawful;
      ready = record {
        can = subst (CanApply tables) (sym made) (can_apply-edits_of order.either puts order.passed_on order.not_both c.text_reads_back.ensures.pattern tables lawful issuer fields own free room after);
        lawful = subst (λ (edits : List Edit). AreLawful (changed edits tables.rows)) (sym made) after;
      };
    }

pub returns-clause-step : goal.returns-clause-step
returns-clause-step c =
    let issuer = c.args.issuer.now in
    let fields = c.args.command.now in
    let rows = c.args.self.now.rows in
    let lawful : AreLawful rows = subst AreLawful (ap (λ v. v.rows) c.self.view_is) c.self.invariant.lawful in
    ap (λ (es : List Edit). changed es rows) (c.in_ok-edits.ensures ∙ ap (λ (fields : CommandFields). edits_of issuer fields c.self.inside.tables.rows) c.fields.ensures ∙ ap (λ v. edits_of issuer fields v.rows) c.self.view_is)
    ∙ changed-edits_of issuer fields rows lawful c.requires

pub returns-clause-lawful : goal.returns-clause-lawful
returns-clause-lawful c =
    let issuer = c.args.issuer.now in
    let fields = c.args.command.now in
    let rows = c.args.self.now.rows in
    let lawful : AreLawful rows = subst AreLawful (ap (λ v. v.rows) c.self.view_is) c.self.invariant.lawful in
    let own : AreLawfulFields fields = c.fields_of_a_text_are_lawful.ensures issuer.id (canonical fields) fields (c.printed_is_read.ensures issuer.id) in
    let after : AreLawful (changed (edits_of issuer fields rows) rows) =
    subst AreLawful (sym (changed-edits_of issuer fields rows lawful c.requires)) (c.commands_leave_lawful_rows.ensures issuer fields rows lawful own c.requires) in
    subst (λ (es : List Edit). AreLawful (changed es rows)) (sym (c.in_ok-edits.ensures ∙ ap (λ (fields : CommandFields). edits_of issuer fields c.self.inside.tables.rows) c.fields.ensures ∙ ap (λ v. edits_of issuer fields v.rows) c.self.view_is)) after

pub returns-clause-listed : goal.returns-clause-listed
returns-clause-listed c other =
    subst (λ (es : List Edit). list_all (λ (edit : Edit). not (is_of_copies edit)) es ≡ true) (sym (c.in_ok-edits.ensures ∙ ap (λ (fields : CommandFields). edits_of c.args.issuer.now fields c.self.inside.tables.rows) c.fields.ensures))
    (c.commands_edit_rows_alone.ensures.listed c.args.issuer.now c.args.command.now c.self.inside.tables.rows other)

pub returns-clause-classes : goal.returns-clause-classes
returns-clause-classes c =
    let issuer = c.args.issuer.now in
    let fields = c.args.command.now in
    let rows = c.args.self.now.rows in
    let lawful : AreLawful rows = subst AreLawful (ap (λ v. v.rows) c.self.view_is) c.self.invariant.lawful in
    let own : AreLawfulFields fields = c.fields_of_a_text_are_lawful.ensures issuer.id (canonical fields) fields (c.printed_is_read.ensures issuer.id) in
    let after : AreLawful (changed (edits_of issuer fields rows) rows) =
    subst AreLawful (sym (changed-edits_of issuer fields rows lawful c.requires)) (c.commands_leave_lawful_rows.ensures issuer fields rows lawful own c.requires) in
    subst (λ (es : List Edit). LeaveLawfulClasses es rows) (sym (c.in_ok-edits.ensures ∙ ap (λ (fields : CommandFields). edits_of issuer fields c.self.inside.tables.rows) c.fields.ensures ∙ ap (λ v. edits_of issuer fields v.rows) c.self.view_is))
    (c.commands_edit_rows_alone.ensures.classes issuer fields rows lawful.classes after.classes)

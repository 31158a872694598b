use Rattle.journal_records.proofs.FieldLaws.{one_field}
use Rattle.journal_records.proofs.RecordLaws.{both_fields}
use Rattle.journal_records.proofs.laws.fields_are_of_identifiers.Goals as goal

pub returns-clause-one : goal.returns-clause-one
returns-clause-one c = one_field

pub returns-clause-two : goal.returns-clause-two
returns-clause-two c = both_fields

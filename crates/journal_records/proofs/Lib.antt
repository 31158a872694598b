mod FieldLaws
mod NumberLaws
mod CommandLaws
mod RecordLaws
mod WorkedRows

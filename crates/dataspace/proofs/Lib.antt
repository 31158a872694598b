pub mod SpotLaws
mod RowLaws
mod KeptLaws
mod SpareLaws
mod WorkedRows

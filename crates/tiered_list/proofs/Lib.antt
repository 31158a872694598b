mod Seams
mod RowLaws

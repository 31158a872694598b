mod WorkedRows
mod Front
mod Users
mod Profiles
mod EmptyTables
mod Classes

pub mod ChangedRow
pub mod UserList
pub mod KeptUsers
pub mod Tables
pub mod Applying
pub mod KeptTables

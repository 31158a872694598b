mod WorkedRows
mod Steps
mod OnProfile
mod Unclassified

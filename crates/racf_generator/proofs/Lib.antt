mod Appends
mod MadeLaws
mod Rows
mod TallyLaws
mod WordLaws

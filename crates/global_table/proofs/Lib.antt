mod Rows
mod SkipLaws

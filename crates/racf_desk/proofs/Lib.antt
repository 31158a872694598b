pub mod TextLaws
mod FormatLaws
mod JointLaws
mod MakingLaws
mod RepeatLaws
mod DeskLaws
mod OpenLaws

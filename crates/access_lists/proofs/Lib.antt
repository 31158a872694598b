pub mod PutLaws
mod BestLaws
mod PlaceLaws
mod StartLaws

pub mod ConnectLaws

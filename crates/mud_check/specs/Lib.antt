pub mod Input
pub mod Judgement

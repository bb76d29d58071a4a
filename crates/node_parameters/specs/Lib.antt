pub mod Judgement
pub mod Parameters
pub mod Params

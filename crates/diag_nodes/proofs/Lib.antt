pub mod AloneLemmas
pub mod DeviceLemmas
pub mod DoubtLemmas
pub mod HeldLemmas
pub mod KeptLemmas
pub mod MemberLemmas
pub mod SheetLemmas
pub mod WalkLemmas

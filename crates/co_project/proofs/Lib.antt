pub mod KeepsMessages
pub mod KeepsSound
pub mod NodeLemmas
mod SheetLemmas
pub mod SoundLemmas

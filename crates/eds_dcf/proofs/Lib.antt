pub mod AgainLemmas
mod AlikeLemmas
mod ApartLemmas
pub mod ByteLemmas
pub mod CarriedLemmas
pub mod CarriedTextLemmas
mod ChangeLemmas
mod CompactLemmas
mod CountLemmas
pub mod EachLemmas
pub mod EntryLemmas
mod KeptSectionLemmas
mod LastLemmas
mod LawLemmas
pub mod LengthLemmas
pub mod LineLemmas
mod MadeLemmas
mod NamedLemmas
mod PieceLemmas
mod PrintableLemmas
pub mod PrintedLemmas
mod RunLemmas
mod SectionLemmas
mod StandingLemmas
mod TextLemmas
mod ValuesNameLemmas
pub mod WholeLemmas

pub mod LibraryLemmas
pub mod NamedLemmas
pub mod NetworkLemmas
pub mod WrittenLemmas
pub mod VendorWantedLemmas
pub mod WantedLemmas
pub mod SentLemmas
mod AloneLemmas
mod DcfLemmas
mod FileLemmas
mod MappedLemmas
mod MemberLemmas
mod NamedFileLemmas
mod PdoLemmas
mod PlanLemmas
mod ReadBytesLemmas
mod ReadLengthLemmas
mod TextLemmas
mod ValueLemmas
mod WritesLemmas
mod AskedLemmas
mod VendorAskedLemmas
mod VendorPdoLemmas
mod VendorValueLemmas

pub mod DownloadLaws
pub mod PieceLemmas
pub mod PlayLaws
pub mod ReadLemmas
pub mod UploadLaws

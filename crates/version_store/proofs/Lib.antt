pub mod FetchLemmas
pub mod FillingLemmas
pub mod GateLemmas
pub mod ReadBackLemmas
pub mod LaidLemmas
pub mod GrownLemmas
pub mod ScanLemmas
pub mod OpenLemmas
pub mod StoreLemmas
pub mod BlankLemmas
pub mod PlaceLemmas
pub mod StandLemmas
mod CleanLemmas
pub mod Names
pub use Rattle.page_form.proofs.LogLemmas

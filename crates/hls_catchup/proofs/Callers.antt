-- The lemmas that other crates cite, passed on from one place. Declares nothing.
pub use Rattle.hls_catchup.proofs.AnswersStay.{before_same}
pub use Rattle.hls_catchup.proofs.Bounded.{Bounded, places-bounded}
pub use Rattle.hls_catchup.proofs.Plays.{run_with_event, run_with_request}

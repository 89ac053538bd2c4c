-- The lemmas that other crates cite, passed on from one place. Declares nothing.
pub use Rattle.hls_core.proofs.FeedLaws.{left_refused, reached_none}
pub use Rattle.hls_core.proofs.ShortestLaws.{grows}

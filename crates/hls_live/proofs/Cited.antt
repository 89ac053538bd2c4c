-- The lemmas of other crates that this one cites. Declares nothing.
pub use Rattle.hls_media_laws.proofs.Callers.{at_drop, at_snoc}
pub use Rattle.hls_places_laws.proofs.Callers.{advanced-first, allowed-from_step, leaves-more, marks-add, marks-append, not-past, past-count, past-fragment, past-from_each, step-from_allowed, stopped-restarted, tried-enough, tried-far, tried-further, tried-skipped}

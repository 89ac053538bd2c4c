-- The lemmas that other crates cite. Declares nothing.
pub use Rattle.hls_mend_laws.proofs.FrontLaws.{front-step, front-empty, front-bad, front-moof, front-refused, front-sidx, front-kept}
pub use Rattle.hls_mend_laws.proofs.FragmentLaws.{traf-len, moof-len, fragment-len}
pub use Rattle.hls_mend_laws.proofs.TrunLaws.{trun-len}
pub use Rattle.hls_mend_laws.proofs.SentLaws.{is-filled}
pub use Rattle.hls_mend_laws.proofs.SampleLaws.{after-row}
pub use Rattle.hls_mend_laws.proofs.FillerLaws.{frames-below, frames-within}

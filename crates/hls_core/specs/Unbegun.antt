-- For the proofs of this crate; no public clause cites it.
-- The recordings of all renditions, or one rendition that has none.
use Rattle.std.specs.Prelude.{◌≡◌, ℕ, List, Some, None, slice_get}
use Rattle.hls_core.specs.declared.rendition_state.RenditionState.{RenditionState}

-- some rendition hasn't begun
pub record HasUnbegunRendition (rendition_states : List RenditionState) : Type 0 where
  pub number : ℕ
  pub rendition_state : RenditionState
  pub at : slice_get rendition_states number ≡ Some rendition_state
  pub none : rendition_state.recording ≡ None

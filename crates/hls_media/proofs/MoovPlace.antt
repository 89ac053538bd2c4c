-- A walk over the top-level boxes of an init section, one box at a time.
use Rattle.std.proofs.Common.{◌≡◌, ◌⊎◌, ℕ, ◌<◌, ◌≤◌, ◌==◌, false, List, length, drop, slice_range, Some, None, option_and_then, refl, ◌∙◌, inl, inr, arith}
use Rattle.std.proofs.lemmas.Bool.{lt-ltb, le-ltb}
use Rattle.std.proofs.lemmas.List.{length-drop}
use Rattle.hls_boxes.specs.declared.box_header.BoxHeader.{BoxHeader}
use Rattle.hls_boxes.specs.Kinds.{moov_type, moof_type, mdat_type, init_limit}
use Rattle.hls_boxes.specs.Boxes.{children, box_at}
use Rattle.hls_media_laws.specs.Layout.{moov_of_boxes, last_moov, moov_of}
use Rattle.hls_media.proofs.UnitLaws.{first-box, no-box, end-box, nothing, some_boxes}

-- a rest that doesn't begin with a complete box has no `moov`
pub moov-bad : (rest : List ℕ) → 0 < length rest → box_at rest ≡ None → option_and_then moov_of_boxes (children rest) ≡ None
moov-bad rest some is = no-box moov_of_boxes rest some is

-- an empty rest has no `moov`
pub moov-end : (rest : List ℕ) → length rest ≡ 0 → option_and_then moov_of_boxes (children rest) ≡ None
moov-end rest none = end-box moov_of_boxes rest none

-- no `mdat` or `moof` may precede the `moov`
pub moov-stray : (rest : List ℕ) (h : BoxHeader) → 0 < length rest → box_at rest ≡ Some h → (h.kind ≡ mdat_type) ⊎ (h.kind ≡ moof_type) → option_and_then moov_of_boxes (children rest) ≡ None
moov-stray rest h some is (inl kind) = first-box moov_of_boxes (λ cs. None) rest h some is (λ cs. rw kind refl) ∙ nothing (children (drop h.size rest))
moov-stray rest h some is (inr kind) = first-box moov_of_boxes (λ cs. None) rest h some is (λ cs. rw kind refl) ∙ nothing (children (drop h.size rest))

-- where a `moov` is next, the result is its content if nothing follows it
at_moov : (rest : List ℕ) (h : BoxHeader) → 0 < length rest → box_at rest ≡ Some h → h.kind ≡ moov_type → option_and_then moov_of_boxes (children rest) ≡ option_and_then (last_moov (slice_range rest h.head h.size)) (children (drop h.size rest))
at_moov rest h some is kind = first-box moov_of_boxes (last_moov (slice_range rest h.head h.size)) rest h some is (λ cs. rw kind refl)

-- a `moov` that other bytes follow isn't the end of an init section
pub moov-more : (rest : List ℕ) (h : BoxHeader) → 0 < length rest → box_at rest ≡ Some h → h.kind ≡ moov_type → h.size < length rest → option_and_then moov_of_boxes (children rest) ≡ None
moov-more rest h some is kind more =
    at_moov rest h some is kind ∙ some_boxes (last_moov (slice_range rest h.head h.size)) (drop h.size rest) (omega (arith, length-drop h.size rest)) (λ c cs. refl)

-- a `moov` that fills the rest is the one of the init section
pub moov-last : (rest : List ℕ) (h : BoxHeader) → 0 < length rest → box_at rest ≡ Some h → h.kind ≡ moov_type → length rest ≤ h.size → option_and_then moov_of_boxes (children rest) ≡ Some (slice_range rest h.head h.size)
moov-last rest h some is kind last =
    at_moov rest h some is kind ∙ end-box (last_moov (slice_range rest h.head h.size)) (drop h.size rest) (omega (arith, length-drop h.size rest))

-- a box that isn't `moov`, `mdat` or `moof` doesn't change which `moov` is found
pub moov-other : (rest : List ℕ) (h : BoxHeader) → 0 < length rest → box_at rest ≡ Some h → (h.kind == moov_type) ≡ false → (h.kind == mdat_type) ≡ false → (h.kind == moof_type) ≡ false → option_and_then moov_of_boxes (children rest) ≡ option_and_then moov_of_boxes (children (drop h.size rest))
moov-other rest h some is moov mdat moof = first-box moov_of_boxes moov_of_boxes rest h some is (λ cs. rw (moov, mdat, moof) refl)

-- bytes above the limit of an init section have no `moov`
pub moov-long : (bytes : List ℕ) → init_limit < length bytes → moov_of bytes ≡ None
unfolding moov_of
moov-long bytes long = rw (lt-ltb init_limit (length bytes) long) refl

-- within the limit of an init section, the `moov` is the one that its boxes give
pub moov-short : (bytes : List ℕ) → length bytes ≤ init_limit → moov_of bytes ≡ option_and_then moov_of_boxes (children bytes)
unfolding moov_of
moov-short bytes short = rw (le-ltb init_limit (length bytes) short) refl

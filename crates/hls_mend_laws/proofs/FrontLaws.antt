-- The boxes before the `moof`, one box at a time.
use Rattle.std.proofs.Common.{◌≡◌, ◌∙◌, ℕ, zero, suc, ◌<◌, ◌≤◌, ◌==◌, ◌||◌, true, false, Option, Some, None, option_map, List, [], ◌++◌, length, take, drop, refl, arith}
use Rattle.std.proofs.lemmas.List.{length-drop}
use Rattle.hls_boxes.specs.declared.box_header.BoxHeader.{BoxHeader}
use Rattle.hls_boxes.specs.Boxes.{header_at, box_at}
use Rattle.hls_boxes.specs.Kinds.{moov_type, moof_type, mdat_type}
use Rattle.hls_boxes.proofs.Callers.{header_at-within}
use Rattle.hls_mend_laws.specs.FragmentsRead.{sidx_type, Front, front_after, front_within, front_of}
use Rattle.hls_mend_laws.proofs.ReadLaws.{whole-of}

-- two readers of the other boxes that agree on the bytes after the first box find the same front
after-same : (f g : List ℕ → Option Front) (bytes : List ℕ) (o : Option BoxHeader) → ((h : BoxHeader) → o ≡ Some h → f (drop h.size bytes) ≡ g (drop h.size bytes)) → front_after f bytes o ≡ front_after g bytes o
after-same f g bytes None same = refl
after-same f g bytes (Some h) same =
    let more : f (drop h.size bytes) ≡ g (drop h.size bytes) = same h refl in
    rw more refl

no-header : box_at [] ≡ None
unfolding box_at header_at
no-header = refl

-- a complete box has some bytes, and they are within the bytes where it is found
size-some : (bytes : List ℕ) (h : BoxHeader) → box_at bytes ≡ Some h → (0 < h.size) × (h.size ≤ length bytes)
size-some bytes h is =
    let w = whole-of bytes h is in
    (omega (arith, w.fits, (header_at-within bytes h w.starts).0), w.within)

-- all bounds above the number of bytes give the same front
enough : (most bound : ℕ) (bytes : List ℕ) → length bytes < most → length bytes < bound → front_within most bytes ≡ front_within bound bytes
unfolding front_within
enough zero bound bytes less more = absurd (omega (arith, less))
enough (suc most) zero bytes less more = absurd (omega (arith, more))
enough (suc most) (suc bound) bytes less more =
    after-same (front_within most) (front_within bound) bytes (box_at bytes) (λ h is.
    let size = size-some bytes h is in
    enough most bound (drop h.size bytes) (omega (arith, less, size.0, size.1, length-drop h.size bytes)) (omega (arith, more, size.0, size.1, length-drop h.size bytes)))

-- the front of bytes is found by their first box and the front of the bytes after it
pub front-step : (bytes : List ℕ) → front_of bytes ≡ front_after front_of bytes (box_at bytes)
unfolding front_of front_within
front-step bytes =
    after-same (front_within (length bytes)) front_of bytes (box_at bytes) (λ h is.
    let size = size-some bytes h is in
    enough (length bytes) (suc (length (drop h.size bytes))) (drop h.size bytes) (omega (arith, size.0, size.1, length-drop h.size bytes)) (omega arith))

-- empty bytes have no front
pub front-empty : front_of [] ≡ None
front-empty = front-step [] ∙ rw no-header refl

-- bytes that don't begin with a complete box have no front
pub front-bad : (bytes : List ℕ) → box_at bytes ≡ None → front_of bytes ≡ None
front-bad bytes none = front-step bytes ∙ rw none refl

-- bytes that begin with a `moof` have an empty front, and all of them are its rest
pub front-moof : (bytes : List ℕ) (h : BoxHeader) → box_at bytes ≡ Some h → (h.kind == moof_type) ≡ true → front_of bytes ≡ Some (record { kept = []; rest = bytes })
front-moof bytes h is moof = front-step bytes ∙ rw (is, moof) refl

-- bytes that begin with a `moov` or an `mdat` have no front
pub front-refused : (bytes : List ℕ) (h : BoxHeader) → box_at bytes ≡ Some h → (h.kind == moof_type) ≡ false → (h.kind == moov_type || h.kind == mdat_type) ≡ true → front_of bytes ≡ None
front-refused bytes h is moof other = front-step bytes ∙ rw (is, moof, other) refl

-- a `sidx` at the start is left out of the front
pub front-sidx : (bytes : List ℕ) (h : BoxHeader) → box_at bytes ≡ Some h → (h.kind == moof_type) ≡ false → (h.kind == moov_type || h.kind == mdat_type) ≡ false → (h.kind == sidx_type) ≡ true
    → front_of bytes ≡ front_of (drop h.size bytes)
front-sidx bytes h is moof other sidx = front-step bytes ∙ rw (is, moof, other, sidx) refl

-- any other box at the start is kept before what is kept of the bytes after it
pub front-kept : (bytes : List ℕ) (h : BoxHeader) → box_at bytes ≡ Some h → (h.kind == moof_type) ≡ false → (h.kind == moov_type || h.kind == mdat_type) ≡ false → (h.kind == sidx_type) ≡ false
    → front_of bytes ≡ option_map (λ (f : Front). record { kept = take h.size bytes ++ f.kept; rest = f.rest }) (front_of (drop h.size bytes))
front-kept bytes h is moof other sidx = front-step bytes ∙ rw (is, moof, other, sidx) refl

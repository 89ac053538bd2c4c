-- How a stream is consumed, in terms of the code.
-- For the proofs of this crate; no public clause cites it.
use Rattle.std.specs.Prelude.{◌≡◌, ℕ, ◌≤◌, nat_lt, if◌then◌else◌, Option, Some, None, List, [], ◌∷◌, ◌++◌, length, take, drop}
use Rattle.std.specs.List.{flat_map}
use Rattle.hls_boxes.specs.declared.box_header.BoxHeader.{BoxHeader}
use Rattle.hls_boxes.specs.declared.fault.BoxFault.{BoxFault}
use Rattle.hls_boxes.specs.declared.box_effect.BoxEffect.{BoxEffect}
use Rattle.hls_boxes.specs.declared.box_effect.BoxEffect.TheVariants.{Incomplete, Fault, Continues, Ends}
use Rattle.hls_boxes.specs.Parts.{part_of, effect_at, Refused, cut_at, stream_cut, after_parts}
use Rattle.hls_boxes.specs.declared.pending_part.PendingPart.{PendingPart}
use Rattle.hls_boxes.specs.declared.complete_part.CompletePart.{CompletePart}

-- the number of bytes needed to decide about a box: its size, or the length of its header if that is incomplete; `len` bytes are there
abbrev pub needed_len : Option BoxHeader → ℕ → ℕ
needed_len (Some h) len = h.size
needed_len None len = if nat_lt len 8 then 8 else 16

-- the bytes of a complete part
abbrev pub complete_part_bytes : CompletePart → List ℕ
complete_part_bytes whole = whole.bytes.items

-- a complete part, whatever follows it
pub record IsCompletePart (whole : CompletePart) : Type 0 where
  pub extends : (more : List ℕ) → stream_cut (complete_part_bytes whole ++ more) ≡ after_parts (part_of whole.kind (complete_part_bytes whole) ∷ []) (stream_cut more)

-- each of them is a complete part, whatever follows it
abbrev pub AreCompleteParts : List CompletePart → Type 0
AreCompleteParts [] = Unit {0}
AreCompleteParts (whole ∷ others) = IsCompletePart whole × AreCompleteParts others

-- the bytes after the boxes that were consumed
abbrev pub open_box : PendingPart → List ℕ
open_box pending = drop pending.at pending.bytes.items

-- the effect of the first box that isn't consumed yet
abbrev pub next_effect : PendingPart → BoxEffect
next_effect pending = effect_at (open_box pending) pending.at pending.has_moof

-- the boxes before `at` belong to the part in progress, and the rest isn't consumed yet
pub record IsPendingPart (pending : PendingPart) : Type 0 where
  pub within : pending.at ≤ length pending.bytes.items
  pub extends : (more : List ℕ) → stream_cut (pending.bytes.items ++ more) ≡ cut_at (take pending.at pending.bytes.items) (open_box pending ++ more) pending.has_moof

-- no box can be consumed yet
pub record NeedsMoreBytes (pending : PendingPart) : Type 0 where
  pub is_pending : IsPendingPart pending
  pub last : next_effect pending ≡ Incomplete

-- the bytes end where the box does, if it is complete
abbrev pub EndsAt : ℕ → BoxEffect → Type 0
EndsAt len Incomplete = Unit {0}
EndsAt len (Fault fault) = Unit {0}
EndsAt len (Continues has_moof size) = size ≡ len
EndsAt len (Ends kind size) = size ≡ len

-- the bytes end where the first box that isn't consumed yet does, if it is complete
abbrev pub EndsAtBox : PendingPart → Type 0
EndsAtBox pending = EndsAt (length (open_box pending)) (next_effect pending)

-- the part in progress needs more bytes, or has the fault that was found
abbrev pub IsPendingWithFault : PendingPart → Option BoxFault → Type 0
IsPendingWithFault pending None = NeedsMoreBytes pending
IsPendingWithFault pending (Some fault) = stream_cut pending.bytes.items ≡ record { parts = []; left = Refused fault }

-- the bytes of the first part since then, which was in progress
abbrev pub first_bytes : List CompletePart → PendingPart → List ℕ
first_bytes [] pending = pending.bytes.items
first_bytes (whole ∷ others) pending = complete_part_bytes whole

-- parts were appended to those that were there, and the part that was in progress has more bytes
pub record AppendsParts (old : PendingPart) (before : List CompletePart) (pending : PendingPart) (whole : List CompletePart) : Type 0 where
  pub parts : List CompletePart
  pub queued : whole ≡ before ++ parts
  pub more : List ℕ
  pub first : first_bytes parts pending ≡ old.bytes.items ++ more

-- the same for a known piece: the parts and the part in progress together have the old bytes and the piece, with this fault, if any
pub record AppendsPiece (old : PendingPart) (before : List CompletePart) (piece : List ℕ) (fault : Option BoxFault) (pending : PendingPart) (whole : List CompletePart) : Type 0 where
  pub parts : List CompletePart
  pub queued : whole ≡ before ++ parts
  pub each : AreCompleteParts parts
  pub more : List ℕ
  pub first : first_bytes parts pending ≡ old.bytes.items ++ more
  pub text : flat_map complete_part_bytes parts ++ pending.bytes.items ≡ old.bytes.items ++ piece
  pub pending_is : IsPendingWithFault pending fault

-- the bytes of a reader
abbrev pub reader_bytes : List CompletePart → PendingPart → List ℕ
reader_bytes whole pending = flat_map complete_part_bytes whole ++ pending.bytes.items

-- the invariant of a reader
pub record IsReaderState (whole : List CompletePart) (pending : PendingPart) (fault : Option BoxFault) : Type 0 where
  pub each : AreCompleteParts whole
  pub pending_is : IsPendingWithFault pending fault

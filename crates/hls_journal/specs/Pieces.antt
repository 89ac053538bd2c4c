-- The search for the piece that has a unit.
use Rattle.std.specs.Prelude.{◌≡◌, ℕ, ◌+◌, ◌<◌, ◌≤◌, ⊤, Some, List, slice_get}
use Rattle.hls_journal_laws.specs.declared.stored_media.MediaPiece.{MediaPiece}
use Rattle.hls_journal_laws.specs.Bodies.{unit_len_in, unit_checksum_in}
use Rattle.hls_journal_laws.specs.Restored.{IsInPiece, unit_checksum}
use Rattle.hls_journal.specs.declared.fault.RecallFault.{RecallFault}
use Rattle.hls_journal.specs.declared.fault.RecallFault.TheVariants.{Memory, Wrong, Missing}

-- an offset is before the first piece, if there is one
abbrev pub IsBeforePieces : List MediaPiece → ℕ → Type 0
IsBeforePieces pieces at = (p : MediaPiece) → slice_get pieces 0 ≡ Some p → at < p.start

-- a piece is the last one that begins at or before an offset
pub record IsPieceAt (pieces : List MediaPiece) (at : ℕ) (piece : MediaPiece) : Type 0 where
  pub place : ℕ
  pub is : slice_get pieces place ≡ Some piece
  pub begins : piece.start ≤ at
  pub next : (q : MediaPiece) → slice_get pieces (place + 1) ≡ Some q → at < q.start

-- a piece has these bytes at an offset, with the length and the checksum of a unit's record
abbrev pub IsInPieceOf : MediaPiece → ℕ → List ℕ → List ℕ → Type 0
IsInPieceOf piece at body bytes = IsInPiece piece at (unit_len_in body) bytes × (unit_checksum_in body ≡ unit_checksum at bytes)

-- why a piece doesn't have the unit of a record: no bytes of it are that unit, or an allocation failed
abbrev pub IsPieceFault : MediaPiece → ℕ → List ℕ → RecallFault → Type 0
IsPieceFault piece at body Memory = ⊤
IsPieceFault piece at body Wrong = ⊥
IsPieceFault piece at body Missing = (bytes : List ℕ) → IsInPieceOf piece at body bytes → ⊥

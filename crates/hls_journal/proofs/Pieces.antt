-- The piece that has a unit.
use Rattle.std.proofs.Common.{◌≡◌, ◌∙◌, ℕ, ◌+◌, ◌-◌, ◌<◌, ◌≤◌, Option, Some, List, length, get_or, sym, ap, subst, inl, inr, arith}
use Rattle.std.specs.Prelude.{Contains, slice_get, slice_range}
use Rattle.std.proofs.lemmas.Option.{slice_get_within, slice_get-get_or}
use Rattle.std.proofs.lemmas.Bool.{cases_eq, cases_lt}
use Rattle.hls_journal_laws.specs.declared.stored_media.MediaPiece.{MediaPiece}
use Rattle.hls_journal_laws.specs.declared.stored_media.StoredMedia.{StoredMedia}
use Rattle.hls_journal_laws.specs.Bodies.{unit_len_in}
use Rattle.hls_journal_laws.specs.Restored.{IsInPiece, IsStored}
use Rattle.hls_journal.specs.Recalling.{IsStoredIn}
use Rattle.hls_journal.specs.declared.fault.RecallFault.{RecallFault}
use Rattle.hls_journal.specs.declared.fault.RecallFault.TheVariants.{Memory, Wrong, Missing}
use Rattle.hls_journal.specs.Faults.{AreInOrder, IsInOrder, IsStoredFault}
use Rattle.hls_journal.specs.Pieces.{IsBeforePieces, IsPieceAt, IsInPieceOf, IsPieceFault}

-- an option has only one value
pub same_some : {X : Type 0} → (o : Option X) (x y : X) → o ≡ Some x → o ≡ Some y → y ≡ x
same_some o x y one other = cc

-- a list contains the piece that it has at a place
has_piece : (pieces : List MediaPiece) (k : ℕ) (p : MediaPiece) → slice_get pieces k ≡ Some p → Contains pieces p
has_piece pieces k p at =
    let within = slice_get_within pieces k p at in
    (k, within, same_some (slice_get pieces k) p (get_or pieces k p) at (slice_get-get_or pieces k p within))

-- a piece that a list contains is at some place of it
place_of : (pieces : List MediaPiece) (p : MediaPiece) → Contains pieces p → (k : ℕ) × (slice_get pieces k ≡ Some p)
place_of pieces p has = (has.0, slice_get-get_or pieces has.0 p has.1 ∙ ap Some has.2)

-- if a list has a piece at a place, it has one at each earlier place
at_next : (pieces : List MediaPiece) (k i : ℕ) (p : MediaPiece) → k < i → slice_get pieces i ≡ Some p → (q : MediaPiece) × (slice_get pieces k ≡ Some q)
at_next pieces k i p before at =
    (get_or pieces k p, slice_get-get_or pieces k p (omega (arith, before, slice_get_within pieces i p at)))

-- if a piece begins after an offset, so does each later one
begins_later : (pieces : List MediaPiece) (k i at : ℕ) (p : MediaPiece) → AreInOrder pieces → k ≤ i → slice_get pieces i ≡ Some p → ((q : MediaPiece) → slice_get pieces k ≡ Some q → at < q.start) → at < p.start
begins_later pieces k i at p order reached is later =
    elim (cases_eq k i) [
      | inl same ↦ later p (ap (λ n. slice_get pieces n) same ∙ is)
      | inr other ↦
          (let before : k < i = omega (arith, reached, other) in
          let q = at_next pieces k i p before is in
          omega (arith, later q.0 q.1, order k i q.0 p before q.1 is))
    ]

-- no piece has bytes at an offset before the first one
pub no_piece : (pieces : List MediaPiece) (at len : ℕ) (p : MediaPiece) (bytes : List ℕ) → IsBeforePieces pieces at → AreInOrder pieces → Contains pieces p → IsInPiece p at len bytes → ⊥
no_piece pieces at len p bytes none order has is =
    let place = place_of pieces p has in
    let later = begins_later pieces 0 place.0 at p order (omega arith) place.1 none in
    omega (arith, later, is.0)

-- only the last piece that begins at or before an offset can have a unit there
pub only_piece : (pieces : List MediaPiece) (at len : ℕ) (c p : MediaPiece) (bytes : List ℕ) → IsPieceAt pieces at c → AreInOrder pieces → Contains pieces p → 0 < len → IsInPiece p at len bytes → p ≡ c
only_piece pieces at len c p bytes found order has some is =
    let place = place_of pieces p has in
    elim (cases_eq place.0 found.place) [
      | inl same ↦ same_some (slice_get pieces found.place) c p found.is (ap (λ n. slice_get pieces n) (sym same) ∙ place.1)
      | inr other ↦
          (elim (cases_lt place.0 found.place) [
            | inl before ↦ absurd (omega (arith, order place.0 found.place p c before place.1 found.is, found.begins, is.1, some))
            | inr past ↦
                absurd (omega (arith, begins_later pieces (found.place + 1) place.0 at p order (omega (arith, past, other)) place.1 found.next, is.0))
          ])
    ]

-- the media have the unit that the piece at its offset has
pub stored_in_piece : (media : Option StoredMedia) (m : StoredMedia) (at : ℕ) (c : MediaPiece) (body bytes : List ℕ) → media ≡ Some m → IsPieceAt m.pieces.items at c → IsInPieceOf c at body bytes → IsStoredIn media at body bytes
stored_in_piece media m at c body bytes is found has = (m, is, (c, has_piece m.pieces.items found.place c found.is, has.0), has.1)

-- a unit that the media have is in the piece at its offset
pub only_stored : (media : Option StoredMedia) (m : StoredMedia) (at : ℕ) (c : MediaPiece) (body bytes : List ℕ) → media ≡ Some m → IsPieceAt m.pieces.items at c → IsInOrder media → 0 < unit_len_in body
    → IsStoredIn media at body bytes → IsInPieceOf c at body bytes
only_stored media m at c body bytes is found order some stored =
    let one : stored.0 ≡ m = same_some media m stored.0 is stored.1 in
    let has : IsStored m at (unit_len_in body) bytes = subst (λ (x : StoredMedia). IsStored x at (unit_len_in body) bytes) one stored.2 in
    let piece : has.0 ≡ c = only_piece m.pieces.items at (unit_len_in body) c has.0 bytes found (order m is) has.1 some has.2 in
    (subst (λ (x : MediaPiece). IsInPiece x at (unit_len_in body) bytes) piece has.2, stored.3)

-- the media have no unit at an offset before the first piece
pub none_stored : (media : Option StoredMedia) (m : StoredMedia) (at : ℕ) (body bytes : List ℕ) → media ≡ Some m → IsBeforePieces m.pieces.items at → IsInOrder media → IsStoredIn media at body bytes → ⊥
none_stored media m at body bytes is none order stored =
    let one : stored.0 ≡ m = same_some media m stored.0 is stored.1 in
    let has : IsStored m at (unit_len_in body) bytes = subst (λ (x : StoredMedia). IsStored x at (unit_len_in body) bytes) one stored.2 in
    no_piece m.pieces.items at (unit_len_in body) has.0 bytes none (order m is) has.1 has.2

-- two stored units of one record are equal
pub same_stored : (media : Option StoredMedia) (at : ℕ) (body one other : List ℕ) → IsInOrder media → 0 < unit_len_in body → IsStoredIn media at body one → IsStoredIn media at body other → other ≡ one
same_stored media at body one other order some first second =
    let m = first.0 in
    let pieces = m.pieces.items in
    let same : second.0 ≡ first.0 = same_some media first.0 second.0 first.1 second.1 in
    let has : IsStored first.0 at (unit_len_in body) other = subst (λ (x : StoredMedia). IsStored x at (unit_len_in body) other) same second.2 in
    let a = first.2 in
    let i = place_of (first.0).pieces.items a.0 a.1 in
    let j = place_of (first.0).pieces.items has.0 has.1 in
    let in_order = order first.0 first.1 in
    let pieces_are : has.0 ≡ a.0 =
    elim (cases_eq j.0 i.0) [
      | inl equal ↦ same_some (slice_get (first.0).pieces.items i.0) a.0 has.0 i.1 (ap (λ n. slice_get (first.0).pieces.items n) (sym equal) ∙ j.1)
      | inr differ ↦
          (elim (cases_lt j.0 i.0) [
            | inl before ↦ absurd (omega (arith, in_order j.0 i.0 has.0 a.0 before j.1 i.1, has.2.1, a.2.0, some))
            | inr past ↦ absurd (omega (arith, in_order i.0 j.0 a.0 has.0 (omega (arith, past, differ)) i.1 j.1, a.2.1, has.2.0, some))
          ])
    ] in
    has.2.2 ∙ ap (λ (x : MediaPiece). slice_range x.bytes (at - x.start) (at - x.start + unit_len_in body)) pieces_are ∙ sym a.2.2

-- the search for a piece is between `low` and `high`: pieces before `low` begin at or before the offset, those from `high` on after it
pub record Halves (pieces : List MediaPiece) (at low high : ℕ) : Type 0 where
  pub order : low ≤ high
  pub within : high ≤ length pieces
  pub begun : (p : MediaPiece) → 0 < low → slice_get pieces (low - 1) ≡ Some p → p.start ≤ at
  pub later : (q : MediaPiece) → slice_get pieces high ≡ Some q → at < q.start

-- the search begins with all pieces
pub all_halves : (pieces : List MediaPiece) (at : ℕ) → Halves pieces at 0 (length pieces)
all_halves pieces at =
    record {
      order = omega arith;
      within = omega arith;
      begun = λ p some is. omega (arith, some);
      later = λ q is. omega (arith, slice_get_within pieces (length pieces) q is);
    }

-- if the middle piece begins at or before the offset, the search continues above it
pub upper_half : (pieces : List MediaPiece) (at low high middle : ℕ) (p : MediaPiece) → Halves pieces at low high → middle < high → slice_get pieces middle ≡ Some p → p.start ≤ at → Halves pieces at (middle + 1) high
upper_half pieces at low high middle p halves below is begins =
    let back : middle + 1 - 1 ≡ middle = omega arith in
    record {
      order = omega (arith, below);
      within = halves.within;
      begun = λ q some there.
          let same : q ≡ p = same_some (slice_get pieces middle) p q is (ap (λ n. slice_get pieces n) (sym back) ∙ there) in
          omega (arith, begins, ap (λ (x : MediaPiece). x.start) same);
      later = halves.later;
    }

-- if the middle piece begins after the offset, the search continues below it
pub lower_half : (pieces : List MediaPiece) (at low high middle : ℕ) (p : MediaPiece) → Halves pieces at low high → low ≤ middle → middle < high → slice_get pieces middle ≡ Some p → at < p.start → Halves pieces at low middle
lower_half pieces at low high middle p halves above below is begins =
    record {
      order = above;
      within = omega (arith, below, halves.within);
      begun = halves.begun;
      later = λ q there. omega (arith, begins, ap (λ (x : MediaPiece). x.start) (same_some (slice_get pieces middle) p q is there));
    }

-- if the search ends at 0, the offset is before all pieces
pub before_all : (pieces : List MediaPiece) (at low high : ℕ) → Halves pieces at low high → high ≤ low → low ≡ 0 → IsBeforePieces pieces at
before_all pieces at low high halves done none p is =
    let first : high ≡ 0 = omega (arith, done, none) in
    halves.later p (ap (λ n. slice_get pieces n) first ∙ is)

-- if the search ends above 0, the piece before its end is the one at the offset
pub piece_at : (pieces : List MediaPiece) (at low high : ℕ) (p : MediaPiece) → Halves pieces at low high → high ≤ low → 0 < low → slice_get pieces (low - 1) ≡ Some p → IsPieceAt pieces at p
piece_at pieces at low high p halves done some is =
    let next : low - 1 + 1 ≡ high = omega (arith, some, done, halves.order) in
    record {
      place = low - 1;
      is = is;
      begins = halves.begun p some is;
      next = λ q there. halves.later q (ap (λ n. slice_get pieces n) (sym next) ∙ there);
    }

-- if the piece at an offset doesn't have the unit of a record, the media don't have it
pub piece_fault : (media : Option StoredMedia) (m : StoredMedia) (at : ℕ) (c : MediaPiece) (body : List ℕ) (fault : RecallFault) → media ≡ Some m → IsPieceAt m.pieces.items at c → 0 < unit_len_in body
    → IsPieceFault c at body fault → IsStoredFault media at body fault
piece_fault media m at c body Memory is found some fails = fails
piece_fault media m at c body Wrong is found some fails = absurd fails
piece_fault media m at c body Missing is found some fails = λ order bytes stored. fails bytes (only_stored media m at c body bytes is found order some stored)

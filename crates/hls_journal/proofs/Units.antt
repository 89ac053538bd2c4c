-- Why a record isn't of the next unit of a recording.
use Rattle.std.proofs.Common.{◌≡◌, ◌∙◌, ℕ, ◌+◌, ◌-◌, ◌<◌, ◌≤◌, Option, List, length, drop, sym, ap, inl, inr, arith, length-append, length-drop}
use Rattle.std.specs.Prelude.{Result, Ok, Err, replicate}
use Rattle.std.proofs.lemmas.List.{length-replicate, length-take-le}
use Rattle.std.proofs.lemmas.Bool.{cases_eq}
use Rattle.hls_media_laws.specs.IsInitOrUnit.{AreBounded}
use Rattle.hls_media_laws.specs.UnitFacts.{facts}
use Rattle.hls_media_laws.specs.declared.facts.Facts.{Facts}
use Rattle.hls_media_laws.specs.declared.fault.MediaFault.{MediaFault}
use Rattle.hls_media_laws.proofs.Callers.{units_are_bounded}
use Rattle.hls_record.specs.RecordingData.{RecordingData, total_of}
use Rattle.hls_journal_laws.specs.declared.stored_media.MediaPiece.{MediaPiece}
use Rattle.hls_journal_laws.specs.declared.stored_media.StoredMedia.{StoredMedia}
use Rattle.hls_journal_laws.specs.Bodies.{unit_len_in, unit_head_in}
use Rattle.hls_journal_laws.specs.Restored.{IsInPiece, IsTrimmedUnit}
use Rattle.hls_journal.specs.declared.fault.RecallFault.{RecallFault}
use Rattle.hls_journal.specs.declared.fault.RecallFault.TheVariants.{Memory, Wrong, Missing}
use Rattle.hls_journal.specs.Recalling.{IsUnitOf}
use Rattle.hls_journal.specs.Faults.{IsTrimmedFault, IsStoredFault, IsNoUnit, IsUnitFault}
use Rattle.hls_journal.proofs.Pieces.{same_stored}

-- what replaces a trimmed unit has the length that the record says
pub trimmed_len : (body bytes : List ℕ) → IsTrimmedUnit body bytes → length bytes ≡ unit_len_in body
trimmed_len body bytes is =
    omega (arith, is.fits, ap length is.is, length-append (unit_head_in body) (replicate (unit_len_in body - length (unit_head_in body)) 0), length-replicate {A = ℕ} (unit_len_in body - length (unit_head_in body)) 0)

-- the bytes that a piece has at an offset have the length that was asked for
pub piece_len : (p : MediaPiece) (at len : ℕ) (bytes : List ℕ) → IsInPiece p at len bytes → length bytes ≡ len
piece_len p at len bytes is =
    let count : at - p.start + len - (at - p.start) ≡ len = omega arith in
    ap length is.2
    ∙ length-take-le (at - p.start + len - (at - p.start)) (drop (at - p.start) p.bytes) (omega (arith, is.0, is.1, length-drop (at - p.start) p.bytes))
    ∙ count

-- a record that is too short, or whose unit has no bytes, is of no unit
pub no_length : (floor : ℕ) (media : Option StoredMedia) (rec : RecordingData) (body : List ℕ) → (16 ≤ length body → unit_len_in body ≡ 0) → IsNoUnit floor media rec body
no_length floor media rec body none =
    record {
      none = λ order long bytes f unit is.
          let bound : AreBounded f bytes = units_are_bounded rec.init bytes f is in
          elim unit [
            | inl below ↦ omega (arith, bound.some_bytes, bound.len_is, trimmed_len body bytes below.1, none long)
            | inr stored ↦ (let piece = stored.1.2 in
                omega (arith, bound.some_bytes, bound.len_is, none long, piece_len piece.0 (total_of rec) (unit_len_in body) bytes piece.2))
          ];
      own = λ order long some kept missing. omega (arith, none long, some);
    }

-- if a record's unit would be shorter than its head, or longer than 67108864 bytes, nothing replaces it
pub not_trimmed : (body : List ℕ) → ((length (unit_head_in body) ≤ unit_len_in body) → 67108864 < unit_len_in body) → IsTrimmedFault body Wrong
not_trimmed body long init bytes f is unit =
    let bound : AreBounded f bytes = units_are_bounded init bytes f unit in
    omega (arith, bound.len_is, bound.len_limit, trimmed_len body bytes is, long is.fits)

-- why nothing replaces a unit below the floor is why its record leads to no next unit
pub trimmed_fault : (floor : ℕ) (media : Option StoredMedia) (rec : RecordingData) (body : List ℕ) (fault : RecallFault) → length rec.facts < floor → IsTrimmedFault body fault → IsUnitFault floor media rec body fault
trimmed_fault floor media rec body Memory below is = is
trimmed_fault floor media rec body Wrong below is =
    record {
      none = λ order long bytes f unit read. elim unit [
        | inl trimmed ↦ is rec.init bytes f trimmed.1 read
        | inr stored ↦ omega (arith, stored.0, below)
      ];
      own = λ order long some kept missing. omega (arith, kept, below);
    }
trimmed_fault floor media rec body Missing below is = absurd is

-- why a unit from the floor on isn't found is why its record leads to no next unit
pub stored_fault : (floor : ℕ) (media : Option StoredMedia) (rec : RecordingData) (body : List ℕ) (fault : RecallFault) → floor ≤ length rec.facts → 16 ≤ length body → 0 < unit_len_in body
    → IsStoredFault media (total_of rec) body fault → IsUnitFault floor media rec body fault
stored_fault floor media rec body Memory kept long some is = is
stored_fault floor media rec body Wrong kept long some is = absurd is
stored_fault floor media rec body Missing kept long some is = record { complete = long; some = some; kept = kept; missing = is }

-- a result isn't both facts and a fault
no_facts : (o : Result Facts MediaFault) (f : Facts) (e : MediaFault) → o ≡ Ok f → o ≡ Err e → ⊥
no_facts o f e one other = cc

-- if the bytes of a record's unit are no unit under the init section, the record is of no unit
pub not_a_unit : (floor : ℕ) (media : Option StoredMedia) (rec : RecordingData) (body bytes : List ℕ) (e : MediaFault) → 0 < unit_len_in body → IsUnitOf floor media rec body bytes → facts rec.init bytes ≡ Err e
    → IsNoUnit floor media rec body
not_a_unit floor media rec body bytes e some (inl below) fails =
    record {
      none = λ order long others f unit read. elim unit [
        | inl trimmed ↦ no_facts (facts rec.init others) f e read (ap (λ b. facts rec.init b) (trimmed.1.is ∙ sym below.1.is) ∙ fails)
        | inr stored ↦ omega (arith, stored.0, below.0)
      ];
      own = λ order long some_bytes kept missing. omega (arith, kept, below.0);
    }
not_a_unit floor media rec body bytes e some (inr stored) fails =
    record {
      none = λ order long others f unit read. elim unit [
        | inl trimmed ↦ omega (arith, trimmed.0, stored.0)
        | inr again ↦ no_facts (facts rec.init others) f e read (ap (λ b. facts rec.init b) (same_stored media (total_of rec) body bytes others order some stored.1 again.1) ∙ fails)
      ];
      own = λ order long some_bytes kept missing. missing bytes stored.1;
    }

-- a record that has no unit is of no unit
pub has_no_unit : (floor : ℕ) (media : Option StoredMedia) (rec : RecordingData) (body : List ℕ) → ((16 ≤ length body) × (0 < unit_len_in body) → ⊥) → IsNoUnit floor media rec body
has_no_unit floor media rec body none =
    no_length floor media rec body (λ long. elim (cases_eq (unit_len_in body) 0) [ inl zero_len ↦ zero_len | inr some ↦ absurd (none (long, omega (arith, some))) ])

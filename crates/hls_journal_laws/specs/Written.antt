-- The records of the events that came.
use Rattle.std.specs.Prelude.{◌≡◌, ◌⊎◌, ℕ, ◌+◌, ◌-◌, ◌<◌, ◌≤◌, Some, List, [], ◌∷◌, ◌++◌, length, slice_get}
use Rattle.hls_core_laws.specs.declared.event.Event.{Event}
use Rattle.hls_core_laws.specs.declared.event.Event.TheVariants.{Begin, Accept, Finish, Slide, Trim}
use Rattle.hls_core_laws.specs.Channel.{Lane, lane, lane_len}
use Rattle.hls_core_laws.specs.State.{State, channel}
use Rattle.hls_core_laws.specs.Runs.{next_state}
use Rattle.hls_journal_laws.specs.Heads.{IsHead}
use Rattle.hls_journal_laws.specs.declared.stored_media.StoredMedia.{StoredMedia}
use Rattle.hls_journal_laws.specs.Bodies.{kind_in, worker_in, rendition_in, init_section_in, number_in, unit_len_in, unit_checksum_in, unit_head_in, IsAside}
use Rattle.hls_journal_laws.specs.Restored.{IsStored, unit_checksum}

-- a unit's length, checksum and head in its record; it is stored at this offset
pub record IsUnitRecord (at : ℕ) (bytes body : List ℕ) : Type 0 where
  pub len : unit_len_in body ≡ length bytes
  pub sum : unit_checksum_in body ≡ unit_checksum at bytes
  pub rest : List ℕ
  pub split : bytes ≡ unit_head_in body ++ rest
  pub head : IsHead (unit_head_in body) (length rest)

-- the record that is written of an event
abbrev pub IsWritten : State → List ℕ → Event → Type 0
IsWritten s body (Begin r init bytes) = (kind_in body ≡ 1) × (rendition_in body ≡ r) × (init_section_in body ≡ bytes)
IsWritten s body (Accept r f bytes) = (kind_in body ≡ 2) × (rendition_in body ≡ r) × IsUnitRecord (lane_len (lane (channel s) r)) bytes body
IsWritten s body (Finish r) = (kind_in body ≡ 3) × (rendition_in body ≡ r)
IsWritten s body (Slide count) = (kind_in body ≡ 4) × (number_in body ≡ count)
IsWritten s body (Trim r floor) = (kind_in body ≡ 5) × (rendition_in body ≡ r) × (number_in body ≡ floor)

-- if the event is of a unit whose number isn't below the floor, the bytes that the media have at its offset are the unit's
abbrev pub KeepsUnit : (ℕ → ℕ) → List StoredMedia → State → Event → Type 0
KeepsUnit floors media s (Begin r init bytes) = Unit {0}
KeepsUnit floors media s (Accept r f bytes) =
    (m : StoredMedia) (found : List ℕ) → floors r ≤ length (lane (channel s) r).facts → slice_get media r ≡ Some m
    → IsStored m (lane_len (lane (channel s) r)) (length bytes) found → found ≡ bytes
KeepsUnit floors media s (Finish r) = Unit {0}
KeepsUnit floors media s (Slide count) = Unit {0}
KeepsUnit floors media s (Trim r floor) = Unit {0}

-- the records are of these events, one by one, with records of no event among them; what the media have of their units are the units' bytes
abbrev pub AreWritten : (ℕ → ℕ) → List StoredMedia → State → List (List ℕ) → List (ℕ × Event) → Type 0
AreWritten floors media s [] [] = Unit {0}
AreWritten floors media s [] (e ∷ es) = ⊥
AreWritten floors media s (body ∷ bodies) [] = IsAside body × AreWritten floors media s bodies []
AreWritten floors media s (body ∷ bodies) (e ∷ es) =
    (IsAside body × AreWritten floors media s bodies (e ∷ es))
    ⊎ ((worker_in body ≡ e.0) × IsWritten s body e.1 × KeepsUnit floors media s e.1 × AreWritten floors media (next_state s e.0 e.1) bodies es)

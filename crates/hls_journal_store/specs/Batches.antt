-- The records of log entries, and the media that come with them.
use Rattle.std.specs.Prelude.{◌≡◌, ℕ, suc, ◌+◌, ◌<◌, ◌≤◌, List, [], ◌∷◌, ◌++◌, Option, Some, None, length, take, drop, get_or, slice_get, slice_set}
use Rattle.std.specs.Option.{option_map}
use Rattle.hls_record.specs.RecordingData.{RecordingData, offset_at, unit_at}
use Rattle.hls_core_laws.specs.declared.event.Entry.{Entry}
use Rattle.hls_core_laws.specs.declared.event.Event.{Event}
use Rattle.hls_core_laws.specs.declared.event.Event.TheVariants.{Begin, Accept, Finish, Slide, Trim}
use Rattle.hls_core_laws.specs.declared.event.LoggedEvent.{LoggedEvent}
use Rattle.hls_core_laws.specs.declared.event.LoggedEvent.TheVariants.{Begun, Accepted, Finished, Slid, Trimmed}
use Rattle.hls_core_laws.specs.State.{State}
use Rattle.hls_core.specs.Getters.{recording_of}
use Rattle.hls_journal.specs.Bodies.{IsBodyOf}
use Rattle.hls_journal_store.specs.declared.batch.Batch.{Batch}
use Rattle.hls_journal_store.specs.declared.batch.MediaWrite.{MediaWrite}
use Rattle.hls_journal_store.specs.declared.batch.Position.{Position}

-- the rendition of a logged event; 0 if it has none
abbrev pub rendition_in : LoggedEvent → ℕ
rendition_in (Begun r init len) = r
rendition_in (Accepted r f) = r
rendition_in (Finished r) = r
rendition_in (Slid count) = 0
rendition_in (Trimmed r floor) = r

-- the event of a unit that has this number in its recording, if its bytes are kept
abbrev pub accept_in : Option RecordingData → ℕ → ℕ → LoggedEvent → Option Event
accept_in None r n logged = None
accept_in (Some d) r n (Accepted r' f) = option_map (λ unit. Accept r f unit) (unit_at d n)
accept_in (Some d) r n logged = None

-- a logged event with the bytes of its rendition's recording, where an accepted unit has the number n; None if they aren't kept
abbrev pub event_in : Option RecordingData → ℕ → LoggedEvent → Option Event
event_in rec n (Begun r init len) = option_map (λ d. Begin r init d.head) rec
event_in rec n (Accepted r f) = accept_in rec r n (Accepted r f)
event_in rec n (Finished r) = Some (Finish r)
event_in rec n (Slid count) = Some (Slide count)
event_in rec n (Trimmed r floor) = Some (Trim r floor)

-- the offset of an accepted unit with the number n in its rendition's resource; 0 for any other event
abbrev pub offset_in : Option RecordingData → ℕ → LoggedEvent → ℕ
offset_in (Some d) n (Accepted r f) = offset_at d n
offset_in (Some d) n logged = 0
offset_in None n logged = 0

-- the media of an event whose bytes are at this offset
abbrev pub writes_of : ℕ → Event → List MediaWrite
writes_of at (Begin r init bytes) = record { rendition = r; at = at; bytes = bytes } ∷ []
writes_of at (Accept r f bytes) = record { rendition = r; at = at; bytes = bytes } ∷ []
writes_of at (Finish r) = []
writes_of at (Slide count) = []
writes_of at (Trim r floor) = []

-- the record of a log entry, and the media that come with it
pub record IsLoggedRecord (rec : Option RecordingData) (n : ℕ) (entry : Entry) (body : List ℕ) (writes : List MediaWrite) : Type 0 where
  pub event : Event
  pub is : event_in rec n entry.event ≡ Some event
  pub record_of : IsBodyOf entry.by (offset_in rec n entry.event) event body
  pub media : writes ≡ writes_of (offset_in rec n entry.event) event

-- the number of the next unit of a logged event's rendition, by the counts of units so far
abbrev pub number_in : List ℕ → LoggedEvent → ℕ
number_in counts logged = get_or counts (rendition_in logged) 0

-- the counts of units in each rendition after a logged event
abbrev pub counted : List ℕ → LoggedEvent → List ℕ
counted counts (Begun r init len) = counts
counted counts (Accepted r f) = slice_set counts r (suc (get_or counts r 0))
counted counts (Finished r) = counts
counted counts (Slid count) = counts
counted counts (Trimmed r floor) = counts

-- consecutive log entries lead from these counts of units to others; these are their records and media, in order
abbrev pub AreLogged : State → List ℕ → List Entry → List (List ℕ) → List MediaWrite → List ℕ → Type 0
AreLogged s counts [] bodies writes after = (bodies ≡ []) × (writes ≡ []) × (after ≡ counts)
AreLogged s counts (e ∷ es) bodies writes after =
    (body : List ℕ) × (more : List (List ℕ)) × (own others : List MediaWrite) × (bodies ≡ body ∷ more) × (writes ≡ own ++ others)
    × IsLoggedRecord (recording_of s (rendition_in e.event)) (number_in counts e.event) e body own
    × AreLogged s (counted counts e.event) es more others after

-- a batch has one more entry of a state's log
pub record HasOneMore (s : State) (old new : Batch) : Type 0 where
  pub entry : Entry
  pub body : List ℕ
  pub own : List MediaWrite
  pub at : slice_get s.log old.position.version ≡ Some entry
  pub logged : IsLoggedRecord (recording_of s (rendition_in entry.event)) (number_in old.position.counts.items entry.event) entry body own
  pub bodies : new.bodies.items ≡ old.bodies.items ++ body ∷ []
  pub writes : new.writes.items ≡ old.writes.items ++ own
  pub counts : new.position.counts.items ≡ counted old.position.counts.items entry.event
  pub version : new.position.version ≡ old.position.version + 1

-- the batch of the entries of a state's log from a position up to its own
pub record IsBatch (s : State) (from : Position) (batch : Batch) : Type 0 where
  pub count : ℕ
  pub version : batch.position.version ≡ from.version + count
  pub logged : AreLogged s from.counts.items (take count (drop from.version s.log)) batch.bodies.items batch.writes.items batch.position.counts.items

-- the batch of the next entries of a state's log: there are some, unless the position is at its end or above
pub record IsNext (s : State) (from : Position) (batch : Batch) : Type 0 where
  pub is : IsBatch s from batch
  pub some : from.version < length s.log → from.version < batch.position.version
  pub within : from.version ≤ length s.log → batch.position.version ≤ length s.log

-- Ingesting an encoder's body: its parts become events, one after the other. What it leads to depends on its whole content: all
-- parts, or those of the shortest prefix that shows a refusal.
use Rattle.std.specs.Prelude.{◌≡◌, ◌≢◌, ◌⊎◌, ℕ, nat_eq, ◌+◌, ◌<◌, min, cond, Bool, true, false, not, List, [], ◌∷◌, ◌++◌, length, take, Option, Some, None, option_map, Result, Ok, Err, codes, slice_index_or}
use Rattle.std.specs.Fmt.{decimal}
use Rattle.hls_boxes.specs.declared.part.Part.{Part}
use Rattle.hls_core.specs.{declared.feed_fault.{StreamFault.TheVariants.{Boxes, Media, Core, AheadOfChannel}, FeedFault.FeedFault}, Getters.recording_of}
use Rattle.hls_core.specs.Streams.{EndsStream, IsTaken, Refuses as RefusesAt, Wants}
use Rattle.hls_media_laws.specs.{InitData.InitData, declared.facts.Facts.Facts, Inits.init_of, UnitFacts.facts}
use Rattle.hls_media_laws.specs.IsInitOrUnit.{IsInit, IsUnit}
use Rattle.hls_core_laws.specs.declared.{event.Event.TheVariants.{Begin, Accept}, refusal.Refusal.TheVariants.{NoInit, Overlap, Memory}}
use Rattle.hls_http.specs.{declared.framing.BodyFraming.TheVariants.Length, Bodies.{IsBroken, IsOpen}}
use Rattle.hls_api.specs.{declared.ingest.IngestCounts.IngestCounts, declared.encoder_readings.EncoderReadings.EncoderReadings}
use Rattle.hls_api.specs.{Acts.{Act, AtMostOne, IsFailedSubmit, IsLook, RecordsLook, RecordsReading, LooksAndFailsToSubmit, RecordsSubmit}, GapLimits.settings_for, Jumps.{is_accepted_unit, may_be_ahead}}
use Rattle.hls_api.specs.Types.{StreamFault, Refusal, State, Done, BodyFraming, BodyEnd, IngestStop, IngestTarget}
use Rattle.hls_record.specs.RecordingData.{RecordingData}
use Rattle.hls_mend.specs.InitSections.{is_same_to_decoders}
use Rattle.hls_mend_laws.specs.declared.settings.MendSettings.{MendSettings}
use Rattle.hls_mend.specs.{MendedUnits.{Mended, as_sent, declared_rate, mended_unit}, declared.mended.ReadUnit.ReadUnit}
use Rattle.hls_boxes.specs.declared.part.Part.TheVariants as parts
use Rattle.hls_core.specs.declared.feed_fault.FeedFault.TheVariants as feed_faults
use Rattle.hls_core_laws.specs.declared.done.Done.TheVariants as done
use Rattle.hls_http.specs.declared.end.BodyEnd.TheVariants as bodies
use Rattle.hls_api.specs.declared.ingest.IngestStop.TheVariants as ingest_stops

-- ---- counts

-- one more; a count saturates at its largest number
abbrev pub one_more : ℕ → ℕ
one_more n = min (n + 1) 18446744073709551615

-- the counts after an accepted init section: one more init section, or one more repeat
abbrev pub with_init : Done → IngestCounts → IngestCounts
with_init (done.New version) c = record c { inits = one_more c.inits }
with_init done.Repeat c = record c { repeats = one_more c.repeats }

-- the counts after an accepted unit: one more unit, or one more repeat
abbrev pub with_unit : Done → IngestCounts → IngestCounts
with_unit (done.New version) c = record c { units = one_more c.units }
with_unit done.Repeat c = record c { repeats = one_more c.repeats }

-- new init sections, new units, and duplicates of either; then this text
abbrev pub counts_before : List ℕ → IngestCounts → List ℕ
counts_before text c =
    codes "init " ++ (decimal c.inits ++ (codes " accepted " ++ (decimal c.units ++ (codes " repeated " ++ (decimal c.repeats ++ text)))))

-- units that were written again, fillers, and units that weren't recorded
abbrev pub mended_counts_text : IngestCounts → List ℕ
mended_counts_text c =
    codes " mended " ++ (decimal c.mended ++ (codes " filled " ++ (decimal c.filled ++ (codes " dropped " ++ (decimal c.dropped ++ 10 ∷ [])))))

-- all counts, if units are mended
abbrev pub counts_text : Bool → IngestCounts → List ℕ
counts_text false c = counts_before (10 ∷ []) c
counts_text true c = counts_before (mended_counts_text c) c

-- ---- parts

-- the progress of a body: its acts, the rendition's init section once it was looked up, and the counts
pub record Progress : Type 0 where
  pub acts : List Act
  pub init : Option InitData
  pub counts : IngestCounts

-- the counts of a body before its first part
abbrev pub no_counts : IngestCounts
no_counts = record { inits = 0; units = 0; repeats = 0; mended = 0; filled = 0; dropped = 0 }

-- the progress of a body before its first part
abbrev pub no_progress : Progress
no_progress = record { acts = []; init = None; counts = no_counts }

-- at a body's first unit the state is looked at, once, for the rendition's init section, by which its units are read
pub record LooksUpInit (r : ℕ) (x : Progress) (found : Option InitData) (z : List Act) : Type 0 where
  pub first : x.init ≡ None
  pub state : State
  pub looks : RecordsLook x.acts state z
  pub found_is : found ≡ option_map (λ rec. rec.init) (recording_of state r)

-- the init section for a body's units: the one that was looked up before, without an act, or the one that is looked up now
abbrev pub FindsInit : ℕ → Progress → InitData → List Act → Type 0
FindsInit r x init z = ((x.init ≡ Some init) × (z ≡ x.acts)) ⊎ LooksUpInit r x (Some init) z

-- an init section that is new, or a duplicate of the rendition's own
pub record TakesInit (r : ℕ) (x : Progress) (bytes : List ℕ) (y : Progress) : Type 0 where
  pub init : InitData
  pub reads : IsInit bytes init
  pub done : Done
  pub submits : RecordsSubmit x.acts (Begin r init bytes) (Ok done) y.acts
  pub kept : y.init ≡ x.init
  pub counts : y.counts ≡ with_init done x.counts

-- a unit that is new, or a duplicate of one of the rendition's own
pub record TakesUnit (r : ℕ) (x : Progress) (bytes : List ℕ) (y : Progress) : Type 0 where
  pub init : InitData
  pub looked : List Act
  pub finds : FindsInit r x init looked
  pub facts : Facts
  pub reads : IsUnit init bytes facts
  pub done : Done
  pub submits : RecordsSubmit looked (Accept r facts bytes) (Ok done) y.acts
  pub kept : y.init ≡ Some init
  pub counts : y.counts ≡ with_unit done x.counts

-- a part is accepted: an init section or a unit
abbrev pub TakesPart : ℕ → Progress → Part → Progress → Type 0
TakesPart r x (parts.Init bytes) y = TakesInit r x bytes y
TakesPart r x (parts.Unit bytes) y = TakesUnit r x bytes y

-- ---- refusals

-- an init section that is invalid, or that the channel refuses
abbrev pub RefusesInit : ℕ → List Act → List ℕ → StreamFault → List Act → Type 0
RefusesInit r before bytes (Boxes fault) z = ⊥
RefusesInit r before bytes (Media fault) z = (init_of bytes ≡ Err fault) × (z ≡ before)
RefusesInit r before bytes (Core refusal) z =
    (refusal ≢ Memory) × ((init : InitData) × IsInit bytes init × RecordsSubmit before (Begin r init bytes) (Err refusal) z)
RefusesInit r before bytes AheadOfChannel z = ⊥

-- a unit before any init section
pub record IsTooEarly (r : ℕ) (x : Progress) (refusal : Refusal) (z : List Act) : Type 0 where
  pub looked : LooksUpInit r x None z
  pub refusal_is : refusal ≡ NoInit

-- a unit that the channel refuses
pub record RefusesUnitAt (r : ℕ) (x : Progress) (bytes : List ℕ) (refusal : Refusal) (z : List Act) : Type 0 where
  pub init : InitData
  pub looked : List Act
  pub finds : FindsInit r x init looked
  pub facts : Facts
  pub reads : IsUnit init bytes facts
  pub not_memory : refusal ≢ Memory
  pub submits : RecordsSubmit looked (Accept r facts bytes) (Err refusal) z

-- a unit is refused: it is invalid, it comes before any init section, or the channel refuses it
abbrev pub RefusesUnit : ℕ → Progress → List ℕ → StreamFault → List Act → Type 0
RefusesUnit r x bytes (Boxes fault) z = ⊥
RefusesUnit r x bytes (Media fault) z = (init : InitData) × FindsInit r x init z × (facts init bytes ≡ Err fault)
RefusesUnit r x bytes (Core refusal) z = IsTooEarly r x refusal z ⊎ RefusesUnitAt r x bytes refusal z
RefusesUnit r x bytes AheadOfChannel z = ⊥

-- a part is refused: an init section or a unit
abbrev pub RefusesPart : ℕ → Progress → Part → StreamFault → List Act → Type 0
RefusesPart r x (parts.Init bytes) fault z = RefusesInit r x.acts bytes fault z
RefusesPart r x (parts.Unit bytes) fault z = RefusesUnit r x bytes fault z

-- one part is accepted or refused; on an allocation failure it has no effect, after at most one look and one event
abbrev pub HandlesPart : ℕ → Progress → Part → Progress → Result (Unit {0}) FeedFault → Type 0
HandlesPart r x part y (Ok taken) = TakesPart r x part y
HandlesPart r x part y (Err (feed_faults.Refused fault)) = RefusesPart r x part fault y.acts × (y.counts ≡ x.counts)
HandlesPart r x part y (Err feed_faults.Memory) = LooksAndFailsToSubmit x.acts y.acts

-- ---- parts of an encoder whose units are mended

-- the init section that is submitted: the recorded one, if the one that was sent is the same to every decoder
abbrev pub chosen_init : Option RecordingData → List ℕ → List ℕ
chosen_init None bytes = bytes
chosen_init (Some rec) bytes = cond (is_same_to_decoders rec.head bytes) rec.head bytes

-- the state is looked at, and the init section is chosen by the rendition's recording in it
pub record ChoosesInit (r : ℕ) (x : Progress) (bytes chosen : List ℕ) (looked : List Act) : Type 0 where
  pub state : State
  pub looks : RecordsLook x.acts state looked
  pub chosen_is : chosen ≡ chosen_init (recording_of state r) bytes

-- two looks at most, and then at most one event, which failed with an allocation failure
abbrev pub FailsToMend : List Act → List Act → Type 0
FailsToMend before after = (looked : List Act) × AtMostOne IsLook before looked × LooksAndFailsToSubmit looked after

-- an init section is handled as any other, in the form that was chosen
abbrev pub MendsInit : ℕ → Progress → List ℕ → Progress → Result (Unit {0}) FeedFault → Type 0
MendsInit r x bytes y (Err feed_faults.Memory) = FailsToMend x.acts y.acts
MendsInit r x bytes y result =
    (chosen : List ℕ) × (looked : List Act) × ChoosesInit r x bytes chosen looked × HandlesPart r (record x { acts = looked }) (parts.Init chosen) y result

-- what mending makes of a unit in a state, for a rendition with this declared bit rate
abbrev pub mended_for : MendSettings → ℕ → InitData → ReadUnit → Option RecordingData → Mended
mended_for settings bandwidth init u None = as_sent u
mended_for settings bandwidth init u (Some rec) = mended_unit settings bandwidth init rec u

-- what mending makes of a unit of rendition r in a state
abbrev pub mended_in : MendSettings → ℕ → State → InitData → ReadUnit → Mended
mended_in settings r s init u = mended_for (settings_for settings s r u.facts.start_us) (declared_rate s.config.renditions r) init u (recording_of s r)

-- whether a unit may be submitted, by a state: what is known of the encoders is read for one that may be ahead of the channel, by its start
-- or its end, and for no other
abbrev pub MaySubmit : MendSettings → ℕ → State → Facts → List Act → List Act → Bool → Type 0
MaySubmit settings r s f before after may =
    ((may_be_ahead settings.fill_us s r f ≡ false) × (may ≡ true) × (after ≡ before))
    ⊎ ((may_be_ahead settings.fill_us s r f ≡ true)
    × ((readings : EncoderReadings) × RecordsReading before readings after × (may ≡ is_accepted_unit settings.fill_us s r f readings)))

-- the state is looked at, and by it a unit may be submitted as mending makes it
abbrev pub DecidesUnit : MendSettings → ℕ → InitData → ReadUnit → List Act → Mended → List Act → Type 0
DecidesUnit settings r init u before mended after =
    (state : State) × (looked : List Act) × RecordsLook before state looked × MaySubmit settings r state u.facts looked after true × (mended ≡ mended_in settings r state init u)

-- the state is looked at, and by it a unit may not be submitted
abbrev pub RefusesAhead : MendSettings → ℕ → Facts → List Act → List Act → Type 0
RefusesAhead settings r f before after =
    (state : State) × (looked : List Act) × RecordsLook before state looked × MaySubmit settings r state f looked after false

-- a filler counts if it is new; one that the channel refuses is left out, except one that overlaps
abbrev pub with_filler : Result Done Refusal → IngestCounts → IngestCounts
with_filler (Ok (done.New version)) c = record c { filled = one_more c.filled }
with_filler answer c = c

-- a filler is submitted, and the counts follow its outcome; it neither overlaps nor fails with an allocation failure
abbrev pub SubmitsFiller : ℕ → ReadUnit → IngestCounts → List Act → IngestCounts → List Act → Type 0
SubmitsFiller r u c before counts after =
    (answer : Result Done Refusal) × (answer ≢ Err Memory) × (answer ≢ Err Overlap) × RecordsSubmit before (Accept r u.facts u.bytes) answer after × (counts ≡ with_filler answer c)

-- the fillers are submitted one after another, and the counts follow the outcomes
abbrev pub SubmitsFillers : ℕ → List ReadUnit → IngestCounts → List Act → IngestCounts → List Act → Type 0
SubmitsFillers r [] c before counts after = (after ≡ before) × (counts ≡ c)
SubmitsFillers r (u ∷ us) c before counts after =
    (some : IngestCounts) × (middle : List Act) × SubmitsFiller r u c before some middle × SubmitsFillers r us some middle counts after

-- the counts after a unit's outcome: mended or accepted, a repeat, or dropped if it overlaps; another refusal counts nothing
abbrev pub with_mended : Bool → Result Done Refusal → IngestCounts → IngestCounts
with_mended true (Ok (done.New version)) c = record c { mended = one_more c.mended }
with_mended false (Ok (done.New version)) c = record c { units = one_more c.units }
with_mended changed (Ok done.Repeat) c = record c { repeats = one_more c.repeats }
with_mended changed (Err Overlap) c = record c { dropped = one_more c.dropped }
with_mended changed (Err refusal) c = c

-- what a mended unit's outcome means for its body: an accepted or overlapping one doesn't stop it, and any other refusal does
abbrev pub mended_result : Result Done Refusal → Result (Unit {0}) FeedFault
mended_result (Ok done) = Ok tt
mended_result (Err Overlap) = Ok tt
mended_result (Err Memory) = Err feed_faults.Memory
mended_result (Err refusal) = Err (feed_faults.Refused (Core refusal))

-- the unit is read, and what is submitted for it is decided; `seen` are the acts up to there
pub record DecidesPart (settings : MendSettings) (r : ℕ) (x : Progress) (bytes : List ℕ) (init : InitData) (mended : Mended) (seen : List Act) : Type 0 where
  pub looked : List Act
  pub finds : FindsInit r x init looked
  pub facts : Facts
  pub reads : IsUnit init bytes facts
  pub decides : DecidesUnit settings r init (record { facts = facts; bytes = bytes }) looked mended seen

-- a unit is submitted as mending makes it, after fillers if they are needed
pub record MendsUnit (settings : MendSettings) (r : ℕ) (x : Progress) (bytes : List ℕ) (y : Progress) (result : Result (Unit {0}) FeedFault) : Type 0 where
  pub init : InitData
  pub mended : Mended
  pub seen : List Act
  pub decided : DecidesPart settings r x bytes init mended seen
  pub filled : IngestCounts
  pub before : List Act
  pub fills : SubmitsFillers r mended.fillers x.counts seen filled before
  pub answer : Result Done Refusal
  pub submits : RecordsSubmit before (Accept r mended.unit.facts mended.unit.bytes) answer y.acts
  pub counts : y.counts ≡ with_mended mended.is_changed answer filled
  pub kept : y.init ≡ Some init
  pub result_is : result ≡ mended_result answer

-- filler `count` of a unit overlaps, since somebody else filled the rendition after the look. Later ones and the unit would leave a gap, so they
-- aren't submitted: the unit is left out, and the body continues
pub record IsOvertaken (settings : MendSettings) (r : ℕ) (x : Progress) (bytes : List ℕ) (y : Progress) (result : Result (Unit {0}) FeedFault) : Type 0 where
  pub init : InitData
  pub mended : Mended
  pub seen : List Act
  pub decided : DecidesPart settings r x bytes init mended seen
  pub count : ℕ
  pub within : count < length mended.fillers
  pub filler : ReadUnit
  pub filler_is : filler ≡ slice_index_or mended.fillers count filler
  pub filled : IngestCounts
  pub before : List Act
  pub fills : SubmitsFillers r (take count mended.fillers) x.counts seen filled before
  pub overlaps : RecordsSubmit before (Accept r filler.facts filler.bytes) (Err Overlap) y.acts
  pub counts : y.counts ≡ with_mended false (Err Overlap) filled
  pub kept : y.init ≡ Some init
  pub result_is : result ≡ Ok tt

-- an allocation failed after the first `count` fillers of a unit
pub record FailsInFillers (settings : MendSettings) (r : ℕ) (x : Progress) (bytes : List ℕ) (after : List Act) : Type 0 where
  pub init : InitData
  pub mended : Mended
  pub seen : List Act
  pub decided : DecidesPart settings r x bytes init mended seen
  pub count : ℕ
  pub filled : IngestCounts
  pub before : List Act
  pub fills : SubmitsFillers r (take count mended.fillers) x.counts seen filled before
  pub failed : AtMostOne IsFailedSubmit before after

-- a unit isn't submitted, since it is ahead of the channel while another rendition continues
pub record IsAhead (settings : MendSettings) (r : ℕ) (x : Progress) (bytes : List ℕ) (z : List Act) : Type 0 where
  pub init : InitData
  pub looked : List Act
  pub finds : FindsInit r x init looked
  pub facts : Facts
  pub reads : IsUnit init bytes facts
  pub refuses : RefusesAhead settings r facts looked z

-- a unit is refused before it is submitted: it is invalid, comes before any init section, or is ahead of the channel
abbrev pub RefusesUnitBefore : MendSettings → ℕ → Progress → List ℕ → StreamFault → List Act → Type 0
RefusesUnitBefore settings r x bytes (Boxes fault) z = ⊥
RefusesUnitBefore settings r x bytes (Media fault) z = (init : InitData) × FindsInit r x init z × (facts init bytes ≡ Err fault)
RefusesUnitBefore settings r x bytes (Core refusal) z = IsTooEarly r x refusal z
RefusesUnitBefore settings r x bytes AheadOfChannel z = IsAhead settings r x bytes z

-- the unit itself isn't submitted: it is invalid, it comes before any init section, it is ahead of the channel, or an allocation failed
abbrev pub StopsBeforeUnit : MendSettings → ℕ → Progress → List ℕ → Progress → Result (Unit {0}) FeedFault → Type 0
StopsBeforeUnit settings r x bytes y (Ok taken) = ⊥
StopsBeforeUnit settings r x bytes y (Err feed_faults.Memory) = FailsToMend x.acts y.acts ⊎ FailsInFillers settings r x bytes y.acts
StopsBeforeUnit settings r x bytes y (Err (feed_faults.Refused fault)) = RefusesUnitBefore settings r x bytes fault y.acts × (y.counts ≡ x.counts)

-- how a part of a body is taken if units are mended: an init section or a unit, with the new progress and the result
abbrev pub MendsPart : MendSettings → ℕ → Progress → Part → Progress → Result (Unit {0}) FeedFault → Type 0
MendsPart settings r x (parts.Init bytes) y result = MendsInit r x bytes y result
MendsPart settings r x (parts.Unit bytes) y result =
    MendsUnit settings r x bytes y result ⊎ (IsOvertaken settings r x bytes y result ⊎ StopsBeforeUnit settings r x bytes y result)

-- ---- a body, by its whole content

-- how a part of a body is taken: it is mended if there are settings for that, else taken as it was sent
abbrev pub ingests_by : Option MendSettings → ℕ → Progress → Part → Progress → Result (Unit {0}) FeedFault → Type 0
ingests_by None r x part y result = HandlesPart r x part y result
ingests_by (Some settings) r x part y result = MendsPart settings r x part y result

-- how a part of a body for this target is taken: it is mended if the target says so
abbrev pub IngestsPart : IngestTarget → Progress → Part → Progress → Result (Unit {0}) FeedFault → Type 0
IngestsPart target x part y result = ingests_by target.mending target.rendition x part y result

-- why a body is abandoned before its end: a part was refused, or an allocation failed
abbrev pub ingest_stop_of : FeedFault → IngestStop
ingest_stop_of (feed_faults.Refused fault) = ingest_stops.Refused fault
ingest_stop_of feed_faults.Memory = ingest_stops.Memory

-- whether a body ends after this many bytes of its content: a body by length may. A chunked body never does, since the last chunk's
-- line and the trailers are still to come
abbrev pub ends_at : BodyFraming → ℕ → Bool
ends_at (Length n) size = nat_eq size n
ends_at _ size = false

-- all of the content came, and its parts are accepted: the stream is complete, or ends inside a part
pub record IsEnded (target : IngestTarget) (content : List ℕ) (last : BodyFraming) (y : Progress) (result : Result (Unit {0}) StreamFault) : Type 0 where
  pub over : last ≡ Length 0
  pub taken : IsTaken (IngestsPart target) no_progress content y
  pub ends : EndsStream content result

-- the first `size` bytes of the content, and no fewer, show a refusal; what follows is never looked at. Fewer than 65536 bytes
-- followed
pub record IsRefusedAt (size : ℕ) (target : IngestTarget) (content : List ℕ) (fault : StreamFault) (y : Progress) : Type 0 where
  pub refuses : RefusesAt (IngestsPart target) no_progress content size fault y
  pub few : length content < size + 65536

-- why a body with this framing of its rest stops, given the unread bytes
abbrev pub IsBodyStop : BodyFraming → List ℕ → BodyEnd → Type 0
IsBodyStop last unread bodies.BadFraming = IsBroken last unread
IsBodyStop last unread end = IsOpen last unread

-- the outcome of a body after this content, and whether the reply precedes its end: Truncated is at the body's end, and every other
-- refusal where it shows. If the body stopped early, all the content that came was taken
abbrev pub HandlesBody : IngestTarget → BodyFraming → List ℕ → BodyFraming → List ℕ → Progress → Bool → Result (Unit {0}) IngestStop → Type 0
HandlesBody target body content last unread y early (Ok done) = IsEnded target content last y (Ok done) × (early ≡ false)
HandlesBody target body content last unread y early (Err (ingest_stops.Refused fault)) =
    (IsEnded target content last y (Err fault) × (early ≡ false))
    ⊎ ((size : ℕ) × IsRefusedAt size target content fault y × (early ≡ not (ends_at body size)))
HandlesBody target body content last unread y early (Err ingest_stops.Memory) = Wants (IngestsPart target) no_progress content y
HandlesBody target body content last unread y early (Err (ingest_stops.Stopped end)) = IsTaken (IngestsPart target) no_progress content y × IsBodyStop last unread end

-- The laws of renewals.
use Rattle.std.specs.Prelude.{◌≡◌, ℕ, ◌+◌, ◌<◌, ◌≤◌, Some, List, length, map, drop, slice_get, Err}
use Rattle.hls_record.specs.RecordingData.{RecordingData}
use Rattle.hls_check_tables.specs.declared.goal.Goal.{Goal}
use Rattle.hls_check_tables.specs.Plans.{IsPlan}
use Rattle.hls_check_tables.specs.Tables.{Table}
use Rattle.hls_places_laws.specs.declared.fault.ProgrammeFault.TheVariants.{BeforeRecording}
use Rattle.hls_places_laws.specs.FromPlace.{place_since}
use Rattle.hls_places_laws.specs.Line.Live.{segments_of}
use Rattle.hls_places_laws.specs.Order.{time_of}
use Rattle.hls_places_laws.specs.Programmes.{IsProgrammeTable}
use Rattle.hls_m3u8.specs.Playlist.{Playlist}
use Rattle.hls_core_laws.specs.Base.{IsBase}
use Rattle.hls_core_laws.specs.Channel.{Lane}
use Rattle.hls_core_laws.specs.State.{State, HeldBytes, channel}
use Rattle.hls_core_laws.specs.IsState.{IsState}
use Rattle.hls_core_laws.specs.Follows.{Follows}
use Rattle.hls_core_laws.specs.Line.{line}
use Rattle.hls_core_laws.specs.Places.{kept_places, places}
use Rattle.hls_core.specs.Getters.{recording_of}
use Rattle.hls_playlists_laws.specs.BasedLists.{based_list_of}
use Rattle.hls_playlists_laws.specs.CutBases.{base_of_cut}
use Rattle.hls_playlists_laws.specs.Handovers.{IsHandedOver, unit_at}
use Rattle.hls_playlists_laws.specs.LaterList.{IsLater}
use Rattle.hls_playlists_laws.specs.PathLaws.{SameUnitsFrom}
use Rattle.hls_playlists_laws.specs.PathLists.{path_list_of}
use Rattle.hls_renewal.specs.declared.line_cut.LineCut.{LineCut}
use Rattle.hls_renewal.specs.Cuts.{first_cut}
use Rattle.hls_renewal.specs.Programmes.{HasSameList, HasSamePlans, HasSameProgramme, IsProgrammeOf, table_since}
use Rattle.hls_renewal.specs.Renewals.{AreNew, Renews, renewal_events, renewal_start}

-- a renewed channel continues the old one at the cut, in each rendition, with the base of the cut. So it takes over (`base_of_cut_takes_over`
-- of hls_playlists_laws), and its playlists and paths are those of the old channel. Its version isn't lower
abbrev pub RenewedChannelsAreHandedOver : Type 0
RenewedChannelsAreHandedOver = (a b : State) (renews : Renews a b) → IsState a →
    IsHandedOver a b (renews.cut).segments (renews.cut).place × (b.config.base ≡ base_of_cut a (renews.cut).segments (renews.cut).place)
    × (a.config.base.version + length a.log ≤ b.config.base.version + length b.log)

-- the common places of a renewed channel are the old one's from the cut on, counted from there
abbrev pub RenewedPlacesAreThoseFromTheCut : Type 0
RenewedPlacesAreThoseFromTheCut = (a b : State) (renews : Renews a b) → IsState a →
    (k : ℕ) × (slice_get (places a) k ≡ Some (renews.cut).place) × (places b ≡ map (place_since ((renews.cut).place).spots) (drop k (places a)))

-- a programme that begins at the cut or later has the table that the old channel has for it, counted from the cut, or the same refusal
abbrev pub RenewedProgrammesAgree : Type 0
RenewedProgrammesAgree = (a b : State) (renews : Renews a b) → IsState a → (goal : Goal) (start stop : ℕ) →
    time_of (renews.cut).place ≤ start → start < stop → HasSameProgramme ((renews.cut).place).spots a b goal start stop

-- the table of such a programme has the same plans, at the same costs
abbrev pub RenewedPlansAgree : Type 0
RenewedPlansAgree = (a b : State) (renews : Renews a b) → IsState a → (goal : Goal) (start stop : ℕ) (t : Table) →
    time_of (renews.cut).place ≤ start → start < stop → IsProgrammeTable goal (kept_places a) start stop t →
    HasSamePlans t (table_since ((renews.cut).place).spots t)

-- in each rendition a plan of such a programme has the same playlist, and the bytes that it names are the same
abbrev pub RenewedCatchUpListsAreEqual : Type 0
RenewedCatchUpListsAreEqual = (a b : State) (renews : Renews a b) → IsState a → (goal : Goal) (start stop : ℕ) (t : Table) →
    time_of (renews.cut).place ≤ start → start < stop → IsProgrammeTable goal (kept_places a) start stop t →
    (plan : List ℕ) → IsPlan t plan → (r : ℕ) (x y : RecordingData) → recording_of a r ≡ Some x → recording_of b r ≡ Some y →
    HasSameList a b t (table_since ((renews.cut).place).spots t) plan r x y

-- a renewed channel refuses a programme that begins before the cut as before the recording
abbrev pub EarlierProgrammesAreRefused : Type 0
EarlierProgrammesAreRefused = (a b : State) (renews : Renews a b) → IsState a → (goal : Goal) (start stop : ℕ) →
    start < time_of (renews.cut).place → IsProgrammeOf b goal start stop (Err BeforeRecording)

-- if the old channel lists a segment, the renewed one has the same playlists, by ranges and by paths
abbrev pub RenewedListsAreEqual : Type 0
RenewedListsAreEqual = (a b : State) (renews : Renews a b) → IsState a → (r : ℕ) → 0 < length (segments_of (line a)) →
    (based_list_of b r ≡ based_list_of a r) × (path_list_of b r ≡ path_list_of a r)

-- each playlist of a renewed channel is valid as a later one of each that the old channel sent before the renewal
abbrev pub RenewedListsContinue : Type 0
RenewedListsContinue = (before a b : State) (r : ℕ) (earlier : Playlist) → IsState before → Follows before a → (renews : Renews a b) →
    0 < length (segments_of (line a)) →
    (based_list_of before r ≡ Some earlier → (later : Playlist) × (based_list_of b r ≡ Some later) × IsLater earlier later)
    × (path_list_of before r ≡ Some earlier → (later : Playlist) × (path_list_of b r ≡ Some later) × IsLater earlier later)

-- the units that a renewed channel keeps have the same bytes. So what a path named it still names, with the same bytes
-- (`paths_name_same_units_after_handover` and `handed_over_units_have_same_bytes` of hls_playlists_laws)
abbrev pub RenewedUnitsHaveSameBytes : Type 0
RenewedUnitsHaveSameBytes = (a b : State) (renews : Renews a b) → IsState a → (r : ℕ) (l m : Lane) (h g : HeldBytes) →
    slice_get (channel a).lanes r ≡ Some l → slice_get (channel b).lanes r ≡ Some m → slice_get a.bytes r ≡ Some h → slice_get b.bytes r ≡ Some g →
    SameUnitsFrom (unit_at (renews.cut).place r) l m h g

-- the run stays, and the version doesn't fall
pub record NeverGoesBack (a b : State) : Type 0 where
  pub run : b.config.base.run ≡ a.config.base.run
  pub version : a.config.base.version + length a.log ≤ b.config.base.version + length b.log

-- run and version never go back: neither in a state that follows another one, such as one that a journal restores, nor in a renewed channel
abbrev pub RunsAndVersionsNeverGoBack : Type 0
RunsAndVersionsNeverGoBack = ((a b : State) → Follows a b → NeverGoesBack a b) × ((a b : State) → Renews a b → IsState a → NeverGoesBack a b)

-- each event of a renewal is new in the state that it meets
abbrev pub RenewalsAreNew : Type 0
RenewalsAreNew = (a : State) (cut : LineCut) → IsState a → first_cut a ≡ Some cut → IsBase (base_of_cut a cut.segments cut.place) →
    AreNew (renewal_start a cut) (renewal_events a cut)

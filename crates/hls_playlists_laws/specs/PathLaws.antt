-- The laws of path lists, of what paths name, and of playlists that count from a base.
use Rattle.std.specs.Prelude.{◌≡◌, ℕ, ◌+◌, ◌-◌, ◌^◌, ◌<◌, ◌≤◌, ◌⊎◌, List, length, Some, slice_get}
use Rattle.hls_media_laws.specs.InitData.{InitData}
use Rattle.hls_m3u8.specs.declared.playlist.ByteRange.{ByteRange}
use Rattle.hls_m3u8.specs.declared.playlist.MediaSegment.{MediaSegment}
use Rattle.hls_m3u8.specs.Playlist.{Playlist}
use Rattle.hls_places_laws.specs.declared.place.Place.{Place}
use Rattle.hls_core_laws.specs.Base.{BaseData, bytes_before_base, no_base, run_text}
use Rattle.hls_core_laws.specs.Channel.{Lane}
use Rattle.hls_core_laws.specs.State.{State, HeldBytes, channel}
use Rattle.hls_core_laws.specs.IsState.{IsState, MatchesBytes}
use Rattle.hls_core_laws.specs.Follows.{Follows}
use Rattle.hls_playlists_laws.specs.Live.{live_list_of}
use Rattle.hls_playlists_laws.specs.LaterList.{IsLater}
use Rattle.hls_playlists_laws.specs.Origins.{IngestSameUnits, AgreeOnOverlap}
use Rattle.hls_playlists_laws.specs.Handovers.{IsHandedOver, bytes_before, unit_at}
use Rattle.hls_playlists_laws.specs.JoinedLists.{Offsets, offsets_of, joined_list, MayTakeOver}
use Rattle.hls_playlists_laws.specs.BasedLists.{AreAsFar, based_list_of, list_from, offsets_after, offsets_from}
use Rattle.hls_playlists_laws.specs.CutBases.{base_of_cut}
use Rattle.hls_playlists_laws.specs.PathLists.{AreByPaths, path_list_of, segment_path}
use Rattle.hls_playlists_laws.specs.NamedUnits.{KeptUnits, TrimmedUnits, named_in, unit_bytes}

-- ---- path lists

-- a state has a path list if it has one by ranges. Both have the same numbers, and the same segments
abbrev pub PathListsMatchRanges : Type 0
PathListsMatchRanges = (s : State) (r : ℕ) (p : Playlist) → based_list_of s r ≡ Some p →
    (q : Playlist) × (path_list_of s r ≡ Some q) × AreByPaths (run_text s.config.base.run) r p q

-- in a state that follows one with a path list there is one, which is valid as a later one
abbrev pub PathListsFollow : Type 0
PathListsFollow = (a b : State) (r : ℕ) (earlier : Playlist) → IsState a → Follows a b → path_list_of a r ≡ Some earlier →
    (later : Playlist) × (path_list_of b r ≡ Some later) × IsLater earlier later

-- two states of one log (both are followed by one state) with equally many events have the same playlists
abbrev pub ServedListsStay : Type 0
ServedListsStay = (a b later : State) → Follows a later → Follows b later → length b.log ≡ length a.log → (r : ℕ) →
    (based_list_of b r ≡ based_list_of a r) × (path_list_of b r ≡ path_list_of a r)

-- path lists of two origins that have one base and are fed by the same encoders agree
abbrev pub PathListsAgree : Type 0
PathListsAgree = (a b : State) (r : ℕ) (p q : Playlist) → IsState a → IsState b → IngestSameUnits a b → b.config.base ≡ a.config.base →
    path_list_of a r ≡ Some p → path_list_of b r ≡ Some q → AgreeOnOverlap p q

-- ---- paths

-- segments with one path have one range
abbrev pub PathsAreRanges : Type 0
PathsAreRanges = (run : List ℕ) (r : ℕ) (x y : ByteRange) → 0 < x.length → 0 < y.length → x.offset + x.length < 2 ^ 64 → y.offset + y.length < 2 ^ 64 →
    segment_path run r (Some x) ≡ segment_path run r (Some y) → x ≡ y

-- what a path names in a later state: the same units, or the first of them is trimmed
abbrev pub NamesOrTrimmed : ℕ → ℕ → Lane → ℕ → ℕ → ℕ → ℕ → Type 0
NamesOrTrimmed before target k first last m n =
    (named_in before target k first last ≡ KeptUnits m n) ⊎ (named_in before target k first last ≡ TrimmedUnits)

-- units that a path names in a state: a later state has the same bytes there, as long as they are kept; and what is trimmed stays so
abbrev pub PathsNeverChange : Type 0
PathsNeverChange = (before : ℕ) (a b : State) (r : ℕ) (l k : Lane) (h g : HeldBytes) (first last m n : ℕ) → IsState a → Follows a b →
    slice_get (channel a).lanes r ≡ Some l → slice_get a.bytes r ≡ Some h → slice_get (channel b).lanes r ≡ Some k → slice_get b.bytes r ≡ Some g →
    named_in before a.config.target l first last ≡ KeptUnits m n →
    NamesOrTrimmed before a.config.target k first last m n × (named_in before a.config.target k first last ≡ KeptUnits m n → unit_bytes k g m n ≡ unit_bytes l h m n)

-- a path that names trimmed units of a rendition with an init section names trimmed ones in every later state
abbrev pub TrimmedPathsStayTrimmed : Type 0
TrimmedPathsStayTrimmed = (before : ℕ) (a b : State) (r : ℕ) (l k : Lane) (init : InitData) (first last : ℕ) → IsState a → Follows a b →
    slice_get (channel a).lanes r ≡ Some l → slice_get (channel b).lanes r ≡ Some k → l.init ≡ Some init →
    named_in before a.config.target l first last ≡ TrimmedUnits → named_in before a.config.target k first last ≡ TrimmedUnits

-- a path of kept units, which may be a segment
pub record IsKeptPath (s : State) (r : ℕ) (l : Lane) (uri : List ℕ) : Type 0 where
  pub range : ByteRange
  pub is : uri ≡ segment_path (run_text s.config.base.run) r (Some range)
  pub some : 0 < range.length
  pub small : range.offset + range.length < 2 ^ 64
  pub first : ℕ
  pub end : ℕ
  pub named : named_in (bytes_before_base s.config.base r) s.config.target l range.offset (range.offset + range.length - 1) ≡ KeptUnits first end

-- each path that a state lists names kept units in it
abbrev pub ListedPathsAreKept : Type 0
ListedPathsAreKept = (s : State) (r : ℕ) (l : Lane) (list : Playlist) (k : ℕ) (x : MediaSegment) → IsState s →
    slice_get (channel s).lanes r ≡ Some l → path_list_of s r ≡ Some list → slice_get list.segments k ≡ Some x → IsKeptPath s r l x.uri

-- a rendition with a path list has its init section
abbrev pub ListedInitsAreThere : Type 0
ListedInitsAreThere = (s : State) (r : ℕ) (l : Lane) (list : Playlist) → IsState s → slice_get (channel s).lanes r ≡ Some l →
    path_list_of s r ≡ Some list → (init : InitData) × (l.init ≡ Some init)

-- ---- playlists that count from a base

-- with no base a playlist is the process's own
abbrev pub ListsWithoutBaseAreOwn : Type 0
ListsWithoutBaseAreOwn = (s : State) (r : ℕ) → IsState s → list_from no_base s r ≡ live_list_of s r

-- with any base playlists are valid as later ones of each other
abbrev pub BasedListsFollow : Type 0
BasedListsFollow = (base : BaseData) (a b : State) (r : ℕ) (earlier : Playlist) → IsState a → Follows a b → list_from base a r ≡ Some earlier →
    (later : Playlist) × (list_from base b r ≡ Some later) × IsLater earlier later

-- with the base of a cut of another channel's line, after that channel's own base, a playlist is that channel's, once both are as far
abbrev pub HandedOverListsAreEqual : Type 0
HandedOverListsAreEqual = (base : Offsets) (a b : State) (n : ℕ) (cut : Place) (r : ℕ) (l : Lane) (p q : Playlist) → IsState a → IsState b →
    IsHandedOver a b n cut → slice_get (channel a).lanes r ≡ Some l → live_list_of a r ≡ Some p → live_list_of b r ≡ Some q →
    AreAsFar n p q → joined_list (offsets_after base (offsets_of a n cut r l)) q ≡ joined_list base p

-- the second channel continues the first at a cut: its base is what precedes the cut there, and its run is the same
pub record TakesOver (a b : State) (n : ℕ) (cut : Place) (r : ℕ) (l : Lane) : Type 0 where
  pub over : IsHandedOver a b n cut
  pub offsets : offsets_from b.config.base r ≡ offsets_after (offsets_from a.config.base r) (offsets_of a n cut r l)
  pub run : b.config.base.run ≡ a.config.base.run

-- so both channels' playlists are equal, by ranges and by paths
abbrev pub TakenOverListsAreEqual : Type 0
TakenOverListsAreEqual = (a b : State) (n : ℕ) (cut : Place) (r : ℕ) (l : Lane) (p q : Playlist) → IsState a → IsState b →
    TakesOver a b n cut r l → slice_get (channel a).lanes r ≡ Some l → live_list_of a r ≡ Some p → live_list_of b r ≡ Some q →
    AreAsFar n p q → (based_list_of b r ≡ based_list_of a r) × (path_list_of b r ≡ path_list_of a r)

-- the base of a cut is what a channel needs that continues there
abbrev pub BaseOfCutTakesOver : Type 0
BaseOfCutTakesOver = (a b : State) (n : ℕ) (cut : Place) (r : ℕ) (l : Lane) → IsHandedOver a b n cut → b.config.base ≡ base_of_cut a n cut →
    slice_get (channel a).lanes r ≡ Some l → TakesOver a b n cut r l

-- if the second's playlist may take over, it is, counted from the same base, valid as a later one of the first's
abbrev pub HandedOverListsJoin : Type 0
HandedOverListsJoin = (base : Offsets) (a b : State) (n : ℕ) (cut : Place) (r : ℕ) (l : Lane) (p q : Playlist) → IsState a → IsState b →
    IsHandedOver a b n cut → slice_get (channel a).lanes r ≡ Some l → live_list_of a r ≡ Some p → live_list_of b r ≡ Some q →
    MayTakeOver n p q → IsLater (joined_list base p) (joined_list (offsets_after base (offsets_of a n cut r l)) q)

-- the playlists of both channels agree, however far each has come
abbrev pub HandedOverListsAgree : Type 0
HandedOverListsAgree = (a b : State) (n : ℕ) (cut : Place) (r : ℕ) (l : Lane) (p q : Playlist) → IsState a → IsState b →
    IsHandedOver a b n cut → slice_get (channel a).lanes r ≡ Some l → live_list_of a r ≡ Some p → live_list_of b r ≡ Some q →
    AgreeOnOverlap p (joined_list (offsets_of a n cut r l) q)

-- ---- paths over a handover

-- two channels have the same bytes under the number of each unit that both keep, where the second counts from unit u of the first
abbrev pub SameUnitsFrom : ℕ → Lane → Lane → HeldBytes → HeldBytes → Type 0
SameUnitsFrom u l m h g =
    (k : ℕ) (x y : List ℕ) → l.floor ≤ u + k → m.floor ≤ k → slice_get h.units (u + k - l.floor) ≡ Some x → slice_get g.units (k - m.floor) ≡ Some y → x ≡ y

-- a path of a channel that continues another one at a cut names the same units there, as far as that one has come; or they are trimmed
abbrev pub HandedOverPathsNameSameUnits : Type 0
HandedOverPathsNameSameUnits = (before : ℕ) (a b : State) (n : ℕ) (cut : Place) (r : ℕ) (l m : Lane) (first last i j : ℕ) → IsState a → IsState b →
    IsHandedOver a b n cut → slice_get (channel a).lanes r ≡ Some l → slice_get (channel b).lanes r ≡ Some m → unit_at cut r + j ≤ length l.facts →
    named_in (before + bytes_before cut r l) b.config.target m first last ≡ KeptUnits i j →
    NamesOrTrimmed before a.config.target l first last (unit_at cut r + i) (unit_at cut r + j)

-- and a path of the first one from the cut on names the same units in the second, as far as that one has come
abbrev pub PathsNameSameUnitsAfterHandover : Type 0
PathsNameSameUnitsAfterHandover = (before : ℕ) (a b : State) (n : ℕ) (cut : Place) (r : ℕ) (l m : Lane) (first last i j : ℕ) → IsState a → IsState b →
    IsHandedOver a b n cut → slice_get (channel a).lanes r ≡ Some l → slice_get (channel b).lanes r ≡ Some m → j ≤ length m.facts →
    named_in before a.config.target l first last ≡ KeptUnits (unit_at cut r + i) (unit_at cut r + j) →
    NamesOrTrimmed (before + bytes_before cut r l) b.config.target m first last i j

-- units that both channels keep have the same bytes, if the encoders sent both the same units
abbrev pub HandedOverUnitsHaveSameBytes : Type 0
HandedOverUnitsHaveSameBytes = (u i j : ℕ) (l m : Lane) (h g : HeldBytes) → MatchesBytes l h → MatchesBytes m g → SameUnitsFrom u l m h g → i ≤ j →
    l.floor ≤ u + i → m.floor ≤ i → u + j ≤ length l.facts → j ≤ length m.facts → unit_bytes l h (u + i) (u + j) ≡ unit_bytes m g i j

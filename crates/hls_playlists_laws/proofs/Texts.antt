-- The live playlist of a state can be written.
use Rattle.std.proofs.Common.{◌≡◌, ℕ, zero, suc, ◌+◌, ◌-◌, ◌*◌, ◌^◌, ◌<◌, ◌≤◌, true, ◌++◌, length, map, take, get_or, Option, Some, None, arith, refl, sym, ap, subst, inl, inr, ◌∙◌, All, length-drop}
use Rattle.std.specs.Prelude.{slice_get}
use Rattle.std.proofs.lemmas.Option.{slice_get-get_or}
use Rattle.std.proofs.lemmas.Bool.{cases_Bool, ltb-true, cond-true, cond-false}
use Rattle.std.proofs.lemmas.List.Elements.{All-map, All-drop}
use Rattle.std.proofs.lemmas.List.Sums.{count_by-le-length}
use Rattle.std.proofs.lemmas.List.{length-take-le}
use Rattle.hls_media_laws.specs.InitData.{InitData}
use Rattle.hls_media_laws.specs.declared.facts.Facts.{Facts}
use Rattle.hls_media_laws.specs.FactLists.{total_bytes}
use Rattle.hls_playlists_laws.proofs.Cited.{units_are_bounded, inits_are_bounded, step-from_allowed, live_has_text, at_beside, some_at, lanes_count, sources_count, source_of, lanes_timed, line_few}
use Rattle.hls_check_tables.specs.Tables.{spot_in}
use Rattle.hls_places_laws.specs.declared.line.live_segment.LiveSegment as live_line
use Rattle.hls_places_laws.specs.Line.Lengths.{marks_in, is_marked}
use Rattle.hls_places_laws.specs.Line.Live.{segments_of, has_ended as ends}
use Rattle.hls_m3u8.specs.Playlist.{Playlist}
use Rattle.hls_m3u8.specs.HasText.{HasText, IsSegment}
use Rattle.hls_playlists_laws.specs.JobResource.{bytes_between}
use Rattle.hls_playlists_laws.specs.Segments.{ResourceLayout}
use Rattle.hls_playlists_laws.proofs.Dates.{spots_small, date_good}
use Rattle.hls_playlists_laws.proofs.Good.{some_bytes, few_bytes}
use Rattle.hls_core_laws.specs.Config.{IsConfig}
use Rattle.hls_core_laws.specs.Channel.{Lane, lane_len}
use Rattle.hls_core_laws.specs.State.{State, channel}
use Rattle.hls_core_laws.specs.IsState.{IsState}
use Rattle.hls_core_laws.specs.Places.{sources}
use Rattle.hls_core_laws.specs.Line.{line_goal_of, line}
use Rattle.std.proofs.lemmas.Option.{slice_get_within}
use Rattle.hls_playlists_laws.specs.Live.{live_uri, live_layout, live_media_segment, live_list_over, has_closed_segment, live_list_in, live_list_of}
use Rattle.hls_playlists_laws.proofs.Told.{closed, closed-reached, removed-few, places-few}
use Rattle.hls_playlists_laws.proofs.Totals.{lane-small}
use Rattle.hls_playlists_laws.proofs.Uris.{media_uri}

-- a state has a live playlist of a rendition
pub record IsListed (s : State) (r : ℕ) (list : Playlist) : Type 0 where
  pub lane : Lane
  pub at : slice_get (channel s).lanes r ≡ Some lane
  pub some : 0 < length (closed s)
  pub is : live_list_over s.config.epoch r lane (line s) ≡ list

-- if a state has closed a segment, there is one in its whole line
pub closed-some : (s : State) → IsState s → has_closed_segment (line s) ≡ true → 0 < length (closed s)
closed-some s state is =
    let any = ltb-true 0 ((channel s).removed + length (segments_of (line s))) is in
    omega (arith, any, removed-few s state, length-drop (channel s).removed (closed s))

-- a live playlist that is found by a lane of the state is that of the lane, over at least one closed segment
found-in : (s : State) → IsState s → (r : ℕ) (o : Option Lane) (list : Playlist) → slice_get (channel s).lanes r ≡ o →
    live_list_in s.config.epoch r o (line s) ≡ Some list → IsListed s r list
found-in s state r None list at is = absurd (cc)
found-in s state r (Some l) list at is =
    elim (cases_Bool (has_closed_segment (line s))) [
      | inl any ↦
          let some : Some (live_list_over s.config.epoch r l (line s)) ≡ Some list = sym (cond-true (has_closed_segment (line s)) _ _ any) ∙ is in
          record { lane = l; at = at; some = closed-some s state any; is = let same : live_list_over s.config.epoch r l (line s) ≡ list = cc in same }
      | inr none ↦
          let never : None ≡ Some list = sym (cond-false (has_closed_segment (line s)) _ _ none) ∙ is in
          absurd (cc)
    ]

-- a live playlist of a state is made of the rendition's lane and of at least one closed segment
pub is-listed : (s : State) → IsState s → (r : ℕ) (list : Playlist) → live_list_of s r ≡ Some list → IsListed s r list
is-listed s state r list is = found-in s state r (slice_get (channel s).lanes r) list refl is

-- each closed segment has a unit of each rendition, its ends are among the units, and the time of its start is small
pub record IsAmong (line_goal : ℕ) (r : ℕ) (l : Lane) (x : live_line.LiveSegment) : Type 0 where
  pub rises : (spot_in x.from.spots r).fragment < (spot_in x.to.spots r).fragment
  pub within : (spot_in x.to.spots r).fragment ≤ length l.facts
  pub fits : (spot_in x.to.spots r).prev_end - (spot_in x.from.spots r).start ≤ line_goal * 1000000 + 499999
  pub small : (spot_in x.from.spots r).start < 2 ^ 53

-- each closed segment has units of each rendition, which are there, fits the target duration, and starts before 2^53 microseconds
pub closed-among : (s : State) → IsState s → (r : ℕ) (l : Lane) → slice_get (channel s).lanes r ≡ Some l → All (IsAmong s.config.target r l) (closed s)
closed-among s state r l at k d h =
    let x : live_line.LiveSegment = get_or (closed s) k d in
    let reached = (closed-reached s state).segments k d h in
    let step = step-from_allowed (line_goal_of s.config) x.from x.to reached.allowed in
    let below : r < length (sources s) = omega (arith, sources_count s, slice_get_within (channel s).lanes r l at) in
    let here = step.step r (omega (arith, below, reached.from.count)) in
    record {
      rises = here.later;
      within = omega (arith, reached.to.within r below, ap length (source_of s r l at).facts);
      fits = here.fits;
      small = spots_small x.from.spots r reached.from.small;
    }

-- a rendition has its init section, of 1 to 1048576 bytes, and each of its units has bytes
pub record HasBegun (s : State) (r : ℕ) (l : Lane) : Type 0 where
  pub init : InitData
  pub is : l.init ≡ Some init
  pub some : 0 < l.size
  pub few : l.size ≤ 1048576
  pub each : All (λ f. 0 < f.len) l.facts

-- a rendition with a unit has its init section, of 1 to 1048576 bytes, and each of its units has bytes
begun-at : (s : State) → IsState s → (r : ℕ) (l : Lane) (o : Option InitData) → slice_get (channel s).lanes r ≡ Some l → l.init ≡ o → 0 < length l.facts → HasBegun s r l
begun-at s state r l None at is some =
    absurd (omega (arith, some, ap length ((lanes_timed s state.legal r l at).bare is)))
begun-at s state r l (Some init) at is some =
    let timed = lanes_timed s state.legal r l at in
    let held = at_beside (channel s).lanes s.bytes r l state.counts_agree at in
    let fits = state.fits r l held.0 at held.1 in
    let head = inits_are_bounded held.0.head init (fits.head init is) in
    record {
      init = init;
      is = is;
      some = omega (arith, head.some_bytes, fits.size);
      few = omega (arith, head.len_limit, fits.size);
      each = λ k d h.
          let f : Facts = get_or l.facts k d in
          let was = timed.were init is k f (slice_get-get_or l.facts k d h) in
          (units_are_bounded init was.bytes f was.is).some_bytes;
    }

-- once a segment was closed, each rendition has its init section and units that have bytes
pub has-begun : (s : State) → IsState s → (r : ℕ) (l : Lane) → slice_get (channel s).lanes r ≡ Some l → 0 < length (closed s) → HasBegun s r l
has-begun s state r l at any =
    let first = some_at (closed s) 0 any in
    let one = closed-among s state r l at 0 first.0 any in
    begun-at s state r l l.init at refl (omega (arith, one.rises, one.within))

-- a listed segment can be written
good-segment : (s : State) (r : ℕ) (l : Lane) (x : live_line.LiveSegment) → IsConfig s.config → HasBegun s r l → lane_len l ≤ 2 ^ 40 →
    IsAmong s.config.target r l x → IsSegment (live_uri r) (live_media_segment (live_layout s.config.epoch r l) x)
good-segment s r l x config begun total among =
    let from : ℕ = (spot_in x.from.spots r).fragment in
    let to : ℕ = (spot_in x.to.spots r).fragment in
    let some : 0 < bytes_between l.facts from to = some_bytes l.facts from to begun.each among.rises among.within in
    let few : bytes_between l.facts from to ≤ total_bytes l.facts = few_bytes l.facts from to in
    let before : bytes_between l.facts 0 from ≤ total_bytes l.facts = few_bytes l.facts 0 from in
    record {
      date = date_good s.config.epoch (spot_in x.from.spots r).start config.epoch among.small;
      length = omega (arith, among.fits, config.target.1);
      range = (some, omega (arith, few, total), omega (arith, before, total));
      uri_is = refl;
    }

-- the starts of the kept segments are small in every rendition
pub starts-small : (s : State) → IsState s → (r : ℕ) → All (λ x. (spot_in x.from.spots r).start < 2 ^ 53) (segments_of (line s))
starts-small s state r =
    let SmallAt : live_line.LiveSegment → Type 0 = λ x. (spot_in x.from.spots r).start < 2 ^ 53 in
    All-drop SmallAt (channel s).removed (closed s)
    (λ k d h.
    let x : live_line.LiveSegment = get_or (closed s) k d in
    spots_small x.from.spots r ((closed-reached s state).segments k d h).from.small)

-- the live playlists of a state can be written
pub live-lists-have-texts : (s : State) (r : ℕ) (list : Playlist) → IsState s → live_list_of s r ≡ Some list → HasText list
live-lists-have-texts s r list state is =
    let on = is-listed s state r list is in
    let l : Lane = on.lane in
    let begun = has-begun s state r l on.at on.some in
    let total = lane-small s state r l on.at in
    let target : s.config.target ≤ 3600 = state.configured.target.1 in
    let among = closed-among s state r l on.at in
    let removed : (channel s).removed ≤ 8388610 = omega (arith, line_few s state, places-few s state) in
    let marks : marks_in (channel s).removed (closed s) ≤ (channel s).removed =
    omega (
      arith,
      count_by-le-length is_marked (take (channel s).removed (closed s)),
      length-take-le (channel s).removed (closed s) (removed-few s state),
    ) in
    let few : r < 16 = omega (arith, slice_get_within (channel s).lanes r l on.at, lanes_count s.config s.log, state.configured.renditions.few) in
    let cut : ResourceLayout = live_layout s.config.epoch r l in
    let good : All (λ x. IsSegment (live_uri r) (live_media_segment cut x)) (closed s) =
    λ k d h. good-segment s r l (get_or (closed s) k d) state.configured begun total (among k d h) in
    let segments : All (IsSegment (live_uri r)) (map (live_media_segment cut) (segments_of (line s))) =
    All-map (IsSegment (live_uri r)) (live_media_segment cut) (segments_of (line s))
    (All-drop (λ x. IsSegment (live_uri r) (live_media_segment cut x)) (channel s).removed (closed s) good) in
    subst HasText on.is
    (live_has_text s.config.target (channel s).removed (marks_in (channel s).removed (closed s)) (live_uri r) l.size
    (map (live_media_segment cut) (segments_of (line s))) (ends (line s))
    (omega (arith, target)) (omega (arith, removed)) (omega (arith, removed, marks)) (media_uri r few) begun.some (omega (arith, begun.few)) segments)

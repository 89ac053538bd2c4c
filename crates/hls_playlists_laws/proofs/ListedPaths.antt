-- Each path that a state lists names kept units there.
use Rattle.std.proofs.Common.{◌≡◌, ℕ, zero, suc, ◌+◌, ◌-◌, ◌<◌, ◌≤◌, true, List, [], ◌∷◌, length, drop, take, Option, Some, None, arith, refl, sym, ap, subst, ◌∙◌, All}
use Rattle.std.specs.Prelude.{slice_get, slice_index_or, option_map}
use Rattle.std.proofs.Math.Seq.{take-add}
use Rattle.std.proofs.lemmas.Bool.{and_from, le-leb, lt-ltb}
use Rattle.std.proofs.lemmas.List.Sums.{sum_by-append}
use Rattle.std.proofs.lemmas.List.Elements.{All-head, All-tail}
use Rattle.std.proofs.lemmas.Option.{get_or_from_slice_get, same_Some, slice_get_within}
use Rattle.hls_media_laws.specs.declared.facts.Facts.{Facts}
use Rattle.hls_media_laws.specs.FactLists.{fact_at, len_of, total_bytes}
use Rattle.hls_media_laws.specs.InitData.{InitData}
use Rattle.hls_check_tables.specs.Tables.{spot_in}
use Rattle.hls_places_laws.specs.declared.place.Place.{Place}
use Rattle.hls_places_laws.specs.declared.line.live_segment.LiveSegment.{LiveSegment}
use Rattle.hls_places_laws.specs.declared.line.segment_start.SegmentStart.{SegmentStart}
use Rattle.hls_places_laws.specs.Sources.{source_at}
use Rattle.hls_places_laws.specs.Line.Progress.{LineProgress, no_progress, advanced_through}
use Rattle.hls_places_laws.proofs.Callers.{whole-is_told}
use Rattle.hls_m3u8.specs.declared.playlist.ByteRange.{ByteRange}
use Rattle.hls_m3u8.specs.declared.playlist.MediaSegment.{MediaSegment}
use Rattle.hls_m3u8.specs.HasText.{IsSegmentRange}
use Rattle.hls_m3u8.specs.Playlist.{Playlist}
use Rattle.hls_core_laws.specs.Base.{base_limit, bytes_before_base, run_text}
use Rattle.hls_core_laws.specs.Channel.{Lane}
use Rattle.hls_core_laws.specs.State.{State, channel}
use Rattle.hls_core_laws.specs.IsState.{IsState}
use Rattle.hls_core_laws.specs.Places.{places, sources}
use Rattle.hls_core_laws.specs.Line.{line, line_goal_of}
use Rattle.hls_core_laws.proofs.Callers.{at_drop, mapped_at, source_of, sources_count}
use Rattle.hls_playlists_laws.specs.JobResource.{bytes_between}
use Rattle.hls_playlists_laws.specs.Live.{live_list_of, live_list_over}
use Rattle.hls_playlists_laws.specs.JoinedLists.{Offsets, joined_list, joined_segment}
use Rattle.hls_playlists_laws.specs.Handovers.{shifted_range}
use Rattle.hls_playlists_laws.proofs.Origins.{listed-at}
use Rattle.hls_playlists_laws.proofs.Texts.{IsAmong, closed-among, has-begun, is-listed, live-lists-have-texts}
use Rattle.hls_playlists_laws.proofs.Told.{closed}
use Rattle.hls_playlists_laws.specs.BasedLists.{based_list_of, offsets_from}
use Rattle.hls_playlists_laws.specs.PathLists.{list_by_paths, path_list_of, segment_by_path, segment_path}
use Rattle.hls_playlists_laws.specs.NamedUnits.{KeptUnits, may_be_segment, named_in, unit_after}
use Rattle.hls_playlists_laws.specs.PathLaws.{IsKeptPath}
use Rattle.hls_playlists_laws.proofs.PathLists.{mapped-some}
use Rattle.hls_playlists_laws.proofs.UnitSearch.{finds-first}
use Rattle.hls_playlists_laws.proofs.NamedUnits.{kept-named}
use Rattle.hls_playlists_laws.proofs.HandedOver.{joined-at}
use Rattle.hls_playlists_laws.proofs.RisingLines.{ArePlacesRising, IsRisingFrom, line-rises, places-rising, rising-at}
use Rattle.hls_playlists_laws.proofs.Floors.{AnyPlace, keeps-units, unit_at}
use Rattle.hls_playlists_laws.proofs.PlaceSpots.{AreSpotsOf, IsSpotOf, places-of}

-- a segment of a rising line begins at `low` or after it, and P holds for its ends
rises-at : (P : Place → Type 0) (f : Place → ℕ) (low h : ℕ) (segments : List LiveSegment) (segment_start : Option SegmentStart) (best : Option Place) →
    IsRisingFrom P f low h segments segment_start best → (k : ℕ) (x : LiveSegment) → slice_get segments k ≡ Some x → (low ≤ f x.from) × P x.from × P x.to
rises-at P f low h [] None best is k x at = absurd (cc)
rises-at P f low h (y ∷ xs) None best is k x at = absurd is
rises-at P f low h segments (Some o) best is k x at = rising-at P f low segments (f o.place) k x is.0 at

-- both ends of each segment have the times of the units beside them
ends-of : (s : State) (k : ℕ) (x : LiveSegment) → slice_get (closed s) k ≡ Some x → AreSpotsOf (sources s) x.from × AreSpotsOf (sources s) x.to
ends-of s k x at =
    let P : Place → Type 0 = AreSpotsOf (sources s) in
    let none : Place → ℕ = λ p. 0 in
    let rising : ArePlacesRising P none 0 (places s) =
    places-rising P none 0 (places s) (places-of (sources s)) (λ n d h. omega arith) (λ i j d h within. omega arith) in
    let told = line-rises P none (line_goal_of s.config) 0 0 0 no_progress (places s) refl rising in
    let whole : LineProgress = advanced_through (line_goal_of s.config) 0 no_progress (places s) in
    let same : slice_get whole.line.segments k ≡ Some x =
    ap (λ (t : LineProgress). slice_get t.line.segments k) (sym (whole-is_told (line_goal_of s.config) (places s))) ∙ at in
    let ends = rises-at P none 0 _ whole.line.segments whole.line.segment_start whole.best told k x same in
    (ends.1, ends.2)

-- the first unit of a kept segment is kept
floor-below : (s : State) → IsState s → (r : ℕ) (l : Lane) → slice_get (channel s).lanes r ≡ Some l → (k : ℕ) (x : LiveSegment) →
    slice_get (closed s) ((channel s).removed + k) ≡ Some x → l.floor ≤ (spot_in x.from.spots r).fragment
floor-below s state r l at k x there =
    let kept : slice_get (line s).progress.line.segments k ≡ Some x = at_drop (closed s) (channel s).removed k ∙ there in
    (rises-at AnyPlace (unit_at r) l.floor _ (line s).progress.line.segments (line s).progress.line.segment_start (line s).progress.best
    (keeps-units s state r l at) k x kept).0

-- the bytes of the first n units are those of the first m and those from number m to the one before n
bytes-add : (facts : List Facts) (m n : ℕ) → m ≤ n → total_bytes (take n facts) ≡ total_bytes (take m facts) + bytes_between facts m n
bytes-add facts m n rises =
    let whole : n ≡ m + (n - m) = omega (arith, rises) in
    ap (λ (k : ℕ). total_bytes (take k facts)) whole
    ∙ (ap total_bytes (take-add m (n - m) facts) ∙ sum_by-append len_of (take m facts) (take (n - m) (drop m facts)))

bytes-first : (facts : List Facts) (m : ℕ) → bytes_between facts 0 m ≡ total_bytes (take m facts)
bytes-first facts m =
    let none : m - 0 ≡ m = omega arith in
    ap (λ (k : ℕ). total_bytes (take k facts)) none

-- a range is the bytes of the units from number m to the one before n, and there are some
record AreUnitsFrom (before : ℕ) (l : Lane) (m n : ℕ) (range : ByteRange) : Type 0 where
  offset : range.offset ≡ before + (l.size + bytes_between l.facts 0 m)
  len : range.length ≡ bytes_between l.facts m n
  some : 0 < range.length

-- a range of the bytes of kept units that may be a segment names exactly these units
names-units : (before target : ℕ) (l : Lane) (m n : ℕ) (range : ByteRange) → AreUnitsFrom before l m n range → All (λ f. 0 < f.len) l.facts → m < n →
    n ≤ length l.facts → may_be_segment target l.facts m n ≡ true → l.floor ≤ m →
    named_in before target l range.offset (range.offset + range.length - 1) ≡ KeptUnits m n
names-units before target l m n range units each rises within may kept =
    let first = bytes-first l.facts m in
    let parts = bytes-add l.facts m n (omega (arith, rises)) in
    let begins : range.offset - (l.size + before) ≡ total_bytes (take m l.facts) = omega (arith, units.offset, first) in
    let ends : range.offset + range.length - 1 + 1 - (l.size + before) ≡ total_bytes (take n l.facts) =
    omega (arith, units.offset, units.len, units.some, first, parts) in
    kept-named before target l.size l.facts l.floor range.offset (range.offset + range.length - 1) m n (record {
      low = omega (arith, units.offset);
      begins = ap (unit_after 0 l.facts) begins ∙ finds-first l.facts m each (omega (arith, rises, within));
      ends = ap (unit_after 0 l.facts) ends ∙ finds-first l.facts n each within;
      may = may;
    }) kept

-- if each number of a list is at most a limit, so is the one at any index, or 0 past the end
all-small : (limit : ℕ) (ns : List ℕ) (r : ℕ) → All (λ n. n ≤ limit) ns → slice_index_or ns r 0 ≤ limit
all-small limit [] r each = omega arith
all-small limit (n ∷ ns) zero each = All-head (λ (k : ℕ). k ≤ limit) n ns each
all-small limit (n ∷ ns) (suc r) each = all-small limit ns r (All-tail (λ (k : ℕ). k ≤ limit) n ns each)

-- a joined segment's range is shifted by the offsets' bytes
joined-range : (o : Offsets) (number : ℕ) (x : MediaSegment) → (joined_segment o number x).range ≡ option_map (shifted_range o.bytes) x.range
joined-range o zero x = refl
joined-range o (suc number) x = refl

-- a segment of a state's live playlist has, with its range counted from the base, a path of kept units
kept-segment : (s : State) → IsState s → (r : ℕ) (l : Lane) → slice_get (channel s).lanes r ≡ Some l → (p : Playlist) → live_list_of s r ≡ Some p →
    (k : ℕ) (x : MediaSegment) → slice_get p.segments k ≡ Some x →
    IsKeptPath s r l (segment_path (run_text s.config.base.run) r (option_map (shifted_range (bytes_before_base s.config.base r)) x.range))
kept-segment s state r l at p p-is k x x-at =
    let on = is-listed s state r p p-is in
    let same : on.lane ≡ l = same_Some on.lane l (sym on.at ∙ at) in
    let here : slice_get (live_list_over s.config.epoch r l (line s)).segments k ≡ Some x =
    ap (λ (z : Playlist). slice_get z.segments k) (ap (λ (z : Lane). live_list_over s.config.epoch r z (line s)) (sym same) ∙ on.is) ∙ x-at in
    let u = listed-at s r l k x here in
    let seg : LiveSegment = u.0 in
    let number : ℕ = (channel s).removed + k in
    let below : r < length (sources s) = omega (arith, sources_count s, slice_get_within (channel s).lanes r l at) in
    let inside : number < length (closed s) = slice_get_within (closed s) number seg u.1 in
    let among = subst (λ (z : LiveSegment). IsAmong s.config.target r l z) (get_or_from_slice_get (closed s) number seg seg u.1)
    (closed-among s state r l at number seg inside) in
    let begun = has-begun s state r l at on.some in
    let facts : (source_at (sources s) r).facts ≡ l.facts = (source_of s r l at).facts in
    let ends = ends-of s number seg u.1 in
    let from : IsSpotOf l.facts (spot_in seg.from.spots r) = subst (λ (fs : List Facts). IsSpotOf fs (spot_in seg.from.spots r)) facts (ends.0 r below) in
    let to : IsSpotOf l.facts (spot_in seg.to.spots r) = subst (λ (fs : List Facts). IsSpotOf fs (spot_in seg.to.spots r)) facts (ends.1 r below) in
    let m : ℕ = (spot_in seg.from.spots r).fragment in
    let n : ℕ = (spot_in seg.to.spots r).fragment in
    let starts : (spot_in seg.from.spots r).start ≡ (fact_at l.facts m).start_us = from.start (omega (arith, among.rises, among.within)) in
    let stops : (spot_in seg.to.spots r).prev_end ≡ (fact_at l.facts (n - 1)).end_us = to.end (omega (arith, among.rises)) in
    let may : may_be_segment s.config.target l.facts m n ≡ true =
    and_from _ _ (lt-ltb m n among.rises) (le-leb _ _ (omega (arith, among.fits, starts, stops))) in
    let before : ℕ = bytes_before_base s.config.base r in
    let range : ByteRange = record { length = bytes_between l.facts m n; offset = before + (l.size + bytes_between l.facts 0 m) } in
    let few : before ≤ base_limit = all-small base_limit s.config.base.bytes r state.configured.base.bytes in
    let text = live-lists-have-texts s r p state p-is in
    let written = subst (λ (z : MediaSegment). IsSegmentRange z.range) (get_or_from_slice_get p.segments k x x x-at ∙ sym u.2)
    (text.segments k x (slice_get_within p.segments k x x-at)).range in
    record {
      range = range;
      is = ap (λ (z : MediaSegment). segment_path (run_text s.config.base.run) r (option_map (shifted_range before) z.range)) (sym u.2);
      some = written.0;
      small = omega (arith, few, written.1, written.2);
      first = m;
      end = n;
      named = names-units before s.config.target l m n range (record { offset = refl; len = refl; some = written.0 }) begun.each among.rises among.within may
          (floor-below s state r l at k seg u.1);
    }

-- each path in a path list of a state is a path of kept units there
pub listed-paths-are-kept : (s : State) (r : ℕ) (l : Lane) (q : Playlist) (k : ℕ) (y : MediaSegment) → IsState s → slice_get (channel s).lanes r ≡ Some l →
    path_list_of s r ≡ Some q → slice_get q.segments k ≡ Some y → IsKeptPath s r l y.uri
listed-paths-are-kept s r l q k y state at q-is y-at =
    let run : List ℕ = run_text s.config.base.run in
    let o : Offsets = offsets_from s.config.base r in
    let based = mapped-some (list_by_paths run r) (based_list_of s r) q q-is in
    let live = mapped-some (joined_list o) (live_list_of s r) based.0 based.1 in
    let in_paths : slice_get (list_by_paths run r based.0).segments k ≡ Some y = ap (λ (z : Playlist). slice_get z.segments k) based.2 ∙ y-at in
    let x = mapped_at (segment_by_path run r) based.0.segments k y in_paths in
    let in_joined : slice_get (joined_list o live.0).segments k ≡ Some x.0 = ap (λ (z : Playlist). slice_get z.segments k) live.2 ∙ x.1 in
    let own = joined-at o live.0.media_sequence live.0.segments k x.0 in_joined in
    let kept = kept-segment s state r l at live.0 live.1 k own.0 own.1 in
    let range : x.0.range ≡ option_map (shifted_range o.bytes) own.0.range =
    ap (λ (z : MediaSegment). z.range) (sym own.2) ∙ joined-range o (live.0.media_sequence + k) own.0 in
    let uri : y.uri ≡ segment_path run r (option_map (shifted_range o.bytes) own.0.range) =
    ap (λ (z : MediaSegment). z.uri) (sym x.2) ∙ ap (segment_path run r) range in
    subst (IsKeptPath s r l) (sym uri) kept

-- a rendition with a path list has its init section
pub listed-inits-are-there : (s : State) (r : ℕ) (l : Lane) (q : Playlist) → IsState s → slice_get (channel s).lanes r ≡ Some l →
    path_list_of s r ≡ Some q → (init : InitData) × (l.init ≡ Some init)
listed-inits-are-there s r l q state at q-is =
    let based = mapped-some (list_by_paths (run_text s.config.base.run) r) (based_list_of s r) q q-is in
    let live = mapped-some (joined_list (offsets_from s.config.base r)) (live_list_of s r) based.0 based.1 in
    let on = is-listed s state r live.0 live.1 in
    let begun = has-begun s state r l at on.some in
    (begun.init, begun.is)

-- a rendition with a path list has a lane
pub listed-lane : (s : State) (r : ℕ) (q : Playlist) → IsState s → path_list_of s r ≡ Some q → (l : Lane) × (slice_get (channel s).lanes r ≡ Some l)
listed-lane s r q state q-is =
    let based = mapped-some (list_by_paths (run_text s.config.base.run) r) (based_list_of s r) q q-is in
    let live = mapped-some (joined_list (offsets_from s.config.base r)) (live_list_of s r) based.0 based.1 in
    let on = is-listed s state r live.0 live.1 in
    (on.lane, on.at)

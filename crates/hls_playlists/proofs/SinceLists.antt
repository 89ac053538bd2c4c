-- Playlists that start at a time, in a state and in one that follows.
use Rattle.std.proofs.Common.{◌≡◌, ◌∙◌, ℕ, ◌+◌, ◌-◌, ◌≤◌, List, [], ◌++◌, length, map, take, drop, Option, Some, arith, refl, sym, ap, subst, inl, inr, cond}
use Rattle.std.specs.Prelude.{option_map}
use Rattle.std.specs.List.{count_by}
use Rattle.std.proofs.lemmas.Bool.{cases_lt}
use Rattle.std.proofs.lemmas.List.{drop-append-le, take-append-le, length-map}
use Rattle.std.proofs.lemmas.List.Sums.{sum_by-append}
use Rattle.hls_m3u8.specs.declared.playlist.MediaSegment.{MediaSegment}
use Rattle.hls_m3u8.specs.declared.playlist.PlaylistKind.{PlaylistKind}
use Rattle.hls_m3u8.specs.Playlist.{Playlist}
use Rattle.hls_places_laws.specs.FromPlace.{PlacesNeverGoBack}
use Rattle.hls_places_laws.specs.Line.FromCut.{LineFromCutAgrees}
use Rattle.hls_places_laws.specs.Line.LineBounds.{FrontIsAPlace}
use Rattle.hls_core_laws.specs.Config.{ConfigData}
use Rattle.hls_core_laws.specs.State.{State, channel}
use Rattle.hls_core_laws.specs.IsState.{IsState}
use Rattle.hls_core_laws.specs.Line.{line}
use Rattle.hls_core_laws.proofs.Callers.{continues_of, follows_through, state_of}
use Rattle.hls_playlists_laws.specs.BasedLists.{based_list_of}
use Rattle.hls_playlists_laws.specs.PathLaws.{BasedListsFollow}
use Rattle.hls_playlists_laws.specs.LaterList.{is_marked}
use Rattle.hls_playlists_laws.specs.PathLists.{list_by_paths, media_folder, segment_in}
use Rattle.hls_playlists.specs.ShortLists.{shortened_list}
use Rattle.hls_m3u8.specs.declared.playlist.PlaylistKind.TheVariants.{Event}
use Rattle.hls_playlists.specs.declared.media_uris.MediaUris.TheVariants.{PathsAbove}
use Rattle.hls_playlists.specs.declared.start_time.StartTime.{StartTime}
use Rattle.hls_playlists.specs.declared.start_time.StartTime.TheVariants.{After, Before, Kept, Removed}
use Rattle.hls_playlists.specs.MediaUris.{run_above, served_list_of}
use Rattle.hls_playlists.specs.StartTimes.{list_since, list_since_start, start_in}
use Rattle.hls_playlists.specs.StartLaws.{HasGrown, ListsSinceGrow, RemovedListsStayRemoved}
use Rattle.hls_playlists.proofs.StartsOn.{gone-on, kept-on, kept-within}
use Rattle.hls_playlists.proofs.GoingOn.{GoesOn, drop-evicted, goes-on-by_paths, is-mapped, is-of-line, lists-go-on, take-evicted}

-- if both playlists hide the segments before the same one, the later one has grown
grown-shortened : (kind : Option PlaylistKind) (p q : Playlist) (n k : ℕ) → (goes : GoesOn p q) → n ≡ length goes.evicted + k → n ≤ length p.segments →
    HasGrown (shortened_list kind n p) (shortened_list kind k q)
grown-shortened kind p q n k goes number few = record {
  later = record {
    version = goes.version;
    target = goes.target;
    map = goes.map_is;
    evicted = [];
    appended = goes.appended;
    segments = sym (drop-append-le n p.segments goes.appended few) ∙ (ap (drop n) goes.segments ∙ drop-evicted goes.evicted q.segments n k number);
    media_sequence = omega (arith, goes.media_sequence, number);
    discontinuity_sequence =
        let front : take n p.segments ≡ goes.evicted ++ take k q.segments =
        sym (take-append-le n p.segments goes.appended few) ∙ (ap (take n) goes.segments ∙ take-evicted goes.evicted q.segments n k number) in
        let marks = ap (count_by is_marked) front in
        let both = sum_by-append (λ (x : MediaSegment). cond (is_marked x) 1 0) goes.evicted (take k q.segments) in
        omega (arith, marks, both, goes.discontinuity_sequence);
    ended = goes.ended;
    long = λ some not_ended. absurd (some refl);
  };
  begins = omega (arith, goes.media_sequence, number);
}

-- a playlist since a time is cut from the state's playlist, by paths, at the kept segment with that time
record IsSince (us : ℕ) (s : State) (r : ℕ) (list : Playlist) : Type 0 where
  n : ℕ
  start : start_in us (line s) ≡ Kept n
  whole : Playlist
  is : based_list_of s r ≡ Some whole
  cut : shortened_list (Some Event) n (list_by_paths (run_above s.config.base) r whole) ≡ list

-- a playlist since a time is cut from the state's playlist at a kept segment, given where the time is in the line
since-by : (us : ℕ) (s : State) (r : ℕ) (list : Playlist) (start : StartTime) → start_in us (line s) ≡ start → list_since_start start s r ≡ Some list → IsSince us s r list
since-by us s r list (Kept n) start is =
    let cut = is-mapped (shortened_list (Some Event) n) (served_list_of PathsAbove s r) list is in
    let paths = is-mapped (list_by_paths (run_above s.config.base) r) (based_list_of s r) cut.value cut.is in
    record {
      n = n;
      start = start;
      whole = paths.value;
      is = paths.is;
      cut = ap (shortened_list (Some Event) n) paths.same ∙ cut.same;
    }
since-by us s r list Removed start is = absurd (cc)
since-by us s r list Before start is = absurd (cc)
since-by us s r list After start is = absurd (cc)

-- a playlist since a time is cut from the state's playlist at the kept segment with that time
is-since : (us : ℕ) (s : State) (r : ℕ) (list : Playlist) → list_since us s r ≡ Some list → IsSince us s r list
is-since us s r list is = since-by us s r list (start_in us (line s)) refl is

-- in a state that follows one with a playlist since a time, that playlist has grown, or its first segment was removed
pub lists-since-grow : FrontIsAPlace → LineFromCutAgrees → PlacesNeverGoBack → BasedListsFollow → ListsSinceGrow
unfolding goes-on-by_paths
lists-since-grow front_stands cuts_agree go_on based_lists_follow us a b r earlier state follows is =
    let since = is-since us a r earlier is in
    let p : Playlist = since.whole in
    let on = lists-go-on based_lists_follow a b r p state follows since.is in
    let n : ℕ = since.n in
    let ra : ℕ = (channel a).removed in
    let rb : ℕ = (channel b).removed in
    elim (cases_lt (ra + n) rb) [
      | inl past ↦ inr (gone-on front_stands cuts_agree go_on a b us n state (state_of a b follows state) on.lines since.start past)
      | inr kept ↦
          let m : ℕ = ra + n - rb in
          let few : rb ≤ ra + n = omega (arith, kept) in
          let start : start_in us (line b) ≡ Kept m = kept-on a b us n state on.lines since.start few in
          let run : List ℕ = run_above a.config.base in
          let config : b.config ≡ a.config = (continues_of a b follows).config in
          let q : Playlist = on.next in
          let cut : Playlist = shortened_list (Some Event) m (list_by_paths run r q) in
          let there : list_since us b r ≡ Some cut =
          ap (λ (t : StartTime). list_since_start t b r) start
          ∙ (ap (λ o. option_map (shortened_list (Some Event) m) (option_map (list_by_paths (run_above b.config.base) r) o)) on.is
          ∙ ap (λ (c : ConfigData). Some (shortened_list (Some Event) m (list_by_paths (run_above c.base) r q))) config) in
          let by_paths = goes-on-by_paths run r p q on.goes in
          let number : n ≡ length by_paths.evicted + m =
          omega (arith, on.number, few, length-map on.goes.evicted (segment_in (media_folder run r))) in
          let within : n ≤ length (list_by_paths run r p).segments =
          omega (arith, kept-within us a n since.start, (is-of-line a r p state since.is).count, length-map p.segments (segment_in (media_folder run r))) in
          let grown = grown-shortened (Some Event) (list_by_paths run r p) (list_by_paths run r q) n m by_paths number within in
          inl (cut, there, subst (λ (x : Playlist). HasGrown x cut) since.cut grown)
    ]

-- if the first segment of a playlist since a time was removed, the time stays in a removed segment in each later state
pub removed-stay-removed : FrontIsAPlace → LineFromCutAgrees → PlacesNeverGoBack → BasedListsFollow → RemovedListsStayRemoved
removed-stay-removed front_stands cuts_agree go_on based_lists_follow us a b c r earlier state ab bc is removed =
    let since = is-since us a r earlier is in
    let n : ℕ = since.n in
    let state_b : IsState b = state_of a b ab state in
    let state_c : IsState c = state_of b c bc state_b in
    let first = lists-go-on based_lists_follow a b r since.whole state ab since.is in
    let second = lists-go-on based_lists_follow b c r first.next state_b bc first.is in
    let both = lists-go-on based_lists_follow a c r since.whole state (follows_through a b c ab bc) since.is in
    elim (cases_lt ((channel a).removed + n) (channel b).removed) [
      | inl past ↦ gone-on front_stands cuts_agree go_on a c us n state state_c both.lines since.start (omega (arith, past, second.lines.rises))
      | inr kept ↦
          let start = kept-on a b us n state first.lines since.start (omega (arith, kept)) in
          let never : Kept ((channel a).removed + n - (channel b).removed) ≡ Removed = sym start ∙ removed in
          absurd (cc)
    ]

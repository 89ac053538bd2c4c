-- The live playlists of an origin that began at a cut of another's live line.
use Rattle.std.proofs.Common.{◌≡◌, ◌⊎◌, ℕ, zero, suc, ◌+◌, ◌-◌, ◌<◌, ◌≤◌, false, List, length, map, take, drop, get_or, Option, Some, arith, refl, sym, ap, subst, inl, inr, ◌∙◌}
use Rattle.std.specs.Prelude.{◌==◌, ℤ, slice_get}
use Rattle.std.proofs.Math.Seq.{take-add}
use Rattle.std.proofs.lemmas.Bool.{cond-false}
use Rattle.std.proofs.lemmas.List.{length-drop, drop-drop}
use Rattle.std.proofs.lemmas.List.Sums.{sum_by-append}
use Rattle.std.proofs.lemmas.Option.{get_or_from_slice_get, same_Some}
use Rattle.hls_media_laws.specs.declared.facts.Facts.{Facts}
use Rattle.hls_media_laws.specs.FactLists.{len_of, total_bytes}
use Rattle.hls_check_tables.specs.declared.spot.Spot.{Spot}
use Rattle.hls_check_tables.specs.Tables.{spot_in}
use Rattle.hls_places_laws.specs.declared.place.Place.{Place}
use Rattle.hls_places_laws.specs.Sources.{Source, source_at}
use Rattle.hls_places_laws.specs.Order.{no_place}
use Rattle.hls_places_laws.specs.FromPlace.{spot_since, place_since, source_since}
use Rattle.hls_playlists_laws.proofs.Cited.{places-ordered, since_at, since_long, from_at, spot_since_at, front-stands, segments-since, marks-since, some_at, IsOf, sources_count, source_of, states_are_timed}
use Rattle.hls_places_laws.specs.declared.line.live_segment.LiveSegment as live_line
use Rattle.hls_places_laws.specs.Line.Cuts.{line_of}
use Rattle.hls_places_laws.specs.Line.Lengths.{marks_in}
use Rattle.hls_places_laws.specs.Line.FromCut.{IsBegunAt, segment_counted_from, IsSameFrom, IsCutOf}
use Rattle.hls_m3u8.specs.declared.playlist.ByteRange.{ByteRange}
use Rattle.hls_m3u8.specs.declared.playlist.MediaSegment.{MediaSegment}
use Rattle.hls_m3u8.specs.Playlist.{Playlist}
use Rattle.hls_m3u8.specs.Written.{init_at}
use Rattle.hls_core_laws.specs.Config.{ConfigData}
use Rattle.hls_core_laws.specs.Channel.{Lane}
use Rattle.hls_core_laws.specs.State.{State, channel}
use Rattle.hls_core_laws.specs.IsState.{IsState}
use Rattle.hls_core_laws.specs.Places.{tolerance_of, sources, places}
use Rattle.hls_core_laws.specs.Line.{line_goal_of, line}
use Rattle.std.proofs.lemmas.Option.{slice_get_within}
use Rattle.hls_playlists_laws.specs.JobResource.{bytes_between}
use Rattle.hls_playlists_laws.specs.Segments.{date_at}
use Rattle.hls_playlists_laws.specs.Live.{live_uri, live_layout, live_media_segment, live_list_over, live_list_of}
use Rattle.hls_playlists_laws.specs.Origins.{LaneBegins}
use Rattle.hls_playlists_laws.specs.Handovers.{unit_at, lane_from, IsHandedOver, bytes_before, marks_to, IsShifted, ContinuesAt}
use Rattle.hls_playlists_laws.proofs.Told.{closed, removed-few}
use Rattle.hls_playlists_laws.proofs.Listed.{StandsAmong, bytes-stay}
use Rattle.hls_playlists_laws.proofs.Texts.{IsAmong, closed-among, is-listed}
use Rattle.hls_playlists_laws.proofs.Origins.{source-begins, lanes-same, closed-at, stands-at, sizes-same, listed-at}

-- the cut is one of the first's places, so it has a spot in each rendition
cut-long : (a : State) → IsState a → (n : ℕ) (cut : Place) → IsCutOf (line_goal_of a.config) (sources a) n cut → length cut.spots ≡ length (sources a)
cut-long a state n cut is_cut =
    let stands = front-stands (line_goal_of a.config) (places a) n cut is_cut.front in
    let ordered = places-ordered (sources a) (states_are_timed a state) in
    let same : get_or (places a) stands.number no_place ≡ cut = get_or_from_slice_get (places a) stands.number cut no_place stands.there in
    let count = (ordered.each stands.number no_place (slice_get_within (places a) stands.number cut stands.there)).place.count in
    ap (λ (p : Place). length p.spots) (sym same) ∙ count

-- the source of a rendition from a spot on is that of its lane from the spot's unit on
since-is : (s : Source) (l : Lane) (cut : Spot) (n tolerance : ℕ) → cut.fragment ≡ n → IsOf s l tolerance → IsOf (source_since cut s) (lane_from n l) tolerance
since-is s l cut n tolerance number is = record {
  facts = ap (λ (k : ℕ). drop k s.facts) number ∙ ap (drop n) is.facts;
  tolerance_is = is.tolerance_is;
  finished = is.finished;
}

-- the renditions of a channel that continues another one at a cut begin at that cut of the other's
begun-at : (a b : State) → IsState a → (n : ℕ) (cut : Place) → IsHandedOver a b n cut → IsBegunAt cut (sources a) (sources b)
begun-at a b state n cut over =
    let long = cut-long a state n cut over.is_cut in
    let count = since_long cut.spots (sources a) long in
    record {
      same = sources_count b ∙ (lanes-same a b over.config ∙ (sym (sources_count a) ∙ sym count));
      each = λ r h.
          let inside : r < length (sources a) = omega (arith, h, count) in
          let l = some_at (channel a).lanes r (omega (arith, inside, sources_count a)) in
          let m = some_at (channel b).lanes r (omega (arith, inside, sources_count a, lanes-same a b over.config)) in
          let tolerance : ℕ = get_or (map tolerance_of a.config.renditions) r 0 in
          let is_l : IsOf (source_since (spot_in cut.spots r) (source_at (sources a) r)) (lane_from (unit_at cut r) l.0) tolerance =
          since-is (source_at (sources a) r) l.0 (spot_in cut.spots r) (unit_at cut r) tolerance refl (source_of a r l.0 l.1) in
          let is_m : IsOf (source_at (sources b) r) m.0 tolerance =
          subst (λ (c : ConfigData). IsOf (source_at (sources b) r) m.0 (get_or (map tolerance_of c.renditions) r 0)) over.config (source_of b r m.0 m.1) in
          rw (since_at cut.spots (sources a) r long inside) (elim (over.each r l.0 m.0 l.1 m.1) [
            | inl left ↦ inl (source-begins _ _ (lane_from (unit_at cut r) l.0) m.0 tolerance is_l is_m left)
            | inr right ↦ inr (source-begins _ _ m.0 (lane_from (unit_at cut r) l.0) tolerance is_m is_l right)
          ]);
    }

-- units have the same bytes if they are counted from the cut
bytes-after_cut : (facts : List Facts) (cut from to : ℕ) → cut ≤ from → from ≤ to →
    bytes_between (drop cut facts) (from - cut) (to - cut) ≡ bytes_between facts from to
bytes-after_cut facts cut from to after rises =
    let many : (to - cut) - (from - cut) ≡ to - from = omega (arith, after, rises) in
    let upto : cut + (from - cut) ≡ from = omega (arith, after) in
    ap (λ (k : ℕ). total_bytes (take k (drop (from - cut) (drop cut facts)))) many
    ∙ (ap (λ (l : List Facts). total_bytes (take (to - from) l)) (drop-drop (from - cut) cut facts)
    ∙ ap (λ (k : ℕ). total_bytes (take (to - from) (drop k facts))) upto)

-- the bytes before a unit after the cut are those before the cut and those from there on
offset-after_cut : (facts : List Facts) (cut from : ℕ) → cut ≤ from →
    bytes_between facts 0 from ≡ total_bytes (take cut facts) + bytes_between (drop cut facts) 0 (from - cut)
offset-after_cut facts cut from after =
    let none : from - 0 ≡ cut + (from - cut) = omega (arith, after) in
    let less : from - cut - 0 ≡ from - cut = omega arith in
    ap (λ (k : ℕ). total_bytes (take k facts)) none
    ∙ (ap total_bytes (take-add cut (from - cut) facts)
    ∙ (sum_by-append len_of (take cut facts) (take (from - cut) (drop cut facts))
    ∙ ap (λ (k : ℕ). total_bytes (take cut facts) + total_bytes (take k (drop cut facts))) (sym less)))

-- as far as both have come, the second's units are the first's from the cut on
same-bytes : (n : ℕ) (l m : Lane) → LaneBegins (lane_from n l) m ⊎ LaneBegins m (lane_from n l) → (from to : ℕ) → from ≤ to →
    to ≤ length (drop n l.facts) → to ≤ length m.facts → bytes_between m.facts from to ≡ bytes_between (drop n l.facts) from to
same-bytes n l m (inl left) from to rises within also =
    ap (λ (fs : List Facts). bytes_between fs from to) left.facts
    ∙ bytes-stay (drop n l.facts) left.more from to (omega (arith, rises, within)) within
same-bytes n l m (inr right) from to rises within also =
    sym (ap (λ (fs : List Facts). bytes_between fs from to) right.facts
    ∙ bytes-stay m.facts right.more from to (omega (arith, rises, also)) also)

-- init sections of both channels have the same size in a rendition
same-size : (n : ℕ) (l m : Lane) → LaneBegins (lane_from n l) m ⊎ LaneBegins m (lane_from n l) → m.size ≡ l.size
same-size n l m either = sizes-same (lane_from n l) m either

-- counted from an earlier unit, a spot has the same end of the unit before it
end-since : (c t : Spot) → c.fragment < t.fragment → (spot_since c t).prev_end ≡ t.prev_end
end-since c t h =
    let apart : (t.fragment == c.fragment) ≡ false = grind (arith) in
    cond-false (t.fragment == c.fragment) t.start t.prev_end apart

-- a segment that is counted from the cut begins and ends at its places, counted from the cut
counted-from : (cut : Place) (n : ℕ) (x : live_line.LiveSegment) → (segment_counted_from cut n x).from ≡ place_since cut.spots x.from
counted-from cut zero x = refl
counted-from cut (suc n) x = refl

counted-to : (cut : Place) (n : ℕ) (x : live_line.LiveSegment) → (segment_counted_from cut n x).to ≡ place_since cut.spots x.to
counted-to cut zero x = refl
counted-to cut (suc n) x = refl

-- a segment's mark is the same counted from the cut, unless it is the first after the cut
counted-mark : (cut : Place) (n : ℕ) (x : live_line.LiveSegment) → 1 ≤ n → (segment_counted_from cut n x).mark ≡ x.mark
counted-mark cut zero x some = absurd (omega (arith, some))
counted-mark cut (suc n) x some = refl

-- a segment of the first and the same one of the second, in one rendition
record AreSameIn (cut : Place) (r : ℕ) (u v : live_line.LiveSegment) : Type 0 where
  from : spot_in v.from.spots r ≡ spot_since (spot_in cut.spots r) (spot_in u.from.spots r)
  to : spot_in v.to.spots r ≡ spot_since (spot_in cut.spots r) (spot_in u.to.spots r)
  after_cut : unit_at cut r ≤ (spot_in u.from.spots r).fragment

-- segments that are the same after the cut have, counted from it, the same spots at their ends in each rendition
same-in : (cut : Place) (r n : ℕ) (u v : live_line.LiveSegment) → r < length cut.spots → IsSameFrom cut n u v → AreSameIn cut r u v
same-in cut r n u v h is = record {
  from = ap (λ (x : live_line.LiveSegment). spot_in x.from.spots r) is.same
      ∙ (ap (λ (p : Place). spot_in p.spots r) (counted-from cut n u) ∙ spot_since_at cut.spots u.from.spots r is.after_cut.0 h);
  to = ap (λ (x : live_line.LiveSegment). spot_in x.to.spots r) is.same
      ∙ (ap (λ (p : Place). spot_in p.spots r) (counted-to cut n u) ∙ spot_since_at cut.spots u.to.spots r is.after_cut.1 h);
  after_cut = (from_at cut.spots u.from.spots r is.after_cut.0 h).fragment;
}

-- two ranges after init sections are equal if the sizes of the init sections, the bytes before and the lengths are
same-range : (size n f : ℕ) (size_too m g : ℕ) → size ≡ size_too → n ≡ m → f ≡ g →
    let one : Option ByteRange = Some (record { length = n; offset = size + f }) in
    let two : Option ByteRange = Some (record { length = m; offset = size_too + g }) in
    one ≡ two
same-range size n f size_too m g e1 e2 e3 = rw (e1, e2, e3) refl

-- a segment after the cut is the same in both playlists, with its range shifted by the bytes before the cut
is-moved : (epoch : Option ℤ) (epoch_too : Option ℤ) (cut : Place) (r : ℕ) (l m : Lane) (u v : live_line.LiveSegment) (target : ℕ) → epoch_too ≡ epoch →
    LaneBegins (lane_from (unit_at cut r) l) m ⊎ LaneBegins m (lane_from (unit_at cut r) l) → AreSameIn cut r u v →
    IsAmong target r l u → StandsAmong r m.facts v →
    IsShifted (bytes_before cut r l) (live_media_segment (live_layout epoch r l) u) (live_media_segment (live_layout epoch_too r m) v)
is-moved epoch epoch_too cut r l m u v target same_epoch either same among stands =
    let c : ℕ = unit_at cut r in
    let from : ℕ = (spot_in u.from.spots r).fragment in
    let to : ℕ = (spot_in u.to.spots r).fragment in
    let from_is : (spot_in v.from.spots r).fragment ≡ from - c = ap (λ (x : Spot). x.fragment) same.from in
    let to_is : (spot_in v.to.spots r).fragment ≡ to - c = ap (λ (x : Spot). x.fragment) same.to in
    let start_is : (spot_in v.from.spots r).start ≡ (spot_in u.from.spots r).start = ap (λ (x : Spot). x.start) same.from in
    let end_is : (spot_in v.to.spots r).prev_end ≡ (spot_in u.to.spots r).prev_end =
    ap (λ (x : Spot). x.prev_end) same.to ∙ end-since (spot_in cut.spots r) (spot_in u.to.spots r) (omega (arith, same.after_cut, among.rises)) in
    let left = length-drop c l.facts in
    let within : to - c ≤ length (drop c l.facts) = omega (arith, left, among.within) in
    let also : to - c ≤ length m.facts = omega (arith, to_is, stands.to) in
    let rises : from - c ≤ to - c = omega (arith, among.rises) in
    let long : bytes_between m.facts (spot_in v.from.spots r).fragment (spot_in v.to.spots r).fragment ≡ bytes_between l.facts from to =
    rw (from_is, to_is) (same-bytes c l m either (from - c) (to - c) rises within also
    ∙ bytes-after_cut l.facts c from to same.after_cut (omega (arith, among.rises))) in
    let before : bytes_between m.facts 0 (spot_in v.from.spots r).fragment ≡ bytes_between (drop c l.facts) 0 (from - c) =
    rw from_is (same-bytes c l m either 0 (from - c) (omega arith) (omega (arith, rises, within)) (omega (arith, rises, also))) in
    let offset = offset-after_cut l.facts c from same.after_cut in
    let range : ByteRange = record { length = bytes_between l.facts from to; offset = l.size + bytes_between (drop c l.facts) 0 (from - c) } in
    record {
      date = ap (λ (e : Option ℤ). date_at e (spot_in v.from.spots r).start) same_epoch ∙ ap (date_at epoch) start_is;
      us = rw (start_is, end_is) refl;
      uri = refl;
      range = range;
      here = same-range m.size _ _ l.size _ _ (same-size c l m either) long before;
      there = ap (λ (k : ℕ). Some (record { length = bytes_between l.facts from to; offset = k })) (omega (arith, offset));
    }

-- a closed segment is found under each equal number
closed-number : (s : State) (n m : ℕ) (x : live_line.LiveSegment) → n ≡ m → slice_get (closed s) n ≡ Some x → slice_get (closed s) m ≡ Some x
closed-number s n m x same at = ap (slice_get (closed s)) (sym same) ∙ at

-- the marks of the first's first n + k segments are those up to the cut and those of the second's first k segments
pub marks-on : (a b : State) (n k : ℕ) (cut : Place) → IsState a → IsState b → IsHandedOver a b n cut →
    n + k ≤ length (closed a) → k ≤ length (closed b) → 1 ≤ k → marks_in (n + k) (closed a) ≡ marks_to a n + marks_in k (closed b)
marks-on a b n zero cut state_a state_b over few also some = absurd (omega (arith, some))
marks-on a b n (suc k) cut state_a state_b over few also some =
    let is_b : closed b ≡ (line_of (line_goal_of a.config) (places b)).segments =
    ap (λ (c : ConfigData). (line_of (line_goal_of c) (places b)).segments) over.config in
    let on = marks-since (line_goal_of a.config) (sources a) (sources b) n cut (states_are_timed a state_a) (states_are_timed b state_b) over.is_cut
    (begun-at a b state_a n cut over) k (omega (arith, few)) (omega (arith, also, ap length is_b)) in
    on ∙ ap (λ (l : List live_line.LiveSegment). marks_to a n + marks_in (suc k) l) (sym is_b)

-- for a lane of each: the second's live playlist continues the first's at the cut
pub on-over : (a b : State) (n : ℕ) (cut : Place) (r : ℕ) (l m : Lane) → IsState a → IsState b → IsHandedOver a b n cut →
    slice_get (channel a).lanes r ≡ Some l → slice_get (channel b).lanes r ≡ Some m →
    ContinuesAt n (marks_to a n) (bytes_before cut r l) (live_list_over a.config.epoch r l (line a)) (live_list_over b.config.epoch r m (line b))
on-over a b n cut r l m state_a state_b over at also =
    let either = over.each r l m at also in
    let begun = begun-at a b state_a n cut over in
    let long = cut-long a state_a n cut over.is_cut in
    let inside : r < length cut.spots = omega (arith, long, sources_count a, slice_get_within (channel a).lanes r l at) in
    record {
      target = ap (λ (c : ConfigData). c.target) over.config;
      map = ap (λ (k : ℕ). Some (init_at (live_uri r) k)) (same-size (unit_at cut r) l m either);
      segments = λ j k x y x-at y-at number.
          let u = listed-at a r l j x x-at in
          let v = listed-at b r m k y y-at in
          let there : slice_get (closed a) (n + ((channel b).removed + k)) ≡ Some u.0 =
          closed-number a ((channel a).removed + j) (n + ((channel b).removed + k)) u.0 number u.1 in
          let same = segments-since (line_goal_of a.config) (sources a) (sources b) n cut (states_are_timed a state_a) (states_are_timed b state_b)
          over.is_cut begun ((channel b).removed + k) u.0 v.0
          (closed-at a a.config (n + ((channel b).removed + k)) u.0 refl there)
          (closed-at b a.config ((channel b).removed + k) v.0 over.config v.1) in
          let among : IsAmong a.config.target r l u.0 =
          subst (IsAmong a.config.target r l) (get_or_from_slice_get (closed a) ((channel a).removed + j) u.0 u.0 u.1)
          (closed-among a state_a r l at ((channel a).removed + j) u.0 (slice_get_within (closed a) ((channel a).removed + j) u.0 u.1)) in
          let moved = is-moved a.config.epoch b.config.epoch cut r l m u.0 v.0 a.config.target (ap (λ (c : ConfigData). c.epoch) over.config) either
          (same-in cut r ((channel b).removed + k) u.0 v.0 inside same) among
          (stands-at b state_b r m ((channel b).removed + k) v.0 also v.1) in
          let shift : ℕ = bytes_before cut r l in (
            subst (λ (z : MediaSegment). IsShifted shift z y) u.2 (subst (λ (z : MediaSegment). IsShifted shift (live_media_segment (live_layout a.config.epoch r l) u.0) z) v.2 moved),
            λ some. ap (λ (z : MediaSegment). z.mark) (sym v.2)
                ∙ (ap (λ (z : live_line.LiveSegment). z.mark) same.same
                ∙ (counted-mark cut ((channel b).removed + k) u.0 some ∙ ap (λ (z : MediaSegment). z.mark) u.2)),
          );
      marks = λ some number.
          ap (λ (k : ℕ). marks_in k (closed a)) number
          ∙ marks-on a b n (channel b).removed cut state_a state_b over (omega (arith, number, removed-few a state_a)) (removed-few b state_b) some;
    }

-- the live playlist of a channel that continues another one at a cut continues that one's
pub live-lists-continuation : (a b : State) (n : ℕ) (cut : Place) (r : ℕ) (l : Lane) (p q : Playlist) → IsState a → IsState b →
    IsHandedOver a b n cut → slice_get (channel a).lanes r ≡ Some l → live_list_of a r ≡ Some p → live_list_of b r ≡ Some q →
    ContinuesAt n (marks_to a n) (bytes_before cut r l) p q
live-lists-continuation a b n cut r l p q state_a state_b over at p-is q-is =
    let x = is-listed a state_a r p p-is in
    let y = is-listed b state_b r q q-is in
    let same : x.lane ≡ l = same_Some x.lane l (sym x.at ∙ at) in
    let shift : ℕ = bytes_before cut r l in
    subst (λ (z : Playlist). ContinuesAt n (marks_to a n) shift z q) (ap (λ (k : Lane). live_list_over a.config.epoch r k (line a)) (sym same) ∙ x.is)
    (subst (λ (z : Playlist). ContinuesAt n (marks_to a n) shift (live_list_over a.config.epoch r l (line a)) z) y.is
    (on-over a b n cut r l y.lane state_a state_b over at y.at))

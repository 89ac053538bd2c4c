-- A plan's playlist and resource are the same in a rendition that is recorded from an earlier place on.
use Rattle.std.proofs.Common.{◌≡◌, ◌∙◌, ℕ, suc, ◌+◌, ◌-◌, ◌<◌, ◌≤◌, Bool, false, not, Option, Some, List, [], ◌∷◌, ◌++◌, length, take, drop, arith, refl, ap}
use Rattle.std.specs.Prelude.{ℤ, ◌==◌}
use Rattle.std.specs.List.{concat, list_any}
use Rattle.std.proofs.lemmas.List.{drop-drop, length-map}
use Rattle.hls_media_laws.specs.declared.facts.Facts.{Facts}
use Rattle.hls_media_laws.specs.FactLists.{total_bytes}
use Rattle.hls_record.specs.RecordingData.{RecordingData}
use Rattle.hls_check_tables.specs.declared.spot.Spot.{Spot}
use Rattle.hls_check_tables.specs.Plans.{IsPlan, StepsAreAllowed}
use Rattle.hls_check_tables.specs.Steps.{Allowed}
use Rattle.hls_check_tables.specs.Tables.{Table, place_at, spot_in}
use Rattle.hls_places_laws.specs.FromPlace.{AreSpotsFrom, IsSpotFrom, spot_since, spots_since}
use Rattle.hls_m3u8.specs.declared.playlist.MediaSegment.{MediaSegment}
use Rattle.hls_m3u8.specs.PlaylistForms.{vod_list}
use Rattle.hls_playlists_laws.specs.JobPlaylists.{job_layout, job_list, job_uri}
use Rattle.hls_playlists_laws.specs.JobResource.{bytes_between, resource_of, units_between}
use Rattle.hls_playlists_laws.specs.SegmentLaws.{end_fragment, first_fragment}
use Rattle.hls_playlists_laws.specs.Segments.{ResourceLayout, date_at, is_break, is_gap_at, plan_segments_from, segment_between}
use Rattle.hls_renewal.specs.Programmes.{table_since}
use Rattle.hls_renewal.proofs.PlansSince.{end-stays, from, mapped, spot}

-- ---- gaps before a later place

-- two numbers are equal exactly if they are equal after subtracting a number that exceeds neither
same-apart : (a b c : ℕ) → c ≤ a → c ≤ b → (a - c == b - c) ≡ (a == b)
same-apart a b c low high = grind (arith)

-- a spot after the cut has a gap before it exactly if it has one when counted from the cut
gap-since : (c s : Spot) → IsSpotFrom c s → c.fragment < s.fragment → is_gap_at (spot_since c s) ≡ is_gap_at s
gap-since c s from later = ap not (same-apart s.run_in s.run_out c.run_out (from.ins later) from.outs)

-- spots that are all after the cut have a gap in some rendition exactly if they have one when counted from the cut
break-since : (cut spots : List Spot) → AreSpotsFrom cut spots → ((r : ℕ) → r < length cut → (spot_in cut r).fragment < (spot_in spots r).fragment)
    → list_any is_gap_at (spots_since cut spots) ≡ list_any is_gap_at spots
break-since [] [] from later = refl
break-since [] (spot ∷ spots) from later = absurd from
break-since (c ∷ cut) [] from later = absurd from
break-since (c ∷ cut) (spot ∷ spots) from later =
    rw (gap-since c spot from.0 (later 0 (omega arith)), break-since cut spots from.1 (λ r h. later (suc r) (omega (arith, h)))) refl

-- ---- bytes between two units

-- the bytes between two units are the same when the units before the first one are dropped and the numbers counted from there
bytes-since : (fs : List Facts) (n first last : ℕ) → n ≤ first → bytes_between (drop n fs) (first - n) (last - n) ≡ bytes_between fs first last
bytes-since fs n first last up =
    let count : last - n - (first - n) ≡ last - first = omega (arith, up) in
    let whole : n + (first - n) ≡ first = omega (arith, up) in
    ap (λ (k : ℕ). total_bytes (take k (drop (first - n) (drop n fs)))) count
    ∙ ap (λ (l : List Facts). total_bytes (take (last - first) l)) (drop-drop (first - n) n fs ∙ ap (λ (k : ℕ). drop k fs) whole)

-- ---- a plan in one rendition

module _ (cut : List Spot) (t : Table) (some : 0 < t.renditions) (counts : t.renditions ≡ length cut)
    (after : (p : ℕ) → p < length t.places → AreSpotsFrom cut (place_at t.places p)) (r : ℕ) (within : r < t.renditions) (x y : RecordingData)
    (head : length y.head ≡ length x.head) (facts : y.facts ≡ drop (spot_in cut r).fragment x.facts) (epoch : Option ℤ) where
  -- the table, counted from the cut
  abbrev since : Table
  since = table_since cut t

  -- the layout of the resource of the rendition that is recorded from the start
  abbrev old : ResourceLayout
  old = job_layout epoch x r (job_uri r) (first_fragment t r)

  -- the layout of the resource of the rendition that is recorded from the cut on
  abbrev new : ResourceLayout
  new = job_layout epoch y r (job_uri r) (first_fragment since r)

  -- the number of the cut's unit in this rendition
  abbrev n : ℕ
  n = (spot_in cut r).fragment

  -- the spot of place p of the table, in this rendition
  abbrev at : ℕ → Spot
  at p = spot_in (place_at t.places p) r

  -- the spot of place p of the table that is counted from the cut, in this rendition
  abbrev now : ℕ → Spot
  now p = spot_in (place_at since.places p) r

  -- each spot of the counted table is that of the table, counted from the cut
  is-since : (p : ℕ) → p < length t.places → now p ≡ spot_since (spot_in cut r) (at p)
  is-since p h = spot cut t some counts after p r h within

  -- no spot of the table precedes the cut
  is-from : (p : ℕ) → p < length t.places → IsSpotFrom (spot_in cut r) (at p)
  is-from p h = from cut t some counts after p r h within

  -- the bytes between two places of the table are the same in both recordings
  between : (p q : ℕ) → p < length t.places → q < length t.places
      → bytes_between y.facts (now p).fragment (now q).fragment ≡ bytes_between x.facts (at p).fragment (at q).fragment
  between p q there to =
      ap (λ (fs : List Facts). bytes_between fs (now p).fragment (now q).fragment) facts
      ∙ ap (λ (s : Spot). bytes_between (drop n x.facts) s.fragment (now q).fragment) (is-since p there)
      ∙ ap (λ (s : Spot). bytes_between (drop n x.facts) ((at p).fragment - n) s.fragment) (is-since q to)
      ∙ bytes-since x.facts n (at p).fragment (at q).fragment (is-from p there).fragment

  -- the media segment of an allowed step is the same in both layouts
  segment : (mark : Bool) (p q : ℕ) → Allowed t p q
      → segment_between new mark (place_at since.places p) (place_at since.places q) ≡ segment_between old mark (place_at t.places p) (place_at t.places q)
  segment mark p q is =
      let there = is.from in
      let before = (is-from p there).fragment in
      let later = (is.step r within).later in
      let start : (now p).start ≡ (at p).start = ap (λ (s : Spot). s.start) (is-since p there) in
      let end : (now q).prev_end ≡ (at q).prev_end =
      ap (λ (s : Spot). s.prev_end) (is-since q is.to) ∙ end-stays (spot_in cut r) (at q) (omega (arith, before, later)) in
      let date : date_at epoch (now p).start ≡ date_at epoch (at p).start = ap (date_at epoch) start in
      let us : (now q).prev_end - (now p).start ≡ (at q).prev_end - (at p).start = omega (arith, start, end) in
      let size = between p q there is.to in
      let preceding = between 0 p (omega (arith, there)) there in
      let offset : length y.head + bytes_between y.facts (now 0).fragment (now p).fragment ≡ length x.head + bytes_between x.facts (at 0).fragment (at p).fragment =
      omega (arith, head, preceding) in
      λ k. record {
        mark = mark;
        date = date k;
        us = us k;
        range = Some (record { length = size k; offset = offset k });
        uri = job_uri r;
      }

  -- an allowed step ends at a gap in the one table exactly if it does in the other
  break : (p q : ℕ) → Allowed t p q → is_break (place_at since.places q) ≡ is_break (place_at t.places q)
  break p q is =
      let there = is.from in
      let to = is.to in
      ap is_break (mapped cut t some counts after q to)
      ∙ break-since cut (place_at t.places q) (after q to) (λ i h.
      let inside : i < t.renditions = omega (arith, h, counts) in
      let before = (from cut t some counts after p i there inside).fragment in
      let later = (is.step i inside).later in
      omega (arith, before, later))

  -- allowed steps from place p on make the same segments
  segments : (mark : Bool) (p : ℕ) (rest : List ℕ) → StepsAreAllowed t p rest
      → plan_segments_from new since.places p mark rest ≡ plan_segments_from old t.places p mark rest
  segments mark p [] are = refl
  segments mark p (q ∷ rest) are =
      ap (λ (s : MediaSegment). s ∷ plan_segments_from new since.places q (is_break (place_at since.places q)) rest) (segment mark p q are.0)
      ∙ ap (λ (b : Bool). segment_between old mark (place_at t.places p) (place_at t.places q) ∷ plan_segments_from new since.places q b rest) (break p q are.0)
      ∙ ap (λ (l : List MediaSegment). segment_between old mark (place_at t.places p) (place_at t.places q) ∷ l)
      (segments (is_break (place_at t.places q)) q rest are.1)

  -- each plan has the same playlist
  pub same-list : (plan : List ℕ) → IsPlan t plan → job_list epoch y r since plan ≡ job_list epoch x r t plan
  same-list [] is = absurd is
  same-list (p ∷ rest) is =
      ap (λ (k : ℕ). vod_list t.goal.target (job_uri r) k (plan_segments_from new since.places p false rest)) head
      ∙ ap (vod_list t.goal.target (job_uri r) (length x.head)) (segments false p rest is.2)

  -- the units of the table have the same bytes in both recordings, if no unit from the cut on is trimmed
  pub same-resource : 0 < length t.places → x.floor ≤ n → y.floor ≡ 0 → y.head ≡ x.head → y.units ≡ drop (n - x.floor) x.units
      → resource_of y.head y.floor y.units (first_fragment since r) (end_fragment since r) ≡ resource_of x.head x.floor x.units (first_fragment t r) (end_fragment t r)
  same-resource there low floor same units =
      let last : ℕ = length t.places - 1 in
      let inside : last < length t.places = omega (arith, there) in
      let first : first_fragment since r ≡ first_fragment t r - n = ap (λ (s : Spot). s.fragment) (is-since 0 there) in
      let end : end_fragment since r ≡ end_fragment t r - n =
      ap (λ (k : ℕ). (now (k - 1)).fragment) (length-map t.places (spots_since cut)) ∙ ap (λ (s : Spot). s.fragment) (is-since last inside) in
      let up = (is-from 0 there).fragment in
      let count : end_fragment since r - first_fragment since r ≡ end_fragment t r - first_fragment t r = omega (arith, first, end, up) in
      let from : n - x.floor + (first_fragment since r - y.floor) ≡ first_fragment t r - x.floor = omega (arith, first, floor, up, low) in
      let kept : units_between y.floor y.units (first_fragment since r) (end_fragment since r) ≡ units_between x.floor x.units (first_fragment t r) (end_fragment t r) =
      ap (λ (us : List (List ℕ)). take (end_fragment since r - first_fragment since r) (drop (first_fragment since r - y.floor) us)) units
      ∙ ap (λ (k : ℕ). take k (drop (first_fragment since r - y.floor) (drop (n - x.floor) x.units))) count
      ∙ ap (take (end_fragment t r - first_fragment t r))
      (drop-drop (first_fragment since r - y.floor) (n - x.floor) x.units ∙ ap (λ (k : ℕ). drop k x.units) from) in
      ap (λ (h : List ℕ). h ++ concat (units_between y.floor y.units (first_fragment since r) (end_fragment since r))) same
      ∙ ap (λ (us : List (List ℕ)). x.head ++ concat us) kept

-- The playlists that are made can be written.
use Rattle.std.proofs.Common.{◌≡◌, ℕ, zero, suc, ◌+◌, ◌-◌, ◌*◌, ◌^◌, ◌<◌, ◌≤◌, ℤ, Option, Bool, false, List, [], ◌∷◌, length, refl, sym, subst, arith, sum_by}
use Rattle.std.specs.Prelude.{All, slice_get, Some}
use Rattle.std.specs.List.{range_with_len}
use Rattle.std.proofs.lemmas.List.Elements.{All-nil, All-cons, All-get_or}
use Rattle.hls_media_laws.proofs.Callers.{units_are_bounded, inits_are_bounded}
use Rattle.hls_record.specs.RecordingData.{RecordingData}
use Rattle.hls_record.specs.IsRecorded.{IsRecorded}
use Rattle.hls_check_tables.specs.declared.spot.Spot.{Spot}
use Rattle.hls_check_tables.specs.Tables.{Table, IsTable, IsPlaceOf, spot_in, place_at}
use Rattle.hls_check_tables.specs.Plans.{IsPlan, StepsAreAllowed}
use Rattle.hls_core_laws.specs.Config.{IsEpoch}
use Rattle.hls_m3u8.specs.declared.playlist.MediaSegment.{MediaSegment}
use Rattle.hls_m3u8.specs.Uri.{IsUri}
use Rattle.hls_m3u8.specs.HasText.{IsSegment, HasText}
use Rattle.hls_m3u8.specs.PlaylistForms.{vod_list}
use Rattle.hls_m3u8.proofs.Building.{vod_has_text}
use Rattle.hls_media_laws.specs.FactLists.{len_of}
use Rattle.hls_playlists_laws.specs.JobResource.{bytes_between}
use Rattle.hls_playlists_laws.specs.Segments.{ResourceLayout, is_break, date_at, segment_between, plan_segments_from, plan_segments}
use Rattle.hls_playlists_laws.specs.SegmentLaws.{AreUnits, end_fragment}
use Rattle.hls_playlists_laws.proofs.Callers.{places_small, date_good, some_bytes, few_bytes, segments_are_good}
use Rattle.hls_playlists_laws.specs.JobPlaylists.{job_layout}
use Rattle.hls_commands.specs.Each.{full_plan, AllReachNext}

-- what holds of the element at each index holds of all
all_from_each : {A : Type 0} (P : A → Type 0) (xs : List A) → ((k : ℕ) (x : A) → slice_get xs k ≡ Some x → P x) → All P xs
all_from_each P [] each = All-nil P
all_from_each P (x ∷ xs) each = All-cons P x xs (each 0 x refl) (all_from_each P xs (λ k y at. each (suc k) y at))

-- each unit of a recording has bytes, and together they are small enough for a layout
units_good : (epoch : Option ℤ) (r : RecordingData) (uri : List ℕ) → IsRecorded r → AreUnits (job_layout epoch r 0 uri 0)
units_good epoch r uri valid = record {
  some = all_from_each (λ f. 0 < f.len) r.facts
      (λ k f at. let was = valid.ever k f at in (units_are_bounded r.init was.bytes f was.is).some_bytes);
  total = valid.small;
}

-- the playlist of valid segments over the recording's resource has a text
pub has_text : (r : RecordingData) (target : ℕ) (uri : List ℕ) (segments : List MediaSegment) → IsRecorded r → target ≤ 3600 → IsUri uri →
    All (IsSegment uri) segments → HasText (vod_list target uri (length r.head) segments)
has_text r target uri segments valid few good are =
    let head = inits_are_bounded r.head r.init valid.head in
    let some : 0 < length r.head = head.some_bytes in
    let limit : length r.head ≤ 1048576 = head.len_limit in
    vod_has_text target uri (length r.head) segments (omega arith) good some (omega arith) are

-- the playlist by a plan of a valid table has a text
pub plan_has_text : (epoch : Option ℤ) (r : RecordingData) (uri : List ℕ) (t : Table) (plan : List ℕ) → IsEpoch epoch → IsRecorded r → IsUri uri → IsTable t → IsPlan t plan →
    end_fragment t 0 ≤ length r.facts → HasText (vod_list t.goal.target uri (length r.head) (plan_segments (job_layout epoch r 0 uri 0) t.places plan))
plan_has_text epoch r uri t plan known valid good table is_plan ever =
    let renditions : 1 ≤ t.renditions = table.renditions.0 in
    has_text r t.goal.target uri (plan_segments (job_layout epoch r 0 uri 0) t.places plan) valid table.goal.target.1 good
    (segments_are_good t plan (job_layout epoch r 0 uri 0) table is_plan (omega arith) (units_good epoch r uri valid) known ever).1

-- if the steps of a plan are allowed, its places are those of the table
leads_within : (t : Table) (p : ℕ) (rest : List ℕ) → p < length t.places → StepsAreAllowed t p rest → All (λ q. q < length t.places) (p ∷ rest)
leads_within t p [] here leads = All-cons (λ q. q < length t.places) p [] here (All-nil (λ q. q < length t.places))
leads_within t p (q ∷ rest) here leads =
    All-cons (λ q. q < length t.places) p (q ∷ rest) here (leads_within t q rest leads.0.to leads.1)

-- the places of a plan are those of its table
pub plan_within : (t : Table) (plan : List ℕ) → IsTable t → IsPlan t plan → All (λ p. p < length t.places) plan
plan_within t [] table is_plan = absurd is_plan
plan_within t (p ∷ rest) table is_plan =
    let some : 2 ≤ length t.places = table.count.0 in
    leads_within t p rest (omega (arith, is_plan.0)) is_plan.2

-- no place is past the end of the last unit
abbrev pub NonePast : ℕ → List (List Spot) → Type 0
NonePast count places = (i : ℕ) → i < length places → (spot_in (place_at places i) 0).fragment ≤ count

-- if each place reaches the next and none is past the last unit, the segments between them are valid
each_good : (target : ℕ) (cut : ResourceLayout) (places : List (List Spot)) (i n : ℕ) (mark : Bool) → target ≤ 3600 → cut.rendition ≡ 0 → AreUnits cut → IsEpoch cut.epoch →
    All (IsPlaceOf 1) places → NonePast (length cut.facts) places → AllReachNext target places → i + n + 1 ≡ length places →
    All (IsSegment cut.uri) (plan_segments_from cut places i mark (range_with_len (i + 1) n))
each_good target cut places i zero mark few single units known ones ever reach count = All-nil (IsSegment cut.uri)
each_good target cut places i (suc n) mark few single units known ones ever reach count =
    let p : List Spot = place_at places i in
    let q : List Spot = place_at places (i + 1) in
    let one : length p ≡ 1 = (All-get_or (IsPlaceOf 1) places i [] (omega arith) ones).count in
    let step = (reach i (omega arith)).step 0 (omega arith) in
    let a : ℕ = (spot_in p 0).fragment in
    let b : ℕ = (spot_in q 0).fragment in
    let later : a < b = step.later in
    let fits : (spot_in q 0).prev_end - (spot_in p 0).start ≤ target * 1000000 + 499999 = step.fits in
    let within : b ≤ length cut.facts = ever (i + 1) (omega arith) in
    let some : 0 < bytes_between cut.facts a b = some_bytes cut.facts a b units.some later within in
    let most : bytes_between cut.facts a b ≤ sum_by len_of cut.facts = few_bytes cut.facts a b in
    let before : bytes_between cut.facts cut.first a ≤ sum_by len_of cut.facts = few_bytes cut.facts cut.first a in
    let total : cut.init_length + sum_by len_of cut.facts ≤ 2 ^ 40 = units.total in
    let rest : All (IsSegment cut.uri) (plan_segments_from cut places (i + 1) (is_break q) (range_with_len (i + 1 + 1) n)) =
    each_good target cut places (i + 1) n (is_break q) few single units known ones ever reach (omega arith) in
    let here : IsSegment cut.uri (segment_between cut mark p q) = subst
    (λ (r : ℕ). IsSegment cut.uri (record {
      mark = mark;
      date = date_at cut.epoch (spot_in p r).start;
      us = (spot_in q r).prev_end - (spot_in p r).start;
      range = Some (record {
        length = bytes_between cut.facts (spot_in p r).fragment (spot_in q r).fragment;
        offset = cut.init_length + bytes_between cut.facts cut.first (spot_in p r).fragment;
      });
      uri = cut.uri;
    })) (sym single) (record {
      date = date_good cut.epoch (spot_in p 0).start known (places_small 1 places i 0 ones);
      length = omega arith;
      range = (some, omega arith, omega arith);
      uri_is = refl;
    }) in
    All-cons (IsSegment cut.uri) (segment_between cut mark p q) (plan_segments_from cut places (i + 1) (is_break q) (range_with_len (i + 1 + 1) n)) here rest

-- the playlist with a segment from each place to the next has a text
pub each_has_text : (epoch : Option ℤ) (r : RecordingData) (target : ℕ) (uri : List ℕ) (places : List (List Spot)) → IsEpoch epoch → IsRecorded r → target ≤ 3600 → IsUri uri →
    All (IsPlaceOf 1) places → NonePast (length r.facts) places → AllReachNext target places →
    HasText (vod_list target uri (length r.head) (plan_segments (job_layout epoch r 0 uri 0) places (full_plan places)))
each_has_text epoch r target uri [] known valid few good ones ever reach = has_text r target uri [] valid few good (All-nil (IsSegment uri))
each_has_text epoch r target uri (p ∷ places) known valid few good ones ever reach =
    has_text r target uri (plan_segments (job_layout epoch r 0 uri 0) (p ∷ places) (full_plan (p ∷ places))) valid few good
    (each_good target (job_layout epoch r 0 uri 0) (p ∷ places) 0 (length places) false few refl (units_good epoch r uri valid) known ones ever reach (omega arith))

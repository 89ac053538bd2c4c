-- How a state's lanes and recordings correspond.
use Rattle.std.proofs.Common.{◌≡◌, ℕ, zero, suc, ◌+◌, ◌<◌, List, [], ◌∷◌, ◌++◌, length, map, get_or, Option, Some, None, Bool, false, ◌&&◌, take, drop, arith, refl, sym, ap, inl, inr, ◌∙◌, Bor}
use Rattle.std.specs.Prelude.{slice_get, option_map, unwrap_or}
use Rattle.std.specs.List.{list_all}
use Rattle.std.proofs.lemmas.List.{length-map, map-append, get_or-map, at_drop_more}
use Rattle.hls_media_laws.specs.InitData.{InitData}
use Rattle.hls_record.specs.RecordingData.{RecordingData}
use Rattle.hls_catchup.proofs.Cited.{some_at, at_snoc, lanes_count, sources_count, source_of, after-without}
use Rattle.hls_core_laws.specs.Channel.{Lane, no_lane}
use Rattle.hls_core_laws.specs.State.{State, HeldBytes, channel}
use Rattle.hls_core_laws.specs.IsState.{IsState}
use Rattle.hls_core_laws.specs.Outcome.{held_bytes}
use Rattle.hls_core_laws.specs.Places.{facts_of, is_finished, floor_of, sources, places, floors}
use Rattle.hls_places_laws.specs.Sources.{source_at}
use Rattle.hls_core.specs.Getters.{recorded_from, recorded_at, recording_of, finished_at}
use Rattle.hls_places_laws.specs.declared.place.Place.{Place}
use Rattle.hls_catchup.specs.KeptPlaces.{places_and_floors_of}
use Rattle.hls_catchup.specs.Requests.{AreRecordings}

-- whether lane r is finished, false without such a lane, is entry r of the lanes' flags
looked_up : (lanes : List Lane) (r : ℕ) → unwrap_or (option_map (λ (l : Lane). l.finished) (slice_get lanes r)) false ≡ get_or (map is_finished lanes) r false
looked_up [] r = refl
looked_up (l ∷ lanes) zero = refl
looked_up (l ∷ lanes) (suc r) = looked_up lanes r

-- whether rendition r is finished, false without such a rendition, is entry r of the lanes' flags
pub finished_there : (s : State) (r : ℕ) → unwrap_or (finished_at s r) false ≡ get_or (map is_finished (channel s).lanes) r false
finished_there s r = looked_up (channel s).lanes r

-- recordings of the first renditions, with that of the next one appended, are recordings of the renditions by their numbers
pub one_recording_more : (s : State) (recordings : List (Bor RecordingData)) (recording : Bor RecordingData) →
    ((r : ℕ) (recorded : RecordingData) → slice_get (map (λ r. r.now) recordings) r ≡ Some recorded → recording_of s r ≡ Some recorded) →
    recording_of s (length recordings) ≡ Some recording.now →
    (r : ℕ) (recorded : RecordingData) → slice_get (map (λ r. r.now) (recordings ++ recording ∷ [])) r ≡ Some recorded → recording_of s r ≡ Some recorded
one_recording_more s recordings recording before is r recorded at =
    let apart : map (λ (r : Bor RecordingData). r.now) (recordings ++ recording ∷ []) ≡ map (λ (r : Bor RecordingData). r.now) recordings ++ recording.now ∷ [] =
    map-append (λ (r : Bor RecordingData). r.now) recordings (recording ∷ []) in
    let there : slice_get (map (λ (r : Bor RecordingData). r.now) recordings ++ recording.now ∷ []) r ≡ Some recorded = ap (λ rs. slice_get rs r) (sym apart) ∙ at in
    elim (at_snoc (map (λ (r : Bor RecordingData). r.now) recordings) recording.now r recorded there) [
      | inl old ↦ before r recorded old
      | inr new ↦
          (let number : r ≡ length recordings = new.0 ∙ length-map recordings (λ (r : Bor RecordingData). r.now) in
          ap (recording_of s) number ∙ is ∙ ap (λ (x : RecordingData). Some x) (sym new.1))
    ]

-- recordings of the renditions by their numbers, as many as there are renditions, are those of the state
pub are_recordings : (s : State) (recordings : List (Bor RecordingData)) → length recordings ≡ length s.config.renditions →
    ((r : ℕ) (recorded : RecordingData) → slice_get (map (λ r. r.now) recordings) r ≡ Some recorded → recording_of s r ≡ Some recorded) →
    AreRecordings s (map (λ r. r.now) recordings)
are_recordings s recordings count each = record {
  count = length-map recordings (λ (r : Bor RecordingData). r.now) ∙ count ∙ sym (lanes_count s.config s.log);
  each = each;
}

-- a recording has the facts and the floor of its lane
pub record IsOfLane (l : Lane) (recorded : RecordingData) : Type 0 where
  pub facts : recorded.facts ≡ l.facts
  pub floor : recorded.floor ≡ l.floor

-- a recording that is made of a lane has the lane's facts and floor
of_init : (o : Option InitData) (l : Lane) (h : HeldBytes) (recorded : RecordingData) → recorded_from o l h ≡ Some recorded → IsOfLane l recorded
of_init None l h recorded is = cc
of_init (Some init) l h recorded is =
    let made : RecordingData = record { init = init; head = h.head; facts = l.facts; floor = l.floor; units = h.units } in
    let same : made ≡ recorded = cc in
    record { facts = sym (ap (λ (x : RecordingData). x.facts) same); floor = sym (ap (λ (x : RecordingData). x.floor) same) }

-- a rendition's recording has the facts and the floor of its lane
of_lane : (s : State) (r : ℕ) (l : Lane) (recorded : RecordingData) → slice_get (channel s).lanes r ≡ Some l → recording_of s r ≡ Some recorded → IsOfLane l recorded
of_lane s r l recorded at is =
    let there : recorded_at (Some l) (held_bytes s r) ≡ Some recorded = ap (λ o. recorded_at o (held_bytes s r)) (sym at) ∙ is in
    of_init l.init l (held_bytes s r) recorded there

-- a lane without a recording has no init section
no_init : (o : Option InitData) (l : Lane) (h : HeldBytes) → recorded_from o l h ≡ None → o ≡ None
no_init None l h is = refl
no_init (Some init) l h is = cc

-- the lane has no facts, and nothing of it is trimmed
record IsBare (l : Lane) : Type 0 where
  facts : l.facts ≡ []
  floor : l.floor ≡ 0

-- a rendition that hasn't begun has no facts, and nothing of it is trimmed
bare_lane : (s : State) → IsState s → (r : ℕ) (l : Lane) → r < length (channel s).lanes → slice_get (channel s).lanes r ≡ Some l → recording_of s r ≡ None → IsBare l
bare_lane s valid r l within at unbegun =
    let there : recorded_at (Some l) (held_bytes s r) ≡ None = ap (λ o. recorded_at o (held_bytes s r)) (sym at) ∙ unbegun in
    let none : l.init ≡ None = no_init l.init l (held_bytes s r) there in
    let bytes = some_at s.bytes r (omega (arith, valid.counts_agree)) in
    let bare = (valid.fits r l bytes.0 at bytes.1).none none in
    record { facts = bare.0; floor = bare.1 }

-- if a rendition hasn't begun, there is no place
pub no_places : (s : State) → IsState s → (r : ℕ) → r < length (channel s).lanes → recording_of s r ≡ None → places s ≡ []
no_places s valid r within unbegun =
    let l = some_at (channel s).lanes r within in
    let empty : (source_at (sources s) r).facts ≡ [] = (source_of s r l.0 l.1).facts ∙ (bare_lane s valid r l.0 within l.1 unbegun).facts in
    after-without (sources s) r (omega (arith, sources_count s, within)) empty 0

-- two lists of one length whose elements map to equal values one by one map to equal lists
same_maps : {A B C : Type 0} (f : A → C) (g : B → C) (xs : List A) (ys : List B) → length xs ≡ length ys →
    ((r : ℕ) (x : A) (y : B) → slice_get xs r ≡ Some x → slice_get ys r ≡ Some y → f x ≡ g y) → map f xs ≡ map g ys
same_maps f g [] [] count each = refl
same_maps f g [] (y ∷ ys) count each = absurd (omega arith)
same_maps f g (x ∷ xs) [] count each = absurd (omega arith)
same_maps f g (x ∷ xs) (y ∷ ys) count each =
    ap (λ c. c ∷ map f xs) (each 0 x y refl refl) ∙ ap (λ cs. g y ∷ cs) (same_maps f g xs ys (omega arith) (λ r u v at_u at_v. each (suc r) u v at_u at_v))

-- the facts of a state's recordings are those of its lanes
pub same_facts : (s : State) (recordings : List RecordingData) → AreRecordings s recordings →
    map (λ (r : RecordingData). r.facts) recordings ≡ map facts_of (channel s).lanes
same_facts s recordings are =
    same_maps (λ (r : RecordingData). r.facts) facts_of recordings (channel s).lanes are.count
    (λ r recorded l at there. (of_lane s r l recorded there (are.each r recorded at)).facts)

-- the floors of a state's recordings are those of the state
pub same_floors : (s : State) (recordings : List RecordingData) → AreRecordings s recordings →
    map (λ (r : RecordingData). r.floor) recordings ≡ floors s
same_floors s recordings are =
    same_maps (λ (r : RecordingData). r.floor) floor_of recordings (channel s).lanes are.count
    (λ r recorded l at there. (of_lane s r l recorded there (are.each r recorded at)).floor)

-- all lanes from r on are finished if lane r is and all from r + 1 on are
pub all_finished_from : (s : State) (r : ℕ) → r < length (channel s).lanes →
    list_all is_finished (drop r (channel s).lanes) ≡ (get_or (map is_finished (channel s).lanes) r false && list_all is_finished (drop (r + 1) (channel s).lanes))
all_finished_from s r within =
    at_drop_more (list_all is_finished) (channel s).lanes r no_lane within
    ∙ ap (λ (b : Bool). b && list_all is_finished (drop (r + 1) (channel s).lanes)) (sym (get_or-map is_finished (channel s).lanes r no_lane false within))

-- the kept places of a state, from its own places and a floor for each of its renditions
pub kept_is : (s : State) (items : List Place) (above : List ℕ) (n : ℕ) → items ≡ places s → n ≡ length s.config.renditions →
    take (length (channel s).lanes) above ≡ floors s → record { items = items; floors = take n above } ≡ places_and_floors_of s
kept_is s items above n items_are count above_are =
    let all : n ≡ length (channel s).lanes = count ∙ sym (lanes_count s.config s.log) in
    let taken : take n above ≡ floors s = ap (λ (k : ℕ). take k above) all ∙ above_are in
    rw (items_are, taken) refl

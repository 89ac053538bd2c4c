-- The units in a programme's table are kept.
use Rattle.std.proofs.Common.{◌≡◌, ℕ, zero, suc, ◌+◌, ◌-◌, ◌≤◌, ℤ, Option, List, [], ◌∷◌, length, map, drop, Some, Bool, true, arith, refl, sym, ap, subst, inl, inr, ◌∙◌, All, Ok}
use Rattle.std.specs.Prelude.{slice_get, ⊤, nat_le}
use Rattle.std.specs.List.{filter, slice_range}
use Rattle.std.proofs.lemmas.Bool.{cases_lt, cond_both, and_parts, leb-true}
use Rattle.std.proofs.lemmas.List.{get_or_past, length-map}
use Rattle.std.proofs.lemmas.List.Elements.{All-nil, All-cons, All-head, All-tail, All-map, All-take, All-drop, All-get_or}
use Rattle.hls_media_laws.specs.declared.facts.Facts.{Facts}
use Rattle.hls_check_tables.specs.declared.spot.Spot.{Spot}
use Rattle.hls_check_tables.specs.Tables.{Table, IsTable, IsPlaceOf, spot_in, place_at}
use Rattle.hls_record.specs.RecordingData.{RecordingData}
use Rattle.hls_core_laws.specs.State.{State, channel}
use Rattle.hls_core_laws.specs.Places.{is_finished, tolerance_of, sources, kept_places}
use Rattle.hls_catchup.proofs.Cited.{lanes_count}
use Rattle.hls_places_laws.specs.declared.place.Place.{Place}
use Rattle.hls_places_laws.specs.Sources.{Source, sources_of}
use Rattle.hls_places_laws.specs.Places.{places_of}
use Rattle.hls_places_laws.specs.Programmes.{is_kept_above, is_kept, filter_kept, table_between}
use Rattle.hls_catchup.specs.declared.request.Request.{Request}
use Rattle.hls_catchup.specs.declared.cut_result.CutResult.{CutResult}
use Rattle.hls_catchup.specs.Answers.{AreCovered, IsRightCutResult}
use Rattle.hls_catchup.specs.Requests.{goal_for, IsTableFor, AreRecordings, IsRightAnswer}
use Rattle.hls_catchup.proofs.Bounded.{Bounded, places-bounded}
use Rattle.hls_catchup.proofs.States.{same_facts, same_floors}

-- the facts of the recordings, paired with the tolerances and with whether the renditions are finished
abbrev sources_with : List RecordingData → List ℕ → List Bool → List Source
sources_with recordings tolerances finished = sources_of (map (λ (r : RecordingData). r.facts) recordings) tolerances finished

-- the floors of the recordings
abbrev floors_with : List RecordingData → List ℕ
floors_with recordings = map (λ (r : RecordingData). r.floor) recordings

-- spots paired with the recordings, each from the recording's floor to the end of its fragments
abbrev pub Within : List RecordingData → List Spot → Type 0
Within [] [] = ⊤
Within [] (spot ∷ others) = ⊥
Within (r ∷ recordings) [] = ⊥
Within (r ∷ recordings) (spot ∷ others) = (r.floor ≤ spot.fragment) × (spot.fragment ≤ length r.facts) × Within recordings others

-- spots that are bounded and not below the floors are within the recordings
within-from : (recordings : List RecordingData) (tolerances : List ℕ) (finished : List Bool) (spots : List Spot) →
    length tolerances ≡ length recordings → length finished ≡ length recordings →
    Bounded (sources_with recordings tolerances finished) spots → is_kept_above (floors_with recordings) spots ≡ true → Within recordings spots
within-from [] tolerances finished [] same also bounded is_kept = tt
within-from [] tolerances finished (spot ∷ spots) same also bounded is_kept = absurd bounded
within-from (r ∷ recordings) [] finished spots same also bounded is_kept = absurd (omega arith)
within-from (r ∷ recordings) (t ∷ tolerances) [] spots same also bounded is_kept = absurd (omega arith)
within-from (r ∷ recordings) (t ∷ tolerances) (over ∷ finished) [] same also bounded is_kept = absurd bounded
within-from (r ∷ recordings) (t ∷ tolerances) (over ∷ finished) (spot ∷ spots) same also bounded is_kept =
    let parts = and_parts (nat_le r.floor spot.fragment) (is_kept_above (floors_with recordings) spots) is_kept in (
      leb-true r.floor spot.fragment parts.0,
      bounded.0,
      within-from recordings tolerances finished spots (omega arith) (omega arith) bounded.1 parts.1,
    )

-- if P holds of all elements and implies Q for each that passes a test, Q holds of all that pass
filtered : {A : Type 0} (test : A → Bool) (P Q : A → Type 0) (xs : List A) → ((x : A) → test x ≡ true → P x → Q x) → All P xs → All Q (filter test xs)
filtered test P Q [] each all = All-nil Q
filtered test P Q (x ∷ xs) each all =
    let rest : All Q (filter test xs) = filtered test P Q xs each (All-tail P x xs all) in
    cond_both (test x) (x ∷ filter test xs) (filter test xs) (λ zs. All Q zs)
    (λ passes. All-cons Q x (filter test xs) (each x passes (All-head P x xs all)) rest) (λ fails. rest)

-- every kept place is within the recordings
kept-within : (recordings : List RecordingData) (tolerances : List ℕ) (finished : List Bool) →
    length tolerances ≡ length recordings → length finished ≡ length recordings →
    All (λ (p : Place). Within recordings p.spots) (filter_kept (floors_with recordings) (places_of (sources_with recordings tolerances finished)))
kept-within recordings tolerances finished same also =
    let sources : List Source = sources_with recordings tolerances finished in
    filtered (is_kept (floors_with recordings)) (λ (p : Place). Bounded sources p.spots) (λ (p : Place). Within recordings p.spots) (places_of sources)
    (λ p passes bounded. within-from recordings tolerances finished p.spots same also bounded passes)
    (places-bounded sources)

-- each kept place of a state is within its recordings
state-within : (s : State) (recordings : List RecordingData) → AreRecordings s recordings → All (λ (p : Place). Within recordings p.spots) (kept_places s)
state-within s recordings are =
    let tolerances : List ℕ = map tolerance_of s.config.renditions in
    let finished : List Bool = map is_finished (channel s).lanes in
    let same : length tolerances ≡ length recordings = length-map s.config.renditions tolerance_of ∙ sym (lanes_count s.config s.log) ∙ sym are.count in
    let also : length finished ≡ length recordings = length-map (channel s).lanes is_finished ∙ sym are.count in
    let P : List Place → Type 0 = All (λ (p : Place). Within recordings p.spots) in
    subst (λ (fs : List ℕ). P (filter_kept fs (places_of (sources s)))) (same_floors s recordings are)
    (subst (λ (lists : List (List Facts)). P (filter_kept (floors_with recordings) (places_of (sources_of lists tolerances finished)))) (same_facts s recordings are)
    (kept-within recordings tolerances finished same also))

-- spots within recordings are as many as the recordings
within-long : (recordings : List RecordingData) (spots : List Spot) → Within recordings spots → length spots ≡ length recordings
within-long [] [] within = refl
within-long [] (spot ∷ spots) within = absurd within
within-long (r ∷ recordings) [] within = absurd within
within-long (r ∷ recordings) (spot ∷ spots) within = ap suc (within-long recordings spots within.2)

-- the spot of rendition r is from its recording's floor to the end of its fragments
within-at : (recordings : List RecordingData) (spots : List Spot) → Within recordings spots → (r : ℕ) (recorded : RecordingData) →
    slice_get recordings r ≡ Some recorded → (recorded.floor ≤ (spot_in spots r).fragment) × ((spot_in spots r).fragment ≤ length recorded.facts)
within-at [] spots within r recorded at = cc
within-at (first ∷ recordings) [] within r recorded at = absurd within
within-at (first ∷ recordings) (spot ∷ spots) within zero recorded at =
    let same : first ≡ recorded = cc in
    subst (λ (x : RecordingData). (x.floor ≤ spot.fragment) × (spot.fragment ≤ length x.facts)) same (within.0, within.1)
within-at (first ∷ recordings) (spot ∷ spots) within (suc r) recorded at = within-at recordings spots within.2 r recorded at

-- each place of a programme's table is within the recordings
table-within : (s : State) (request : Request) (t : Table) (recordings : List RecordingData) → AreRecordings s recordings → IsTableFor s request (Ok t) → All (Within recordings) t.places
table-within s request t recordings are is =
    let places : List Place = kept_places s in
    let found = is.programme.0 in
    let cut : table_between (goal_for s request) places found.s found.e ≡ t = sym found.is in
    let range : List Place = slice_range places found.s (found.e + 1) in
    let P : Place → Type 0 = λ p. Within recordings p.spots in
    let all : All P range = All-take P (found.e + 1 - found.s) (drop found.s places) (All-drop P found.s places (state-within s recordings are)) in
    let listed : All (Within recordings) (map (λ (p : Place). p.spots) range) = All-map (Within recordings) (λ (p : Place). p.spots) range all in
    subst (λ (x : Table). All (Within recordings) x.places) cut listed

-- the spot of a place that has none is at fragment 0
none-spot : (r n : ℕ) → (spot_in [] r).fragment ≤ n
none-spot r n = omega arith

-- in each place of a programme's table, a rendition's spot is at most at the end of its recording's fragments
pub places-within : (s : State) (request : Request) (t : Table) (recordings : List RecordingData) → AreRecordings s recordings → IsTableFor s request (Ok t) →
    (p r : ℕ) (recorded : RecordingData) → slice_get recordings r ≡ Some recorded → (spot_in (place_at t.places p) r).fragment ≤ length recorded.facts
places-within s request t recordings are is p r recorded at = elim (cases_lt p (length t.places)) [
  | inl less ↦ (within-at recordings (place_at t.places p) (All-get_or (Within recordings) t.places p [] less (table-within s request t recordings are is)) r recorded at).1
  | inr past ↦ subst (λ (place : List Spot). (spot_in place r).fragment ≤ length recorded.facts) (sym (get_or_past t.places p [] past)) (none-spot r (length recorded.facts))
]

-- the recordings of a state keep all units of a programme's table
pub table-covered : (s : State) (request : Request) (t : Table) (recordings : List RecordingData) → AreRecordings s recordings → IsTable t →
    IsTableFor s request (Ok t) → AreCovered t recordings
table-covered s request t recordings are valid is =
    let tabled : All (Within recordings) t.places = table-within s request t recordings are is in
    let count : 2 ≤ length t.places = valid.count.0 in
    let first : Within recordings (place_at t.places 0) = All-get_or (Within recordings) t.places 0 [] (omega arith) tabled in
    let last : Within recordings (place_at t.places (length t.places - 1)) = All-get_or (Within recordings) t.places (length t.places - 1) [] (omega arith) tabled in
    record {
      renditions = sym (within-long recordings (place_at t.places 0) first) ∙ (All-get_or (IsPlaceOf t.renditions) t.places 0 [] (omega arith) valid.places).count;
      each = λ r recorded at. record {
        kept = (within-at recordings (place_at t.places 0) first r recorded at).0;
        ever = (within-at recordings (place_at t.places (length t.places - 1)) last r recorded at).1;
      };
    }

-- a result that is right over the recordings of a state is a right answer of the state
pub right_answer : (s : State) (epoch : Option ℤ) (request : Request) (table : Table) (recordings : List RecordingData) (cut_result : CutResult) →
    epoch ≡ s.config.epoch → IsTableFor s request (Ok table) → AreRecordings s recordings → IsTable table → IsRightCutResult epoch recordings table cut_result →
    IsRightAnswer s request cut_result
right_answer s epoch request table recordings cut_result known defined are valid right =
    record {
      table = table;
      defined = defined;
      recordings = recordings;
      are = are;
      covered = table-covered s request table recordings are valid defined;
      right = subst (λ (e : Option ℤ). IsRightCutResult e recordings table cut_result) known right;
    }

-- The playlists that are made by a plan are right.
use Rattle.std.proofs.Common.{◌≡◌, ℕ, zero, suc, ◌+◌, ◌<◌, ◌≤◌, ℤ, List, [], ◌∷◌, length, map, Some, refl, sym, ◌∙◌, ap, arith, subst, zero-add, All, Option, Bool, Vec, Global, Bor}
use Rattle.std.specs.Prelude.{slice_get}
use Rattle.std.proofs.lemmas.List.Elements.{All-nil, All-cons, All-head, All-tail}
use Rattle.hls_catchup.proofs.Cited.{units_are_bounded, inits_are_bounded, vod_has_text, media_are_the_units, segments_are_good, number_uri}
use Rattle.hls_record.specs.RecordingData.{RecordingData}
use Rattle.hls_record.specs.IsRecorded.{IsRecorded}
use Rattle.hls_check_tables.specs.Tables.{Table, IsTable}
use Rattle.hls_check_tables.specs.Plans.{IsPlan, IsLeast}
use Rattle.hls_check_tables.specs.Certificates.{CertificateData, IsGood}
use Rattle.hls_plan.specs.declared.planned.Planned.{Planned}
use Rattle.hls_plan.specs.declared.planned.Planned.TheVariants.{Cut, NoCut}
use Rattle.hls_plan.specs.Planned.{certificate_of, IsBest}
use Rattle.hls_m3u8.specs.Playlist.{Playlist}
use Rattle.hls_core_laws.specs.Config.{IsEpoch}
use Rattle.hls_playlists_laws.specs.Segments.{ResourceLayout, plan_segments}
use Rattle.hls_playlists_laws.specs.SegmentLaws.{AreUnits, first_fragment}
use Rattle.hls_playlists_laws.specs.JobPlaylists.{job_layout, job_uri, job_list, job_lists}
use Rattle.hls_catchup.specs.Answers.{IsCovered, AreCovered, IsRightList, AreRightLists, ShowsCut, ShowsNoCut, IsGoodFor}
use Rattle.hls_catchup.specs.AcceptedLaw.{IsAccepted}
use Rattle.hls_catchup.proofs.Pieces.{have_lengths}

-- what holds of the element at each index holds of all
all_from_each : {A : Type 0} (P : A → Type 0) (xs : List A) → ((k : ℕ) (x : A) → slice_get xs k ≡ Some x → P x) → All P xs
all_from_each P [] each = All-nil P
all_from_each P (x ∷ xs) each = All-cons P x xs (each 0 x refl) (all_from_each P xs (λ k y at. each (suc k) y at))

-- the units of a recording aren't empty, and their bytes are within the limit
units_good : (epoch : Option ℤ) (r : RecordingData) (rendition : ℕ) (uri : List ℕ) (first : ℕ) → IsRecorded r → AreUnits (job_layout epoch r rendition uri first)
units_good epoch r rendition uri first valid = record {
  some = all_from_each (λ f. 0 < f.len) r.facts
      (λ k f at. let was = valid.ever k f at in (units_are_bounded r.init was.bytes f was.is).some_bytes);
  total = valid.small;
}

-- over a recording that keeps the programme's units, the playlist of a plan is right
pub right_list : (epoch : Option ℤ) (recorded : RecordingData) (r : ℕ) (t : Table) (plan : List ℕ) →
    IsEpoch epoch → IsRecorded recorded → IsTable t → IsPlan t plan → r < t.renditions → IsCovered t r recorded →
    IsRightList epoch recorded r t plan (job_list epoch recorded r t plan)
right_list epoch recorded r t plan known valid table is_plan within covered =
    let uri : List ℕ = job_uri r in
    let cut : ResourceLayout = job_layout epoch recorded r uri (first_fragment t r) in
    let good = segments_are_good t plan cut table is_plan within (units_good epoch recorded r uri (first_fragment t r) valid) known covered.ever in
    let head = inits_are_bounded recorded.head recorded.init valid.head in
    let some : 0 < length recorded.head = head.some_bytes in
    let few : length recorded.head ≤ 1048576 = head.len_limit in
    let target : t.goal.target ≤ 3600 = table.goal.target.1 in
    let renditions : t.renditions ≤ 16 = table.renditions.1 in
    record {
      is = refl;
      has_text = vod_has_text t.goal.target uri (length recorded.head) (plan_segments cut t.places plan)
          (omega arith) (number_uri r (omega arith)) some (omega arith) good.1;
      fits = good.0;
      media = media_are_the_units t plan cut recorded.head recorded.floor recorded.units is_plan within refl refl covered.kept (have_lengths recorded valid);
    }

-- the playlist at index k is that of rendition `first + k` over the recording at index k
list_at : (epoch : Option ℤ) (first : ℕ) (recordings : List RecordingData) (t : Table) (plan : List ℕ) (k : ℕ) (recorded : RecordingData) (list : Playlist) →
    slice_get recordings k ≡ Some recorded → slice_get (job_lists epoch first recordings t plan) k ≡ Some list → list ≡ job_list epoch recorded (first + k) t plan
list_at epoch first [] t plan k recorded list at there = cc
list_at epoch first (r ∷ recordings) t plan zero recorded list at there =
    let same : r ≡ recorded = cc in
    let is : job_list epoch r first t plan ≡ list = cc in
    sym is ∙ ap (λ x. job_list epoch x first t plan) same ∙ ap (λ n. job_list epoch recorded n t plan) (omega arith)
list_at epoch first (r ∷ recordings) t plan (suc k) recorded list at there =
    list_at epoch (suc first) recordings t plan k recorded list at there ∙ ap (λ n. job_list epoch recorded n t plan) (omega arith)

-- there is one playlist for each recording
length_lists : (epoch : Option ℤ) (first : ℕ) (recordings : List RecordingData) (t : Table) (plan : List ℕ) → length (job_lists epoch first recordings t plan) ≡ length recordings
length_lists epoch first [] t plan = refl
length_lists epoch first (r ∷ recordings) t plan = ap suc (length_lists epoch (suc first) recordings t plan)

-- an element's index is below the length of the list
pub within : {A : Type 0} (xs : List A) (k : ℕ) (x : A) → slice_get xs k ≡ Some x → k < length xs
within [] k x at = cc
within (y ∷ xs) zero x at = omega arith
within (y ∷ xs) (suc k) x at = let rest : k < length xs = within xs k x at in omega arith

-- over recordings that keep the programme's units, the playlists of a plan are right in each rendition
pub right_lists : (epoch : Option ℤ) (recordings : List RecordingData) (t : Table) (plan : List ℕ) → IsEpoch epoch →
    ((r : ℕ) (recorded : RecordingData) → slice_get recordings r ≡ Some recorded → IsRecorded recorded) → IsTable t → IsPlan t plan → AreCovered t recordings →
    AreRightLists epoch recordings t plan (job_lists epoch 0 recordings t plan)
right_lists epoch recordings t plan known valid table is_plan covered = record {
  count = length_lists epoch 0 recordings t plan ∙ covered.renditions;
  each = λ r recorded list at there.
      let below : r < length recordings = within recordings r recorded at in
      let is : list ≡ job_list epoch recorded r t plan = list_at epoch 0 recordings t plan r recorded list at there ∙ ap (λ n. job_list epoch recorded n t plan) (zero-add r) in
      subst (IsRightList epoch recorded r t plan) (sym is)
      (right_list epoch recorded r t plan known (valid r recorded at) table is_plan (omega (arith, covered.renditions)) (covered.each r recorded at));
}

-- what holds of each borrowed recording holds of the recordings themselves
each_borrowed : (recordings : List (Bor RecordingData)) → All (λ r. IsRecorded r.now) recordings →
    (r : ℕ) (recorded : RecordingData) → slice_get (map (λ r. r.now) recordings) r ≡ Some recorded → IsRecorded recorded
each_borrowed [] all r recorded at = cc
each_borrowed (first ∷ recordings) all zero recorded at =
    let same : first.now ≡ recorded = cc in
    subst IsRecorded same (All-head (λ r. IsRecorded r.now) first recordings all)
each_borrowed (first ∷ recordings) all (suc r) recorded at =
    each_borrowed recordings (All-tail (λ r. IsRecorded r.now) first recordings all) r recorded at

-- the playlists of a least plan are right, and the certificate is good and shows the plan
pub right_cut : (epoch : Option ℤ) (recordings : List (Bor RecordingData)) (t : Table) (planned : Planned) (plan : Vec ℕ Global) (prices : Vec (Option ℕ) Global)
    (lists : List Playlist) (certificate : CertificateData) →
    certificate ≡ certificate_of t planned → planned ≡ Cut plan prices → IsGood (certificate_of t planned) → IsAccepted (certificate_of t planned) → IsBest t planned →
    lists ≡ job_lists epoch 0 (map (λ r. r.now) recordings) t plan.items → All (λ r. IsRecorded r.now) recordings → IsTable t →
    AreCovered t (map (λ r. r.now) recordings) → IsEpoch epoch →
    IsGoodFor t certificate × ShowsCut epoch (map (λ r. r.now) recordings) t lists certificate.shown
right_cut epoch recordings t planned plan prices lists certificate is same good accepted best made valid table covered known =
    let recorded : List RecordingData = map (λ r. r.now) recordings in
    let shown : certificate ≡ certificate_of t (Cut plan prices) = is ∙ ap (certificate_of t) same in
    let least : IsLeast t plan.items = subst (IsBest t) same best in
    let well : IsGood (certificate_of t (Cut plan prices)) = subst (λ p. IsGood (certificate_of t p)) same good in
    let fine : IsAccepted (certificate_of t (Cut plan prices)) = subst (λ p. IsAccepted (certificate_of t p)) same accepted in
    let right : AreRightLists epoch recorded t plan.items lists =
    subst (AreRightLists epoch recorded t plan.items) (sym made)
    (right_lists epoch recorded t plan.items known (each_borrowed recordings valid) table least.is_plan covered) in
    let P : CertificateData → Type 0 = λ c. IsGoodFor t c × ShowsCut epoch recorded t lists c.shown in
    subst P (sym shown) ((refl, well, fine), (least, right))

-- the certificate is good and shows that there is no plan
pub right_none : (t : Table) (planned : Planned) (closed : Vec Bool Global) (certificate : CertificateData) → certificate ≡ certificate_of t planned →
    planned ≡ NoCut closed → IsGood (certificate_of t planned) → IsAccepted (certificate_of t planned) → IsBest t planned →
    IsGoodFor t certificate × ShowsNoCut t certificate.shown
right_none t planned closed certificate is same good accepted best =
    let shown : certificate ≡ certificate_of t (NoCut closed) = is ∙ ap (certificate_of t) same in
    let none : IsBest t (NoCut closed) = subst (IsBest t) same best in
    let well : IsGood (certificate_of t (NoCut closed)) = subst (λ p. IsGood (certificate_of t p)) same good in
    let fine : IsAccepted (certificate_of t (NoCut closed)) = subst (λ p. IsAccepted (certificate_of t p)) same accepted in
    let P : CertificateData → Type 0 = λ c. IsGoodFor t c × ShowsNoCut t c.shown in
    subst P (sym shown) ((refl, well, fine), none)

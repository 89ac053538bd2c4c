-- A right answer stays right in a state that follows, if the programme is the same there.
use Rattle.std.proofs.Common.{◌≡◌, ◌∙◌, ℕ, zero, suc, ◌+◌, ◌-◌, ◌≤◌, ℤ, Bool, false, List, [], ◌∷◌, ◌++◌, length, map, take, drop, Option, Some, None, Ok, arith, refl, sym, ap, subst, inl, inr, zero-add, length-drop}
use Rattle.std.specs.Prelude.{slice_get}
use Rattle.std.specs.List.{concat}
use Rattle.std.proofs.lemmas.Bool.{cases_lt}
use Rattle.std.proofs.lemmas.List.{drop-append-le, take-append-le}
use Rattle.hls_media_laws.specs.InitData.{InitData}
use Rattle.hls_media_laws.specs.declared.facts.Facts.{Facts}
use Rattle.hls_media_laws.specs.FactLists.{total_bytes}
use Rattle.hls_record.specs.RecordingData.{RecordingData}
use Rattle.hls_check_tables.specs.Certificates.{ClaimData, CutClaim, NoneClaim}
use Rattle.hls_check_tables.specs.declared.spot.Spot.{Spot}
use Rattle.hls_check_tables.specs.Plans.{IsPlan}
use Rattle.hls_check_tables.specs.Tables.{IsTable, Table, place_at, spot_in}
use Rattle.hls_m3u8.specs.Playlist.{Playlist, playlist_of}
use Rattle.hls_m3u8.specs.PlaylistForms.{vod_list}
use Rattle.hls_m3u8.specs.declared.playlist.{ByteRange.ByteRange, MediaSegment.MediaSegment}
use Rattle.hls_playlists_laws.specs.JobPlaylists.{job_layout, job_list, job_uri}
use Rattle.hls_playlists_laws.specs.JobResource.{HaveLengths, bytes_between}
use Rattle.hls_playlists_laws.specs.Media.{joined_media}
use Rattle.hls_playlists_laws.specs.SegmentLaws.{first_fragment}
use Rattle.hls_playlists_laws.specs.Segments.{ResourceLayout, date_at, is_break, plan_segments, plan_segments_from, range_between, segment_between}
use Rattle.hls_core_laws.specs.Channel.{Lane}
use Rattle.hls_core_laws.specs.Config.{ConfigData}
use Rattle.hls_core_laws.specs.Follows.{FollowsAsState}
use Rattle.hls_core_laws.specs.State.{HeldBytes, State, channel, no_bytes}
use Rattle.hls_core_laws.specs.Outcome.{held_bytes}
use Rattle.hls_core.specs.Getters.{recorded_at, recorded_from, recording_of}
use Rattle.hls_catchup.specs.declared.cut_result.CutResult.{CutResult}
use Rattle.hls_catchup.specs.declared.cut_result.CutResult.TheVariants.{Cut, NoCut}
use Rattle.hls_catchup.specs.declared.request.Request.{Request}
use Rattle.hls_catchup.specs.AnswerLaws.{AnswersStay}
use Rattle.hls_catchup.specs.Answers.{AreCovered, IsRightCutResult, IsRightList, ShowsCut, job_resource, programme_units}
use Rattle.hls_catchup.specs.Requests.{AreRecordings, IsRightAnswer, IsTableFor}
use Rattle.hls_catchup.proofs.Cited.{at_beside, at_or, lane_grown, lanes_count, media_are_the_units}
use Rattle.hls_catchup.proofs.Covered.{places-within, right_answer, table-covered}
use Rattle.hls_catchup.proofs.Pieces.{lengths_of}
use Rattle.hls_catchup.proofs.Right.{within}

-- ---- playlists over recordings that have grown

-- further units at the end don't change the bytes between two units
bytes_same : (facts more : List Facts) (from to : ℕ) → to ≤ length facts → bytes_between (facts ++ more) from to ≡ bytes_between facts from to
bytes_same facts more from to few = elim (cases_lt from to) [
  | inl less ↦
      let left = length-drop from facts in
      ap total_bytes (ap (take (to - from)) (drop-append-le from facts more (omega (arith, less, few))) ∙ take-append-le (to - from) (drop from facts) more (omega (arith, left, few)))
  | inr past ↦
      let none : to - from ≡ 0 = omega (arith, past) in
      ap (λ (n : ℕ). total_bytes (take n (drop from (facts ++ more)))) none ∙ sym (ap (λ (n : ℕ). total_bytes (take n (drop from facts))) none)
]

module _ (epoch : Option ℤ) (r : ℕ) (uri : List ℕ) (init first : ℕ) (facts more : List Facts) where
  -- how a rendition's units are in its resource, by their facts
  abbrev layout : List Facts → ResourceLayout
  layout fs = record { rendition = r; uri = uri; init_length = init; first = first; facts = fs; epoch = epoch }

  -- a byte range whose offset counts from the end of the init section
  abbrev range : ℕ → ℕ → ByteRange
  range len offset = record { length = len; offset = init + offset }

  -- further units don't change the byte range between two spots
  range_same : (from to : Spot) → from.fragment ≤ length facts → to.fragment ≤ length facts → range_between (layout (facts ++ more)) from to ≡ range_between (layout facts) from to
  range_same from to before few =
      ap (λ (n : ℕ). range n (bytes_between (facts ++ more) first from.fragment)) (bytes_same facts more from.fragment to.fragment few)
      ∙ ap (range (bytes_between facts from.fragment to.fragment)) (bytes_same facts more first from.fragment before)

  -- the segment between two places in this rendition, with its mark and its bytes
  abbrev segment : Bool → List Spot → List Spot → ByteRange → MediaSegment
  segment mark from to bytes = record {
    mark = mark;
    date = date_at epoch (spot_in from r).start;
    us = (spot_in to r).prev_end - (spot_in from r).start;
    range = Some bytes;
    uri = uri;
  }

  -- further units don't change the segments of a plan from place p on
  segments_same : (places : List (List Spot)) → ((p : ℕ) → (spot_in (place_at places p) r).fragment ≤ length facts) → (p : ℕ) (mark : Bool) (plan : List ℕ)
      → plan_segments_from (layout (facts ++ more)) places p mark plan ≡ plan_segments_from (layout facts) places p mark plan
  segments_same places few p mark [] = refl
  segments_same places few p mark (q ∷ rest) =
      ap (λ (s : MediaSegment). s ∷ plan_segments_from (layout (facts ++ more)) places q (is_break (place_at places q)) rest)
      (ap (segment mark (place_at places p) (place_at places q)) (range_same (spot_in (place_at places p) r) (spot_in (place_at places q) r) (few p) (few q)))
      ∙ ap (λ (ss : List MediaSegment). segment_between (layout facts) mark (place_at places p) (place_at places q) ∷ ss) (segments_same places few q (is_break (place_at places q)) rest)

  -- further units don't change the segments of a plan, if its places are within the earlier ones
  plan_same : (places : List (List Spot)) → ((p : ℕ) → (spot_in (place_at places p) r).fragment ≤ length facts) → (plan : List ℕ)
      → plan_segments (layout (facts ++ more)) places plan ≡ plan_segments (layout facts) places plan
  plan_same places few [] = refl
  plan_same places few (p ∷ rest) = segments_same places few p false rest

-- recording b has the same length of its init section as recording a, and a's units with perhaps further ones
record GrowsTo (a b : RecordingData) : Type 0 where
  pub head : length b.head ≡ length a.head
  pub more : List Facts
  pub facts : b.facts ≡ a.facts ++ more

-- a recording that has grown gives the same playlist of a plan, if the table's places are within the earlier units
list_same : (epoch : Option ℤ) (a b : RecordingData) (r : ℕ) (t : Table) (plan : List ℕ) → GrowsTo a b → ((p : ℕ) → (spot_in (place_at t.places p) r).fragment ≤ length a.facts)
    → job_list epoch b r t plan ≡ job_list epoch a r t plan
list_same epoch a b r t plan grows few =
    ap (λ (n : ℕ). vod_list t.goal.target (job_uri r) n (plan_segments (layout epoch r (job_uri r) n (first_fragment t r) a.facts grows.more b.facts) t.places plan)) grows.head
    ∙ ap (λ (fs : List Facts). vod_list t.goal.target (job_uri r) (length a.head) (plan_segments (layout epoch r (job_uri r) (length a.head) (first_fragment t r) a.facts grows.more fs) t.places plan)) grows.facts
    ∙ ap (vod_list t.goal.target (job_uri r) (length a.head)) (plan_same epoch r (job_uri r) (length a.head) (first_fragment t r) a.facts grows.more t.places few plan)

-- ---- the recordings of a state that follows

-- if there is a recording for a lane, the lane is there, and the recording is made of it
recorded_is : (o : Option Lane) (h : HeldBytes) (recorded : RecordingData) → recorded_at o h ≡ Some recorded → (l : Lane) × (o ≡ Some l) × (recorded_from l.init l h ≡ Some recorded)
recorded_is None h recorded is = absurd (cc is)
recorded_is (Some l) h recorded is = (l, refl, is)

-- the recording of a lane with this init section and these bytes
abbrev recording_with : InitData → Lane → HeldBytes → RecordingData
recording_with init l h = record { init = init; head = h.head; facts = l.facts; floor = l.floor; units = h.units }

-- if a recording is made of a lane, the lane has an init section, and the recording has it
init_is : (o : Option InitData) (l : Lane) (h : HeldBytes) (recorded : RecordingData) → recorded_from o l h ≡ Some recorded → (init : InitData) × (o ≡ Some init) × (recording_with init l h ≡ recorded)
init_is None l h recorded is = absurd (cc is)
init_is (Some init) l h recorded is = (init, refl, cc is)

-- a rendition's recording, which has grown from this one
record HasGrown (a : RecordingData) (s : State) (r : ℕ) : Type 0 where
  pub next : RecordingData
  pub is : recording_of s r ≡ Some next
  pub grows : GrowsTo a next
  pub lengths : HaveLengths next.facts next.floor next.units

-- the recording of a rendition has grown in each state that follows
has_grown : (a b : State) → FollowsAsState a b → (r : ℕ) (old : RecordingData) → recording_of a r ≡ Some old → HasGrown old b r
has_grown a b ab r old is =
    let found = recorded_is (slice_get (channel a).lanes r) (held_bytes a r) old is in
    let l : Lane = found.0 in
    let at : slice_get (channel a).lanes r ≡ Some l = found.1 in
    let begun = init_is l.init l (held_bytes a r) old found.2 in
    let init : InitData = begun.0 in
    let grown = lane_grown a b ab.later ab.continues r l at in
    let m : Lane = grown.lane in
    let there : slice_get (channel b).lanes r ≡ Some m = grown.at in
    let inits = grown.grows.init init begun.1 in
    let of_a = at_beside (channel a).lanes a.bytes r l ab.earlier.counts_agree at in
    let of_b = at_beside (channel b).lanes b.bytes r m ab.later.counts_agree there in
    let ha : HeldBytes = of_a.0 in
    let hb : HeldBytes = of_b.0 in
    let fits_a = ab.earlier.fits r l ha at of_a.1 in
    let fits_b = ab.later.fits r m hb there of_b.1 in
    let held_a : held_bytes a r ≡ ha = at_or a.bytes r no_bytes ha of_a.1 in
    let held_b : held_bytes b r ≡ hb = at_or b.bytes r no_bytes hb of_b.1 in
    let size_a : length old.head ≡ l.size = ap (λ (x : RecordingData). length x.head) (sym begun.2) ∙ ap (λ (h : HeldBytes). length h.head) held_a ∙ sym fits_a.size in
    let facts_a : l.facts ≡ old.facts = ap (λ (x : RecordingData). x.facts) begun.2 in
    record {
      next = recording_with init m hb;
      is = ap (λ (o : Option Lane). recorded_at o (held_bytes b r)) there ∙ ap (λ (i : Option InitData). recorded_from i m (held_bytes b r)) inits.0 ∙ ap (λ (h : HeldBytes). Some (recording_with init m h)) held_b;
      grows = record {
        head = sym fits_b.size ∙ inits.1 ∙ sym size_a;
        more = grown.grows.more;
        facts = grown.grows.facts ∙ ap (λ (fs : List Facts). fs ++ grown.grows.more) facts_a;
      };
      lengths = lengths_of init m.facts m.floor hb.units fits_b.kept (λ k f u at_f at_u. fits_b.units init k f u inits.0 at_f at_u);
    }

-- a rendition's bytes before a programme are as many in a state that follows
pub before_same : (a b : State) → FollowsAsState a b → (request : Request) (t : Table) (recordings : List RecordingData) → AreRecordings a recordings → IsTableFor a request (Ok t)
    → (r : ℕ) (recorded : RecordingData) → slice_get recordings r ≡ Some recorded
    → (next : RecordingData) × (recording_of b r ≡ Some next) × (bytes_between next.facts 0 (first_fragment t r) ≡ bytes_between recorded.facts 0 (first_fragment t r))
before_same a b ab request t recordings are was r recorded at =
    let first : ℕ = first_fragment t r in
    let grown = has_grown a b ab r recorded (are.each r recorded at) in (
      grown.next,
      grown.is,
      ap (λ (facts : List Facts). bytes_between facts 0 first) grown.grows.facts ∙ bytes_same recorded.facts grown.grows.more 0 first (places-within a request t recordings are was 0 r recorded at),
    )

-- as many recordings of a state as the earlier ones, of the renditions from number k on
record AreGathered (s : State) (k : ℕ) (olds : List RecordingData) : Type 0 where
  pub list : List RecordingData
  pub count : length list ≡ length olds
  pub each : (r : ℕ) (x : RecordingData) → slice_get list r ≡ Some x → recording_of s (k + r) ≡ Some x

-- the recording of rendition k before those from k + 1 on gives those from k on
each_one : (s : State) (k : ℕ) (first : RecordingData) (rest : List RecordingData) → recording_of s k ≡ Some first → ((r : ℕ) (x : RecordingData) → slice_get rest r ≡ Some x → recording_of s (suc k + r) ≡ Some x)
    → (r : ℕ) (x : RecordingData) → slice_get (first ∷ rest) r ≡ Some x → recording_of s (k + r) ≡ Some x
each_one s k first rest is others zero x at = let here : k + 0 ≡ k = omega arith in ap (recording_of s) here ∙ is ∙ at
each_one s k first rest is others (suc r) x at = let here : k + suc r ≡ suc k + r = omega arith in ap (recording_of s) here ∙ others r x at

-- the recordings of the renditions from k on are there in each state that follows, as many as before
gather : (a b : State) → FollowsAsState a b → (k : ℕ) (olds : List RecordingData) → ((r : ℕ) (x : RecordingData) → slice_get olds r ≡ Some x → recording_of a (k + r) ≡ Some x) → AreGathered b k olds
gather a b ab k [] each = record { list = []; count = refl; each = λ r x at. absurd (cc at) }
gather a b ab k (old ∷ olds) each =
    let here : k ≡ k + 0 = omega arith in
    let first = has_grown a b ab k old (ap (recording_of a) here ∙ each 0 old refl) in
    let rest = gather a b ab (suc k) olds (λ r x at. let moved : suc k + r ≡ k + suc r = omega arith in ap (recording_of a) moved ∙ each (suc r) x at) in
    record { list = first.next ∷ rest.list; count = ap suc rest.count; each = each_one b k first.next rest.list first.is rest.each }

-- ---- the answer

module _ (a b : State) (ab : FollowsAsState a b) (request : Request) (t : Table) (olds news : List RecordingData) (was : IsTableFor a request (Ok t)) (are_a : AreRecordings a olds)
    (are_b : AreRecordings b news) (same_count : length olds ≡ length news) (covered : AreCovered t news) where
  -- a right playlist of a plan over an earlier recording is right over the recording that has grown
  list_stays : (plan : List ℕ) → IsPlan t plan → (r : ℕ) (recorded : RecordingData) (list : Playlist) → slice_get news r ≡ Some recorded
      → ((old : RecordingData) → slice_get olds r ≡ Some old → IsRightList a.config.epoch old r t plan list) → IsRightList a.config.epoch recorded r t plan list
  list_stays plan is_plan r recorded list at right =
      let beside = at_beside news olds r recorded same_count at in
      let old : RecordingData = beside.0 in
      let before = right old beside.1 in
      let grown = has_grown a b ab r old (are_a.each r old beside.1) in
      let found : recording_of b r ≡ Some recorded = are_b.each r recorded at in
      let same : grown.next ≡ recorded = cc (grown.is, found) in
      let grows : GrowsTo old recorded = subst (GrowsTo old) same grown.grows in
      let lengths : HaveLengths recorded.facts recorded.floor recorded.units = subst (λ (x : RecordingData). HaveLengths x.facts x.floor x.units) same grown.lengths in
      let lists : job_list a.config.epoch recorded r t plan ≡ job_list a.config.epoch old r t plan =
      list_same a.config.epoch old recorded r t plan grows (λ p. places-within a request t olds are_a was p r old beside.1) in
      let is : list ≡ job_list a.config.epoch recorded r t plan = before.is ∙ sym lists in
      let below = within news r recorded at in
      let cut : ResourceLayout = job_layout a.config.epoch recorded r (job_uri r) (first_fragment t r) in
      record {
        is = is;
        has_text = before.has_text;
        fits = before.fits;
        media = subst (λ (l : Playlist). joined_media l.segments (job_resource recorded r t) ≡ concat (programme_units recorded r t)) (sym is)
            (media_are_the_units t plan cut recorded.head recorded.floor recorded.units is_plan (omega (arith, below, covered.renditions)) refl refl (covered.each r recorded at).kept lengths);
      }

  -- a certificate that shows a least plan with right playlists still shows it over the recordings that have grown
  shows_still : (lists : List Playlist) (shown : ClaimData) → ShowsCut a.config.epoch olds t lists shown → ShowsCut a.config.epoch news t lists shown
  shows_still lists (CutClaim total plan prices) shows =
      (shows.0, record { count = shows.1.count; each = λ r recorded list at there. list_stays plan shows.0.is_plan r recorded list at (λ old at_old. shows.1.each r old list at_old there) })
  shows_still lists (NoneClaim closed) shows = absurd shows

-- a right answer stays right in a state that follows, if its programme is the same there and its result is right
-- over the recordings of that state
answer_stays : (a b : State) → FollowsAsState a b → (request : Request) (cut_result : CutResult) (x : IsRightAnswer a request cut_result) → IsTableFor b request (Ok x.table)
    → IsTable x.table → ((news : List RecordingData) → AreRecordings b news → length x.recordings ≡ length news → AreCovered x.table news → IsRightCutResult a.config.epoch news x.table cut_result)
    → IsRightAnswer b request cut_result
answer_stays a b ab request cut_result x defined valid right =
    let gathered = gather a b ab 0 x.recordings (λ r old at. ap (recording_of a) (zero-add r) ∙ x.are.each r old at) in
    let config : b.config ≡ a.config = ab.continues.config in
    let lanes : length (channel a).lanes ≡ length (channel b).lanes =
    lanes_count a.config a.log ∙ sym (ap (λ (c : ConfigData). length c.renditions) config) ∙ sym (lanes_count b.config b.log) in
    let are : AreRecordings b gathered.list =
    record { count = gathered.count ∙ x.are.count ∙ lanes; each = λ r recorded at. ap (recording_of b) (sym (zero-add r)) ∙ gathered.each r recorded at } in
    let covered = table-covered b request x.table gathered.list are valid defined in
    right_answer b a.config.epoch request x.table gathered.list cut_result (ap (λ (c : ConfigData). c.epoch) (sym config)) defined are valid (right gathered.list are (sym gathered.count) covered)

-- a right answer, with a plan or without, is one of each state that follows with the same programme
stays_after : (a b : State) → FollowsAsState a b → (request : Request) (cut_result : CutResult) (x : IsRightAnswer a request cut_result) → IsTableFor b request (Ok x.table) → IsRightAnswer b request cut_result
stays_after a b ab request (Cut lists certificate) x defined =
    let good = x.right.0 in
    answer_stays a b ab request (Cut lists certificate) x defined (subst IsTable good.0 good.2.form.table)
    (λ news are count covered. (good, shows_still a b ab request x.table x.recordings news x.defined x.are are count covered (map playlist_of lists.items) certificate.shown x.right.1))
stays_after a b ab request (NoCut certificate) x defined =
    let good = x.right.0 in
    answer_stays a b ab request (NoCut certificate) x defined (subst IsTable good.0 good.2.form.table) (λ news are count covered. (good, x.right.1))

-- a right answer of a state is one of each state that follows, if the programme is the same there
pub answers_stay : AnswersStay
answers_stay a b request cut_result (inl equal) x defined = subst (λ (s : State). IsRightAnswer s request cut_result) equal x
answers_stay a b request cut_result (inr ab) x defined = stays_after a b ab request cut_result x defined

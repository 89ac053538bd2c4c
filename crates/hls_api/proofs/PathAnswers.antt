-- Each path that a state lists is answered with 200.
use Rattle.std.proofs.Common.{◌≡◌, ◌∙◌, ℕ, ◌+◌, ◌-◌, ◌≤◌, true, List, length, drop, take, max, min, Option, Some, refl, sym, ap, arith}
use Rattle.std.specs.Prelude.{bytes_eq, slice_get}
use Rattle.std.proofs.lemmas.Bool.{cond-true}
use Rattle.std.proofs.lemmas.Slice.Eq.{bytes_eq-Decides}
use Rattle.std.proofs.lemmas.List.Sums.{sum_by-append}
use Rattle.std.proofs.Math.Seq.{take-add}
use Rattle.hls_media_laws.specs.{InitData.InitData, declared.facts.Facts.Facts, FactLists.{len_of, total_bytes}}
use Rattle.hls_m3u8.specs.{declared.playlist.MediaSegment.MediaSegment, Playlist.Playlist}
use Rattle.hls_record.specs.RecordingData.{RecordingData, offset_at}
use Rattle.hls_http.specs.declared.range_spec.RangeSpec.TheVariants.{All}
use Rattle.hls_http.specs.declared.response_parts.Status.TheVariants.{Done}
use Rattle.hls_http.specs.declared.range_spec.RangeSelection.TheVariants as parts
use Rattle.hls_core_laws.specs.{Base.bytes_before_base, Channel.Lane, State.{State, HeldBytes, channel, no_bytes}, IsState.{IsState, MatchesBytes}, Outcome.held_bytes}
use Rattle.hls_core_laws.proofs.Callers.{at_beside, at_or}
use Rattle.hls_core.specs.Getters.{recorded_at, recorded_from, recording_of}
use Rattle.hls_playlists_laws.specs.JobResource.{bytes_between}
use Rattle.hls_playlists_laws.specs.{NamedUnits.{KeptUnits, Named, named_units}, PathLists.path_list_of}
use Rattle.hls_playlists_laws.proofs.Callers.{is-named, listed-inits-are-there, listed-lane, listed-paths-are-kept}
use Rattle.hls_api.specs.Responses.{ResponseData, part_answer}
use Rattle.hls_api.specs.Players.{init_answer, init_section_answer, of_run, recorded_units_answer, segment_answer, shared_media, slice_answer, units_answer}
use Rattle.hls_api.specs.PathAnswers.{IsAnsweredPath}
use Rattle.hls_api.proofs.Parts.{kept_shown}

-- a run's name equals itself, byte by byte
same-run : (run : List ℕ) → bytes_eq run run ≡ true
same-run run = (bytes_eq-Decides run run).1 refl

-- a rendition's lane and its recording
record IsRecording (s : State) (r : ℕ) (l : Lane) : Type 0 where
  rec : RecordingData
  is : recording_of s r ≡ Some rec
  size : length rec.head ≡ l.size
  facts : rec.facts ≡ l.facts
  floor : rec.floor ≡ l.floor
  kept : rec.floor + length rec.units ≡ length rec.facts

-- in a valid state, a lane with an init section has a recording with the same sizes, facts and floor
recording-at : (s : State) → IsState s → (r : ℕ) (l : Lane) (init : InitData) → slice_get (channel s).lanes r ≡ Some l → l.init ≡ Some init → IsRecording s r l
recording-at s state r l init at begun =
    let beside = at_beside (channel s).lanes s.bytes r l state.counts_agree at in
    let h : HeldBytes = beside.0 in
    let held : held_bytes s r ≡ h = at_or s.bytes r no_bytes h beside.1 in
    let fits : MatchesBytes l h = state.fits r l h at beside.1 in
    record {
      rec = record { init = init; head = h.head; facts = l.facts; floor = l.floor; units = h.units };
      is = ap (λ (o : Option Lane). recorded_at o (held_bytes s r)) at
          ∙ (ap (λ (i : Option InitData). recorded_from i l (held_bytes s r)) begun ∙ ap (recorded_from (Some init) l) held);
      size = sym fits.size;
      facts = refl;
      floor = refl;
      kept = fits.kept;
    }

-- a slice without trimmed bytes, asked for without a range, is answered with 200
whole-slice : (rec : RecordingData) (start len : ℕ) → rec.floor + length rec.units ≡ length rec.facts →
    min (start + 0 + len) (offset_at rec rec.floor) ≤ max (start + 0) (length rec.head) → (slice_answer rec start len All).status ≡ Done
whole-slice rec start len kept there =
    let shown = kept_shown rec (start + 0) len kept there in
    ap (λ (o : Option (List ℕ)). (part_answer (λ from n. o) len parts.Whole).status) shown

-- the bytes of the first n units are those of the first m units and those of the units between
bytes-to : (facts : List Facts) (m n : ℕ) → m ≤ n → total_bytes (take n facts) ≡ total_bytes (take m facts) + bytes_between facts m n
bytes-to facts m n rises =
    let whole : n ≡ m + (n - m) = omega (arith, rises) in
    ap (λ (k : ℕ). total_bytes (take k facts)) whole
    ∙ (ap total_bytes (take-add m (n - m) facts) ∙ sum_by-append len_of (take m facts) (take (n - m) (drop m facts)))

-- an answer under the channel's own run is that answer
own-run : (s : State) (answer : ResponseData) → of_run s s.config.base.run answer ≡ answer
own-run s answer = cond-true (bytes_eq s.config.base.run s.config.base.run) answer _ (same-run s.config.base.run)

-- a media reply that is 200 stays 200 with its cache policy
shared-status : (a : ResponseData) → a.status ≡ Done → (shared_media a).status ≡ Done
shared-status a is = is

-- if the bytes from `first` to `last` name kept units of a lane, their path is answered with 200
segment-status : (s : State) (r : ℕ) (l : Lane) (first last m n : ℕ) → IsRecording s r l →
    named_units (bytes_before_base s.config.base r) s.config.target l.size l.facts l.floor first last ≡ KeptUnits m n →
    (segment_answer s s.config.base.run r first last All).status ≡ Done
segment-status s r l first last m n on named =
    let before : ℕ = bytes_before_base s.config.base r in
    let rec : RecordingData = on.rec in
    let own : named_units before s.config.target (length rec.head) rec.facts rec.floor first last ≡ KeptUnits m n =
    ap (λ (k : ℕ). named_units before s.config.target k rec.facts rec.floor first last) on.size
    ∙ (ap (λ (fs : List Facts). named_units before s.config.target l.size fs rec.floor first last) on.facts
    ∙ (ap (λ (k : ℕ). named_units before s.config.target l.size l.facts k first last) on.floor ∙ named)) in
    let tests = is-named before s.config.target (length rec.head) rec.facts rec.floor first last m n own in
    let rises = bytes-to rec.facts rec.floor m tests.1 in
    let there : (slice_answer rec (offset_at rec m) (bytes_between rec.facts m n) All).status ≡ Done =
    whole-slice rec (offset_at rec m) (bytes_between rec.facts m n) on.kept (omega (arith, rises)) in
    ap (λ (a : ResponseData). a.status) (own-run s (recorded_units_answer s.config.target before (recording_of s r) first last All))
    ∙ (ap (λ (o : Option RecordingData). (recorded_units_answer s.config.target before o first last All).status) on.is
    ∙ (ap (λ (x : Named). (units_answer rec x All).status) own ∙ there))

-- each path that a state lists is answered with 200 in that state
pub listed_paths_are_answered : (s : State) (r : ℕ) (list : Playlist) (k : ℕ) (x : MediaSegment) → IsState s → path_list_of s r ≡ Some list →
    slice_get list.segments k ≡ Some x → IsAnsweredPath s r x.uri
listed_paths_are_answered s r list k x state is at =
    let lane = listed-lane s r list state is in
    let begun = listed-inits-are-there s r lane.0 list state lane.1 is in
    let kept = listed-paths-are-kept s r lane.0 list k x state lane.1 is at in
    let on = recording-at s state r lane.0 begun.0 lane.1 begun.1 in
    record {
      range = kept.range;
      is = kept.is;
      done = segment-status s r lane.0 kept.range.offset (kept.range.offset + kept.range.length - 1) kept.first kept.end on kept.named;
    }

-- if a state has a playlist by paths for a rendition, that rendition's init section is answered with 200
pub listed_inits_are_answered : (s : State) (r : ℕ) (list : Playlist) → IsState s → path_list_of s r ≡ Some list →
    (init_answer s s.config.base.run r All).status ≡ Done
listed_inits_are_answered s r list state is =
    let lane = listed-lane s r list state is in
    let begun = listed-inits-are-there s r lane.0 list state lane.1 is in
    let on = recording-at s state r lane.0 begun.0 lane.1 begun.1 in
    let there = whole-slice on.rec 0 (length on.rec.head) on.kept (omega arith) in
    ap (λ (a : ResponseData). a.status) (own-run s (init_section_answer (recording_of s r) All))
    ∙ (ap (λ (o : Option RecordingData). (init_section_answer o All).status) on.is ∙ there)

-- The text of a live playlist without its first segments.
use Rattle.std.proofs.Common.{◌≡◌, ◌∙◌, ℕ, suc, ◌+◌, ◌<◌, ◌≤◌, Bool, true, false, cond, List, [], ◌∷◌, ◌++◌, length, map, take, drop, Option, Some, None, arith, refl, sym, ap, append-nil}
use Rattle.std.specs.Prelude.{slice_get, option_map}
use Rattle.std.specs.List.{count_by}
use Rattle.std.proofs.lemmas.List.{length-map, length-take-le, take-append-drop, take-append-le, take-map, take_at}
use Rattle.std.proofs.lemmas.List.Sums.{count_by-le-length, sum_by-cons}
use Rattle.std.proofs.lemmas.Option.{slice_get_within}
use Rattle.hls_record.specs.RecordingData.{RecordingData}
use Rattle.hls_places_laws.specs.declared.line.live_segment.LiveSegment as live_line
use Rattle.hls_places_laws.specs.Line.Lengths.{is_marked as is_break, marks_in}
use Rattle.hls_places_laws.specs.Line.Live.{segments_of}
use Rattle.hls_m3u8.specs.declared.playlist.MediaSegment.{MediaSegment}
use Rattle.hls_m3u8.specs.declared.playlist.PlaylistKind.{PlaylistKind}
use Rattle.hls_m3u8.specs.Lines.{text_of_lines, all_segment_lines, head_lines, end_lines, media_text}
use Rattle.hls_m3u8.specs.Playlist.{Playlist}
use Rattle.hls_m3u8.proofs.Joined.{joined_append}
use Rattle.hls_core_laws.specs.Base.{BaseData, run_text}
use Rattle.hls_core_laws.specs.State.{State, channel}
use Rattle.hls_core_laws.specs.IsState.{IsState}
use Rattle.hls_core_laws.specs.Line.{line}
use Rattle.hls_playlists_laws.specs.BasedLists.{offsets_from}
use Rattle.hls_playlists_laws.specs.JobPlaylists.{job_layout}
use Rattle.hls_playlists_laws.specs.JoinedLists.{Offsets, joined_list}
use Rattle.hls_playlists_laws.specs.LaterList.{IsLater, is_marked}
use Rattle.hls_playlists_laws.specs.Live.{live_list_of, live_media_segment, live_uri}
use Rattle.hls_playlists_laws.specs.PathLists.{media_folder, segment_in}
use Rattle.hls_playlists_laws.specs.Segments.{ResourceLayout}
use Rattle.hls_playlists_laws.proofs.Callers.{closed, evicted-first, first-listed, is-listed, joined-length, removed-few, stays-later}
use Rattle.hls_playlists.specs.declared.media_uris.MediaUris.{MediaUris}
use Rattle.hls_playlists.specs.declared.media_uris.MediaUris.TheVariants.{Paths, PathsAbove, Ranges}
use Rattle.hls_playlists.specs.LiveWriter.{live_list_by, list_over_segments, rest_of_list, rest_of_live_list, shortened_head}
use Rattle.hls_playlists.specs.MediaUris.{run_above, served_list, served_list_of}
use Rattle.hls_playlists.specs.ShortLists.{shortened_list, shortened_list_of}
use Rattle.hls_playlists.proofs.LiveTexts.{served-some}

-- ---- marks

-- a segment under its path has the mark that it has by its range
pub marks-in_folder : (folder : List ℕ) (xs : List MediaSegment) → count_by is_marked (map (segment_in folder) xs) ≡ count_by is_marked xs
marks-in_folder folder [] = refl
marks-in_folder folder (x ∷ xs) =
    let one = sum_by-cons (λ (y : MediaSegment). cond (is_marked y) 1 0) (segment_in folder x) (map (segment_in folder) xs) in
    let two = sum_by-cons (λ (y : MediaSegment). cond (is_marked y) 1 0) x xs in
    omega (arith, one, two, marks-in_folder folder xs)

-- a mark counts at most 1
pub mark-few : (b : Bool) → cond {A = ℕ} b 1 0 ≤ 1
mark-few true = omega arith
mark-few false = omega arith

-- the marks of the first k + 1 segments of a walk are that of its first one and those of k of the others
pub marks-next : (k : ℕ) (walk rest : List live_line.LiveSegment) (x : live_line.LiveSegment) → walk ≡ x ∷ rest →
    marks_in (suc k) walk ≡ cond {A = ℕ} x.mark 1 0 + marks_in k rest
marks-next k walk rest x is = ap (marks_in (suc k)) is ∙ sum_by-cons (λ (y : live_line.LiveSegment). cond (is_break y) 1 0) x (take k rest)

-- a segment of a playlist has the mark that it has in the live line
marks-listed : (cut : ResourceLayout) (xs : List live_line.LiveSegment) → count_by is_marked (map (live_media_segment cut) xs) ≡ count_by is_break xs
marks-listed cut [] = refl
marks-listed cut (x ∷ xs) =
    let one = sum_by-cons (λ (y : MediaSegment). cond (is_marked y) 1 0) (live_media_segment cut x) (map (live_media_segment cut) xs) in
    let two = sum_by-cons (λ (y : live_line.LiveSegment). cond (is_break y) 1 0) x xs in
    omega (arith, one, two, marks-listed cut xs)

-- the first n segments of a served playlist have as many marks as those of the joined one
marks-served : (uris : MediaUris) (base : BaseData) (r n : ℕ) (p : Playlist) →
    count_by is_marked (take n (served_list uris base r p).segments) ≡ count_by is_marked (take n (joined_list (offsets_from base r) p).segments)
marks-served Ranges base r n p = refl
marks-served Paths base r n p =
    let folder : List ℕ = media_folder (run_text base.run) r in
    let all : List MediaSegment = (joined_list (offsets_from base r) p).segments in
    ap (count_by is_marked) (take-map (segment_in folder) n all) ∙ marks-in_folder folder (take n all)
marks-served PathsAbove base r n p =
    let folder : List ℕ = media_folder (run_above base) r in
    let all : List MediaSegment = (joined_list (offsets_from base r) p).segments in
    ap (count_by is_marked) (take-map (segment_in folder) n all) ∙ marks-in_folder folder (take n all)

-- no more marks than segments were removed
pub breaks-few : (s : State) → IsState s → (line s).breaks ≤ (line s).removed
breaks-few s state =
    let gone : List live_line.LiveSegment = take (channel s).removed (closed s) in
    let few = count_by-le-length is_break gone in
    let count = length-take-le (channel s).removed (closed s) (removed-few s state) in
    omega (arith, few, count)

-- ---- the numbers of a playlist without its first segments

-- the head that counts n segments and their marks as removed is that of the served playlist without these, if both count the same marks
short-head : (uris : MediaUris) (base : BaseData) (r n marks : ℕ) (kind : Option PlaylistKind) (p : Playlist) →
    (joined_list (offsets_from base r) (shortened_head kind n marks p)).discontinuity_sequence
    ≡ (joined_list (offsets_from base r) p).discontinuity_sequence + count_by is_marked (take n (served_list uris base r p).segments) →
    head_lines (served_list uris base r (shortened_head kind n marks p)) ≡ head_lines (shortened_list kind n (served_list uris base r p))
short-head Ranges base r n marks kind p marks_are =
    let sequence : base.segments + (p.media_sequence + n) ≡ base.segments + p.media_sequence + n = omega arith in
    λ k. head_lines (record (shortened_list kind n (served_list Ranges base r p)) { media_sequence = sequence k; discontinuity_sequence = marks_are k })
short-head Paths base r n marks kind p marks_are =
    let sequence : base.segments + (p.media_sequence + n) ≡ base.segments + p.media_sequence + n = omega arith in
    λ k. head_lines (record (shortened_list kind n (served_list Paths base r p)) { media_sequence = sequence k; discontinuity_sequence = marks_are k })
short-head PathsAbove base r n marks kind p marks_are =
    let sequence : base.segments + (p.media_sequence + n) ≡ base.segments + p.media_sequence + n = omega arith in
    λ k. head_lines (record (shortened_list kind n (served_list PathsAbove base r p)) { media_sequence = sequence k; discontinuity_sequence = marks_are k })

-- if n items begin a list that is at least as long, they are its first n
front-is : (xs rest : List MediaSegment) (n : ℕ) (all more : List MediaSegment) → n ≤ length all → length xs ≡ n → all ++ more ≡ xs ++ rest → take n all ≡ xs
front-is xs rest n all more few count same =
    sym (take-append-le n all more few) ∙ (ap (take n) same ∙ take_at xs rest n count)

module _ (s : State) (state : IsState s) (r : ℕ) (recorded : RecordingData) (there : live_list_of s r ≡ Some (live_list_by s r recorded)) (n : ℕ)
    (few : n ≤ length (segments_of (line s))) where
  -- the process's own playlist
  abbrev own : Playlist
  own = live_list_by s r recorded

  abbrev cut : ResourceLayout
  cut = job_layout s.config.epoch recorded r (live_uri r) 0

  own-count : length own.segments ≡ length (segments_of (line s))
  own-count = length-map (segments_of (line s)) (live_media_segment cut)

  -- its first n segments have the marks of the line's first n
  marks-own : count_by is_marked (take n own.segments) ≡ marks_in n (segments_of (line s))
  marks-own = ap (count_by is_marked) (take-map (live_media_segment cut) n (segments_of (line s))) ∙ marks-listed cut (take n (segments_of (line s)))

  -- the playlist without its first segments, as if it had ended: then nothing is asked of its length
  abbrev short : Playlist
  short = record (shortened_list own.kind n own) { ended = true }

  -- the shortened playlist is valid as a later one of the whole
  short-later : IsLater own short
  short-later = record {
    version = refl;
    target = refl;
    map = refl;
    evicted = take n own.segments;
    appended = [];
    segments = append-nil own.segments ∙ sym (take-append-drop n own.segments);
    media_sequence = omega (arith, length-take-le n own.segments (omega (arith, few, own-count)));
    discontinuity_sequence = refl;
    ended = λ over. (refl, refl);
    long = λ some goes_on.
        let never : true ≡ false = goes_on in
        absurd (cc);
  }

  -- the channel's very first segment has no mark, if it is left out
  first-unmarked : (x : MediaSegment) → own.media_sequence ≡ 0 → slice_get (take n own.segments) 0 ≡ Some x → x.mark ≡ false
  first-unmarked x none at =
      let on = is-listed s state r own there in
      let count = length-take-le n own.segments (omega (arith, few, own-count)) in
      let some : 0 < length own.segments = omega (arith, slice_get_within (take n own.segments) 0 x at, count, few, own-count) in
      let front : slice_get own.segments 0 ≡ Some x =
      evicted-first own.segments [] (take n own.segments) (drop n own.segments) x some (append-nil own.segments ∙ sym (take-append-drop n own.segments)) at in
      first-listed s r on.lane x none (ap (λ (p : Playlist). slice_get p.segments 0) on.is ∙ front)

  -- the marks of the segments that are left out are counted
  marks-joined : (o : Offsets) → (joined_list o short).discontinuity_sequence ≡ (joined_list o own).discontinuity_sequence + count_by is_marked (take n (joined_list o own).segments)
  unfolding short-later
  marks-joined o =
      let later = stays-later o own short short-later first-unmarked in
      let number : length later.evicted ≡ n = omega (arith, later.media_sequence) in
      let count = joined-length o own.media_sequence own.segments in
      let front = front-is later.evicted (joined_list o short).segments n (joined_list o own).segments later.appended (omega (arith, few, own-count, count)) number later.segments in
      later.discontinuity_sequence ∙ ap (λ (xs : List MediaSegment). (joined_list o own).discontinuity_sequence + count_by is_marked xs) (sym front)

  -- the written head, followed by the rest from segment n on, is the text of the served playlist without its first n segments
  pub begun-short : (uris : MediaUris) (kind : Option PlaylistKind) (uri text : List ℕ) (list : Playlist) → uri ≡ live_uri r →
      list ≡ served_list uris s.config.base r (shortened_head kind n (marks_in n (segments_of (line s))) (list_over_segments s recorded uri [])) →
      text ≡ text_of_lines (head_lines list) →
      Some (text ++ rest_of_live_list uris s r n) ≡ option_map media_text (shortened_list_of uris kind n s r)
  unfolding media_text
  begun-short uris kind uri text list uri_is list_is written =
      let base : BaseData = s.config.base in
      let o : Offsets = offsets_from base r in
      let whole : Playlist = served_list uris base r own in
      let there_too : served_list_of uris s r ≡ Some whole = served-some uris s r own there in
      let marks = marks_in n (segments_of (line s)) in
      let marks_are : (joined_list o (shortened_head kind n marks own)).discontinuity_sequence
      ≡ (joined_list o own).discontinuity_sequence + count_by is_marked (take n whole.segments) =
      ap (λ (m : ℕ). (joined_list o (shortened_head kind n m own)).discontinuity_sequence) (sym marks-own)
      ∙ (marks-joined o ∙ ap (λ (m : ℕ). (joined_list o own).discontinuity_sequence + m) (sym (marks-served uris base r n own))) in
      let head : text ≡ text_of_lines (head_lines (shortened_list kind n whole)) =
      written ∙ ap (λ (p : Playlist). text_of_lines (head_lines p)) list_is
      ∙ ap (λ (u : List ℕ). text_of_lines (head_lines (served_list uris base r (shortened_head kind n marks (list_over_segments s recorded u []))))) uri_is
      ∙ ap text_of_lines (bare-head uris ∙ short-head uris base r n marks kind own marks_are) in
      let all : text ++ rest_of_list (Some whole) n ≡ media_text (shortened_list kind n whole) =
      ap (λ (t : List ℕ). t ++ text_of_lines (all_segment_lines (drop n whole.segments) ++ end_lines whole.ended)) head
      ∙ sym (joined_append (head_lines (shortened_list kind n whole)) (all_segment_lines (drop n whole.segments) ++ end_lines whole.ended)) in
      ap (λ p. Some (text ++ rest_of_list p n)) there_too ∙ (ap Some all ∙ sym (ap (λ p. option_map media_text (option_map (shortened_list kind n) p)) there_too))
    where
      -- the head says nothing of segments
      bare-head : (uris : MediaUris) →
          head_lines (served_list uris s.config.base r (shortened_head kind n (marks_in n (segments_of (line s))) (list_over_segments s recorded (live_uri r) [])))
          ≡ head_lines (served_list uris s.config.base r (shortened_head kind n (marks_in n (segments_of (line s))) own))
      bare-head Ranges = refl
      bare-head Paths = refl
      bare-head PathsAbove = refl

-- a rendition without a served playlist has none without its first segments
pub short-none : (uris : MediaUris) (kind : Option PlaylistKind) (n : ℕ) (s : State) (r : ℕ) → served_list_of uris s r ≡ None →
    shortened_list_of uris kind n s r ≡ None
short-none uris kind n s r none = ap (option_map (shortened_list kind n)) none

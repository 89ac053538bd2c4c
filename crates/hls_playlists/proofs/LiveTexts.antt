-- The text of a live playlist, written in parts.
use Rattle.std.proofs.Common.{◌≡◌, ◌∙◌, ◌⊎◌, ℕ, zero, suc, ◌+◌, ◌-◌, ◌<◌, ◌≤◌, ◌^◌, ℤ, Bool, true, false, List, [], ◌∷◌, ◌++◌, length, map, drop, All, Option, Some, None, if◌then◌else◌, inl, inr, arith, refl, sym, ap, subst, append_assoc, add-one}
use Rattle.std.proofs.lemmas.List.{drop-map, drop_all, length-drop, length-map}
use Rattle.std.proofs.lemmas.List.Elements.{All-drop, All-head}
use Rattle.std.specs.Prelude.{slice_get, option_map}
use Rattle.hls_check_tables.specs.Tables.{spot_in}
use Rattle.hls_blocks.specs.Numbered.{Numbered, items_starting_at}
use Rattle.hls_record.specs.RecordingData.{RecordingData}
use Rattle.hls_places_laws.specs.declared.line.live_segment.LiveSegment as live_line
use Rattle.hls_places_laws.specs.Line.Live.{Live, segments_of, has_ended}
use Rattle.hls_m3u8.specs.declared.playlist.MediaSegment.{MediaSegment}
use Rattle.hls_m3u8.specs.HasText.{IsSegment}
use Rattle.hls_m3u8.specs.Lines.{text_of_lines, segment_lines, all_segment_lines, head_lines, end_lines, media_text}
use Rattle.hls_m3u8.specs.Playlist.{Playlist}
use Rattle.hls_m3u8.proofs.Joined.{joined_append}
use Rattle.hls_core_laws.specs.Channel.{Lane}
use Rattle.hls_core_laws.specs.State.{State, channel}
use Rattle.hls_core_laws.specs.IsState.{IsState}
use Rattle.hls_core_laws.specs.Line.{line}
use Rattle.hls_playlists_laws.specs.Live.{live_layout, live_uri, live_media_segment, live_list_over, has_closed_segment, live_list_in, live_list_of}
use Rattle.hls_playlists_laws.specs.JobPlaylists.{job_layout}
use Rattle.hls_core_laws.specs.Base.{BaseData, run_text}
use Rattle.hls_playlists_laws.specs.JoinedLists.{Offsets, joined_list, joined_segment, joined_segments}
use Rattle.hls_playlists_laws.specs.BasedLists.{offsets_from}
use Rattle.hls_playlists_laws.specs.PathLists.{list_by_paths, media_folder, segment_in}
use Rattle.hls_playlists.specs.declared.media_uris.MediaUris.{MediaUris}
use Rattle.hls_playlists.specs.declared.media_uris.MediaUris.TheVariants.{Paths, PathsAbove, Ranges}
use Rattle.hls_playlists.specs.MediaUris.{run_above, served_list, served_list_of, served_segment}
use Rattle.hls_playlists.specs.LiveWriter.{HasSegments, ListHasSegments, CanBeWritten, ReachesStop, ListReaches, rest_of_list, rest_of_live_list, served_segment_text, live_list_by, list_over_segments}
use Rattle.hls_playlists_laws.proofs.Callers.{live-lists-have-texts, starts-small}

-- ---- lists

-- if x is the first item after the first k, the rest are those after it
drop-suc : {X : Type 0} (xs : List X) (k : ℕ) (x : X) (rest : List X) → drop k xs ≡ x ∷ rest → drop (suc k) xs ≡ rest
drop-suc xs zero x rest is = ap (λ ys. drop (suc zero) ys) is
drop-suc [] (suc k) x rest is = cc
drop-suc (y ∷ xs) (suc k) x rest is = drop-suc xs k x rest is

-- the same, with k + 1 in place of the successor of k
pub drop-next : {X : Type 0} (xs : List X) (k : ℕ) (x : X) (rest : List X) → drop k xs ≡ x ∷ rest → drop (k + 1) xs ≡ rest
drop-next xs k x rest is = ap (λ n. drop n xs) (add-one k) ∙ drop-suc xs k x rest is

-- if an item follows the first k, the list has at least k + 1 items
pub within : {X : Type 0} (xs : List X) (k : ℕ) (x : X) (rest : List X) → drop k xs ≡ x ∷ rest → k + 1 ≤ length xs
within xs k x rest is = omega (arith, length-drop k xs, ap length is)

-- if nothing follows the first k items, the list has at most k items
pub all-of : {X : Type 0} (xs : List X) (k : ℕ) → drop k xs ≡ [] → length xs ≤ k
all-of xs k is = omega (arith, length-drop k xs, ap length is)

-- ---- playlists as they are served

-- joined segments from index k on are those from index k on, joined under their own numbers
joined-drop : (o : Offsets) (n k : ℕ) (xs : List MediaSegment) (x : MediaSegment) (rest : List MediaSegment) → drop k xs ≡ x ∷ rest
    → drop k (joined_segments o n xs) ≡ joined_segment o (n + k) x ∷ joined_segments o (suc (n + k)) rest
joined-drop o n zero xs x rest is =
    let none : n ≡ n + 0 = omega arith in
    ap (joined_segments o n) is ∙ ap (λ (m : ℕ). joined_segment o m x ∷ joined_segments o (suc m) rest) none
joined-drop o n (suc k) [] x rest is = absurd (cc)
joined-drop o n (suc k) (y ∷ xs) x rest is =
    let next : suc n + k ≡ n + suc k = omega arith in
    joined-drop o (suc n) k xs x rest is ∙ ap (λ (m : ℕ). joined_segment o m x ∷ joined_segments o (suc m) rest) next

-- joining segments keeps their number
joined-count : (o : Offsets) (n : ℕ) (xs : List MediaSegment) → length (joined_segments o n xs) ≡ length xs
joined-count o n [] = refl
joined-count o n (x ∷ xs) = ap suc (joined-count o (suc n) xs)

-- a state without a live playlist of a rendition serves none
pub served_none : (uris : MediaUris) (s : State) (r : ℕ) → live_list_of s r ≡ None → served_list_of uris s r ≡ None
served_none Ranges s r none = ap (option_map (joined_list (offsets_from s.config.base r))) none
served_none Paths s r none =
    ap (λ (o : Option Playlist). option_map (list_by_paths (run_text s.config.base.run) r) (option_map (joined_list (offsets_from s.config.base r)) o)) none
served_none PathsAbove s r none =
    ap (λ (o : Option Playlist). option_map (list_by_paths (run_above s.config.base) r) (option_map (joined_list (offsets_from s.config.base r)) o)) none

-- a state with a live playlist of a rendition serves it, counted from the base
pub served-some : (uris : MediaUris) (s : State) (r : ℕ) (list : Playlist) → live_list_of s r ≡ Some list
    → served_list_of uris s r ≡ Some (served_list uris s.config.base r list)
served-some Ranges s r list there = ap (option_map (joined_list (offsets_from s.config.base r))) there
served-some Paths s r list there =
    ap (λ (o : Option Playlist). option_map (list_by_paths (run_text s.config.base.run) r) (option_map (joined_list (offsets_from s.config.base r)) o)) there
served-some PathsAbove s r list there =
    ap (λ (o : Option Playlist). option_map (list_by_paths (run_above s.config.base) r) (option_map (joined_list (offsets_from s.config.base r)) o)) there

-- segment k of the served playlist is segment k of the process's own, as it is served
served-next : (uris : MediaUris) (base : BaseData) (r : ℕ) (list : Playlist) (k : ℕ) (x : MediaSegment) (rest : List MediaSegment) → drop k list.segments ≡ x ∷ rest
    → (tail : List MediaSegment) × (drop k (served_list uris base r list).segments ≡ served_segment uris base r (list.media_sequence + k) x ∷ tail)
served-next Ranges base r list k x rest is =
    (joined_segments (offsets_from base r) (suc (list.media_sequence + k)) rest, joined-drop (offsets_from base r) list.media_sequence k list.segments x rest is)
served-next Paths base r list k x rest is =
    let path : MediaSegment → MediaSegment = segment_in (media_folder (run_text base.run) r) in
    let tail : List MediaSegment = joined_segments (offsets_from base r) (suc (list.media_sequence + k)) rest in (
      map path tail,
      drop-map path k (joined_segments (offsets_from base r) list.media_sequence list.segments)
          ∙ ap (map path) (joined-drop (offsets_from base r) list.media_sequence k list.segments x rest is),
    )
served-next PathsAbove base r list k x rest is =
    let path : MediaSegment → MediaSegment = segment_in (media_folder (run_above base) r) in
    let tail : List MediaSegment = joined_segments (offsets_from base r) (suc (list.media_sequence + k)) rest in (
      map path tail,
      drop-map path k (joined_segments (offsets_from base r) list.media_sequence list.segments)
          ∙ ap (map path) (joined-drop (offsets_from base r) list.media_sequence k list.segments x rest is),
    )

-- the served playlist has as many segments as the process's own
served-count : (uris : MediaUris) (base : BaseData) (r : ℕ) (list : Playlist) → length (served_list uris base r list).segments ≡ length list.segments
served-count Ranges base r list = joined-count (offsets_from base r) list.media_sequence list.segments
served-count Paths base r list =
    length-map (joined_segments (offsets_from base r) list.media_sequence list.segments) (segment_in (media_folder (run_text base.run) r))
    ∙ joined-count (offsets_from base r) list.media_sequence list.segments
served-count PathsAbove base r list =
    length-map (joined_segments (offsets_from base r) list.media_sequence list.segments) (segment_in (media_folder (run_above base) r))
    ∙ joined-count (offsets_from base r) list.media_sequence list.segments

-- the served playlist has ended exactly if the process's own has
served-ended : (uris : MediaUris) (base : BaseData) (r : ℕ) (list : Playlist) → (served_list uris base r list).ended ≡ list.ended
served-ended Ranges base r list = refl
served-ended Paths base r list = refl
served-ended PathsAbove base r list = refl

-- the head of a served playlist is the same without its segments
served-head : (uris : MediaUris) (base : BaseData) (s : State) (r : ℕ) (recorded : RecordingData)
    → head_lines (served_list uris base r (list_over_segments s recorded (live_uri r) [])) ≡ head_lines (served_list uris base r (live_list_by s r recorded))
served-head Ranges base s r recorded = refl
served-head Paths base s r recorded = refl
served-head PathsAbove base s r recorded = refl

-- ---- a state's playlist

-- a state without a live playlist has no number of segments to write
pub unlisted-has : (s : State) (r k : ℕ) → live_list_of s r ≡ None → HasSegments s r k → ⊥
unlisted-has s r k is has = subst (λ list. ListHasSegments list k) is has

-- ---- its text

-- after the lines of segment k, the text so far and the rest from segment k + 1 on are the whole text
next-lines : (all : List MediaSegment) (ended : Bool) (k : ℕ) (y : MediaSegment) (tail : List MediaSegment) (before after : List ℕ) → drop k all ≡ y ∷ tail
    → after ≡ before ++ text_of_lines (segment_lines y)
    → after ++ text_of_lines (all_segment_lines (drop (k + 1) all) ++ end_lines ended) ≡ before ++ text_of_lines (all_segment_lines (drop k all) ++ end_lines ended)
next-lines all ended k y tail before after here written =
    let rest = all_segment_lines (drop (k + 1) all) in
    let e = end_lines ended in
    ap (λ (t : List ℕ). t ++ text_of_lines (rest ++ e)) written
    ∙ append_assoc before (text_of_lines (segment_lines y)) (text_of_lines (rest ++ e))
    ∙ ap (λ (t : List ℕ). before ++ t) (sym (joined_append (segment_lines y) (rest ++ e)))
    ∙ ap (λ (ls : List (List ℕ)). before ++ text_of_lines ls) (sym (append_assoc (segment_lines y) rest e))
    ∙ ap (λ (ss : List MediaSegment). before ++ text_of_lines ((segment_lines y ++ all_segment_lines ss) ++ e)) (drop-next all k y tail here)
    ∙ ap (λ (ss : List MediaSegment). before ++ text_of_lines (all_segment_lines ss ++ e)) (sym here)

module _ (s : State) (state : IsState s) (r : ℕ) (recorded : RecordingData) (k : ℕ) (x : live_line.LiveSegment) (rest : List live_line.LiveSegment)
    (there : live_list_of s r ≡ Some (live_list_by s r recorded)) (walk : drop k (segments_of (line s)) ≡ x ∷ rest) where
  -- a segment of the line, as the playlist has it
  abbrev cut_of : live_line.LiveSegment → MediaSegment
  cut_of y = live_media_segment (job_layout s.config.epoch recorded r (live_uri r) 0) y

  -- all segments of the line, as the playlist has them
  abbrev whole : List MediaSegment
  whole = map cut_of (segments_of (line s))

  -- from index k on the playlist has segment x and those after it
  next-is : drop k whole ≡ cut_of x ∷ map cut_of rest
  next-is = drop-map cut_of k (segments_of (line s)) ∙ ap (map cut_of) walk

  -- with the lines of segment k appended to a text, the text is complete with the rest from segment k + 1 on
  pub one-written : (uris : MediaUris) (epoch : Option ℤ) (uri : List ℕ) (number : ℕ) (own : MediaSegment) (before after : List ℕ) → epoch ≡ s.config.epoch → uri ≡ live_uri r
      → number ≡ (line s).removed + k → own ≡ live_media_segment (job_layout epoch recorded r uri 0) x
      → after ≡ before ++ served_segment_text uris s.config.base r number own → after ++ rest_of_live_list uris s r (k + 1) ≡ before ++ rest_of_live_list uris s r k
  one-written uris epoch uri number own before after epoch_is uri_is number_is own_is written =
      let base : BaseData = s.config.base in
      let own_list : Playlist = live_list_by s r recorded in
      let list : Playlist = served_list uris base r own_list in
      let there_too : served_list_of uris s r ≡ Some list = served-some uris s r own_list there in
      let next = served-next uris base r own_list k (cut_of x) (map cut_of rest) next-is in
      let same : own ≡ cut_of x =
      own_is ∙ (ap (λ (e : Option ℤ). live_media_segment (job_layout e recorded r uri 0) x) epoch_is
      ∙ ap (λ (u : List ℕ). live_media_segment (job_layout s.config.epoch recorded r u 0) x) uri_is) in
      ap (λ l. after ++ rest_of_list l (k + 1)) there_too
      ∙ next-lines list.segments list.ended k (served_segment uris base r ((line s).removed + k) (cut_of x)) next.0 before after next.1
      (written ∙ (ap (λ (n : ℕ). before ++ served_segment_text uris base r n own) number_is
      ∙ ap (λ (y : MediaSegment). before ++ served_segment_text uris base r ((line s).removed + k) y) same))
      ∙ sym (ap (λ l. before ++ rest_of_list l k) there_too)

  -- the playlist has at least k + 1 segments
  pub has-next : HasSegments s r (k + 1)
  has-next = subst (λ list. ListHasSegments list (k + 1)) (sym there) (omega (arith, within (segments_of (line s)) k x rest walk, length-map (segments_of (line s)) cut_of))

  -- segment k can be written with the URI of the rendition's recording
  good : IsSegment (live_uri r) (cut_of x)
  good =
      let P : MediaSegment → Type 0 = IsSegment (live_uri r) in
      let all : All P whole = (live-lists-have-texts s r (live_list_by s r recorded) state there).segments in
      All-head P (cut_of x) (map cut_of rest) (subst (All P) next-is (All-drop P k whole all))

  -- segment k can be written, given the channel's epoch and the URI of the rendition's recording
  pub good-by : (epoch : Option ℤ) (uri : List ℕ) → epoch ≡ s.config.epoch → uri ≡ live_uri r → CanBeWritten (job_layout epoch recorded r uri 0) x
  good-by epoch uri epoch_is uri_is =
      subst (λ (e : Option ℤ). CanBeWritten (job_layout e recorded r uri 0) x) (sym epoch_is)
      (subst (λ (u : List ℕ). CanBeWritten (job_layout s.config.epoch recorded r u 0) x) (sym uri_is) (good.length, good.date))

  -- segment k starts before 2^53 microseconds in the rendition
  pub starts : (spot_in x.from.spots r).start < 2 ^ 53
  starts =
      let P : live_line.LiveSegment → Type 0 = λ y. (spot_in y.from.spots r).start < 2 ^ 53 in
      All-head P x rest (subst (All P) walk (All-drop P k (segments_of (line s)) (starts-small s state r)))

-- the number of written segments is at most that of the line's
pub counts : (s : State) (r k : ℕ) (recorded : RecordingData) → live_list_of s r ≡ Some (live_list_by s r recorded) → HasSegments s r k → k ≤ length (segments_of (line s))
counts s r k recorded there has =
    omega (arith, subst (λ list. ListHasSegments list k) there has, length-map (segments_of (line s)) (live_media_segment (job_layout s.config.epoch recorded r (live_uri r) 0)))

-- as many segments as the line has are all of the playlist's, so they reach each stop
pub reaches-all : (s : State) (r stop k : ℕ) (recorded : RecordingData) → live_list_of s r ≡ Some (live_list_by s r recorded) → length (segments_of (line s)) ≤ k → ReachesStop s r stop k
reaches-all s r stop k recorded there all =
    subst (λ list. ListReaches list stop k) (sym there)
    (inr (omega (arith, all, length-map (segments_of (line s)) (live_media_segment (job_layout s.config.epoch recorded r (live_uri r) 0)))))

-- k segments reach each stop that is at most k
pub reaches-stop : (s : State) (r stop k : ℕ) (recorded : RecordingData) → live_list_of s r ≡ Some (live_list_by s r recorded) → stop ≤ k → ReachesStop s r stop k
reaches-stop s r stop k recorded there far = subst (λ list. ListReaches list stop k) (sym there) (inl far)

-- ---- its head

-- the written head, followed by the rest from the first segment on, is the text of the state's served playlist
pub begun-text : (uris : MediaUris) (s : State) (r : ℕ) (recorded : RecordingData) (uri text : List ℕ) (list : Playlist) → live_list_of s r ≡ Some (live_list_by s r recorded)
    → uri ≡ live_uri r → list ≡ served_list uris s.config.base r (list_over_segments s recorded uri []) → text ≡ text_of_lines (head_lines list)
    → Some (text ++ rest_of_live_list uris s r 0) ≡ option_map media_text (served_list_of uris s r)
unfolding media_text
begun-text uris s r recorded uri text list there uri_is list_is written =
    let base : BaseData = s.config.base in
    let whole : Playlist = served_list uris base r (live_list_by s r recorded) in
    let there_too : served_list_of uris s r ≡ Some whole = served-some uris s r (live_list_by s r recorded) there in
    let head : text ≡ text_of_lines (head_lines whole) =
    written ∙ ap (λ (p : Playlist). text_of_lines (head_lines p)) list_is
    ∙ ap (λ (u : List ℕ). text_of_lines (head_lines (served_list uris base r (list_over_segments s recorded u [])))) uri_is
    ∙ ap text_of_lines (served-head uris base s r recorded) in
    let all : text ++ rest_of_list (Some whole) 0 ≡ media_text whole =
    ap (λ (t : List ℕ). t ++ text_of_lines (all_segment_lines whole.segments ++ end_lines whole.ended)) head
    ∙ sym (joined_append (head_lines whole) (all_segment_lines whole.segments ++ end_lines whole.ended)) in
    ap (λ list. Some (text ++ rest_of_list list 0)) there_too ∙ ap Some all ∙ sym (ap (option_map media_text) there_too)

-- if a served playlist has a text, there is a live playlist
pub has-none : (uris : MediaUris) (s : State) (r : ℕ) (text : List ℕ) → Some text ≡ option_map media_text (served_list_of uris s r) → HasSegments s r 0
has-none uris s r text is = by (live_list_of s r) refl
  where
    by : (o : Option Playlist) → live_list_of s r ≡ o → ListHasSegments o 0
    by None none =
        let never : Some text ≡ None = is ∙ ap (option_map media_text) (served_none uris s r none) in
        absurd (cc)
    by (Some list) some = omega arith

-- ---- its end

-- a lane's live playlist has ended exactly if the line has
ended-in : (epoch : Option ℤ) (r : ℕ) (o : Option Lane) (live : Live) (list : Playlist) → live_list_in epoch r o live ≡ Some list → list.ended ≡ has_ended live
ended-in epoch r None live list is = cc
ended-in epoch r (Some l) live list is = by (has_closed_segment live) is
  where
    some-is : (a b : Playlist) → Some a ≡ Some b → a ≡ b
    some-is a b e = cc

    by : (closed : Bool) → (if closed then Some (live_list_over epoch r l live) else None) ≡ Some list → list.ended ≡ has_ended live
    by true is = ap (λ (p : Playlist). p.ended) (sym (some-is (live_list_over epoch r l live) list is))
    by false is = cc

-- after the end's line everything is written
pub ended-text : (uris : MediaUris) (s : State) (r written stop k : ℕ) (old text all : List ℕ) → length (segments_of (line s)) ≤ stop → ReachesStop s r stop k → HasSegments s r k
    → text ++ rest_of_live_list uris s r k ≡ old ++ rest_of_live_list uris s r written → all ≡ text ++ text_of_lines (end_lines (has_ended (line s))) → all ≡ old ++ rest_of_live_list uris s r written
ended-text uris s r written stop k old text all far reaches has goes is = by (live_list_of s r) refl
  where
    longs : (list : Playlist) → live_list_of s r ≡ Some list → length list.segments ≡ length (segments_of (line s))
    longs list there = long-in s.config.epoch r (slice_get (channel s).lanes r) (line s) list there
      where
        long-in : (epoch : Option ℤ) (r : ℕ) (o : Option Lane) (live : Live) (list : Playlist) → live_list_in epoch r o live ≡ Some list
            → length list.segments ≡ length (segments_of live)
        long-in epoch r None live list is = cc
        long-in epoch r (Some l) live list is = so (has_closed_segment live) is
          where
            some-is : (a b : Playlist) → Some a ≡ Some b → a ≡ b
            some-is a b e = cc

            so : (closed : Bool) → (if closed then Some (live_list_over epoch r l live) else None) ≡ Some list → length list.segments ≡ length (segments_of live)
            so true is =
                ap (λ (p : Playlist). length p.segments) (sym (some-is (live_list_over epoch r l live) list is))
                ∙ length-map (segments_of live) (live_media_segment (live_layout epoch r l))
            so false is = cc

    by : (o : Option Playlist) → live_list_of s r ≡ o → all ≡ old ++ rest_of_live_list uris s r written
    by None there = absurd (unlisted-has s r k there has)
    by (Some list) there =
        let long = longs list there in
        let past : length list.segments ≤ k = whole (subst (λ l. ListReaches l stop k) there reaches) in
        let out : Playlist = served_list uris s.config.base r list in
        let left : rest_of_live_list uris s r k ≡ text_of_lines (end_lines (has_ended (line s))) =
        ap (λ l. rest_of_list l k) (served-some uris s r list there)
        ∙ ap (λ (ss : List MediaSegment). text_of_lines (all_segment_lines ss ++ end_lines out.ended)) (drop_all k out.segments (omega (arith, past, served-count uris s.config.base r list)))
        ∙ ap (λ (e : Bool). text_of_lines (end_lines e)) (served-ended uris s.config.base r list ∙ ended-in s.config.epoch r (slice_get (channel s).lanes r) (line s) list there) in
        is ∙ ap (λ (t : List ℕ). text ++ t) (sym left) ∙ goes
      where
        whole : (stop ≤ k) ⊎ (length list.segments ≤ k) → length list.segments ≤ k
        whole (inl reached) = omega (arith, reached, far, longs list there)
        whole (inr reached) = reached

-- ---- the iteration

-- a walk from index k on visits the line's segments without the first k
pub walk-begins : (live : Live) (s : State) (list : Numbered live_line.LiveSegment) (first k : ℕ) (walk : List live_line.LiveSegment) → live ≡ line s
    → list ≡ record { first = live.removed; items = segments_of live } → first ≡ list.first → walk ≡ items_starting_at list (first + k) → drop k (segments_of (line s)) ≡ walk
walk-begins live s list first k walk live_is list_is first_is walk_is =
    let n : (first + k) - list.first ≡ k = omega (arith, first_is) in
    sym (walk_is ∙ ap (λ (m : ℕ). drop m list.items) n ∙ ap (λ (l : Numbered live_line.LiveSegment). drop k l.items) list_is
    ∙ ap (λ (l : Live). drop k (segments_of l)) live_is)

-- The live playlist of a state, from the recording of a rendition.
use Rattle.std.proofs.Common.{◌≡◌, ℕ, ◌+◌, ◌<◌, ℤ, List, [], ◌∷◌, ◌++◌, append_assoc, length, map, Option, Some, None, false, arith, refl, sym, ap, inl, inr, ◌∙◌}
use Rattle.std.specs.Prelude.{slice_get}
use Rattle.std.proofs.lemmas.Bool.{cases_Bool, lt-ltb, ltb-true, cond-true, cond-false}
use Rattle.hls_media_laws.specs.InitData.{InitData}
use Rattle.hls_record.specs.RecordingData.{RecordingData}
use Rattle.hls_places_laws.specs.declared.line.live_segment.LiveSegment as live_line
use Rattle.hls_places_laws.specs.Line.Live.{Live, segments_of}
use Rattle.hls_m3u8.specs.declared.playlist.MediaSegment.{MediaSegment}
use Rattle.hls_m3u8.specs.Playlist.{Playlist}
use Rattle.hls_playlists_laws.specs.Segments.{ResourceLayout}
use Rattle.hls_core_laws.specs.Channel.{Lane}
use Rattle.hls_core_laws.specs.State.{State, HeldBytes, no_bytes, channel}
use Rattle.hls_core_laws.specs.IsState.{IsState}
use Rattle.hls_core_laws.specs.Outcome.{held_bytes}
use Rattle.hls_core_laws.specs.Line.{line}
use Rattle.hls_core_laws.proofs.Callers.{at_beside, at_or}
use Rattle.hls_playlists_laws.proofs.Callers.{closed-some, has-begun}
use Rattle.hls_core.specs.Getters.{recorded_from, recorded_at, recording_of}
use Rattle.hls_playlists_laws.specs.Live.{live_uri, live_media_segment, live_list_over, has_closed_segment, live_list_in, live_list_of}
use Rattle.hls_playlists_laws.specs.JobPlaylists.{job_layout}
use Rattle.hls_playlists.specs.LiveWriter.{live_list_by, list_over_segments}

-- if no segment was removed and none is kept, none was closed
unclosed : (s : State) → (line s).removed + length (segments_of (line s)) ≡ 0 → has_closed_segment (line s) ≡ false
unclosed s none =
    elim (cases_Bool (has_closed_segment (line s))) [
      | inl some ↦ absurd (omega (arith, none, ltb-true 0 ((line s).removed + length (segments_of (line s))) some))
      | inr is ↦ is
    ]

-- while no segment was closed, there is no live playlist for a lane
none-in : (s : State) (r : ℕ) (o : Option Lane) → has_closed_segment (line s) ≡ false → live_list_in s.config.epoch r o (line s) ≡ None
none-in s r None none = refl
none-in s r (Some l) none = cond-false (has_closed_segment (line s)) _ _ none

-- a state that has neither removed a segment nor has one has no live playlists
pub unlisted : (s : State) (r : ℕ) → (line s).removed + length (segments_of (line s)) ≡ 0 → live_list_of s r ≡ None
unlisted s r none = none-in s r (slice_get (channel s).lanes r) (unclosed s none)

-- a lane without a recording has no init section
no_init : (o : Option InitData) (l : Lane) (h : HeldBytes) → recorded_from o l h ≡ None → o ≡ None
no_init None l h is = refl
no_init (Some init) l h is = absurd (cc)

-- a rendition without a recording has no live playlist, given its lane
unbegun-in : (s : State) → IsState s → (r : ℕ) (o : Option Lane) → slice_get (channel s).lanes r ≡ o → recorded_at o (held_bytes s r) ≡ None →
    live_list_in s.config.epoch r o (line s) ≡ None
unbegun-in s state r None at unbegun = refl
unbegun-in s state r (Some l) at unbegun =
    elim (cases_Bool (has_closed_segment (line s))) [
      | inl some ↦
          let begun = has-begun s state r l at (closed-some s state some) in
          let none : l.init ≡ None = no_init l.init l (held_bytes s r) unbegun in
          let never : None ≡ Some begun.init = sym none ∙ begun.is in
          absurd (cc)
      | inr none ↦ none-in s r (Some l) none
    ]

-- a rendition without a recording has no live playlist
pub unbegun : (s : State) → IsState s → (r : ℕ) → recording_of s r ≡ None → live_list_of s r ≡ None
unbegun s state r is = unbegun-in s state r (slice_get (channel s).lanes r) refl is

-- the live playlist of a lane with an init section is made from its recording, if both count as many bytes for the section
list-is : (s : State) (r : ℕ) (l : Lane) (h : HeldBytes) (init : InitData) (recorded : RecordingData) → l.size ≡ length h.head →
    recorded_from (Some init) l h ≡ Some recorded → live_list_over s.config.epoch r l (line s) ≡ live_list_by s r recorded
list-is s r l h init recorded size is =
    let made : RecordingData = record { init = init; head = h.head; facts = l.facts; floor = l.floor; units = h.units } in
    let same : made ≡ recorded = cc in
    let by_size : live_list_over s.config.epoch r l (line s) ≡ live_list_by s r made = rw size refl in
    by_size ∙ ap (live_list_by s r) same

-- the live playlist of a lane with a recording is made from the recording, given its init section
by-init : (s : State) (r : ℕ) (l : Lane) (h : HeldBytes) (o : Option InitData) (recorded : RecordingData) → l.size ≡ length h.head →
    recorded_from o l h ≡ Some recorded → live_list_over s.config.epoch r l (line s) ≡ live_list_by s r recorded
by-init s r l h None recorded size is = absurd (cc)
by-init s r l h (Some init) recorded size is = list-is s r l h init recorded size is

-- once a segment was closed, a lane with a recording has the live playlist that is made from the recording
by-lane : (s : State) → IsState s → (r : ℕ) (o : Option Lane) (recorded : RecordingData) → slice_get (channel s).lanes r ≡ o →
    recorded_at o (held_bytes s r) ≡ Some recorded → 0 < (line s).removed + length (segments_of (line s)) → live_list_in s.config.epoch r o (line s) ≡ Some (live_list_by s r recorded)
by-lane s state r None recorded at is some = absurd (cc)
by-lane s state r (Some l) recorded at is some =
    let beside = at_beside (channel s).lanes s.bytes r l state.counts_agree at in
    let held_is : held_bytes s r ≡ beside.0 = at_or s.bytes r no_bytes beside.0 beside.1 in
    let size : l.size ≡ length (held_bytes s r).head = (state.fits r l beside.0 at beside.1).size ∙ ap (λ (h : HeldBytes). length h.head) (sym held_is) in
    cond-true (has_closed_segment (line s)) _ _ (lt-ltb 0 ((line s).removed + length (segments_of (line s))) some)
    ∙ ap (λ (x : Playlist). Some x) (by-init s r l (held_bytes s r) l.init recorded size is)

-- once a segment was closed, a rendition with a recording has the live playlist that is made from the recording
pub listed-by : (s : State) → IsState s → (r : ℕ) (recorded : RecordingData) → recording_of s r ≡ Some recorded →
    0 < (line s).removed + length (segments_of (line s)) → live_list_of s r ≡ Some (live_list_by s r recorded)
listed-by s state r recorded is some = by-lane s state r (slice_get (channel s).lanes r) recorded refl is some

-- a playlist that is made from a state's line, epoch and URI is the state's live playlist
pub list-made : (s : State) (r : ℕ) (recorded : RecordingData) (live : Live) (epoch : Option ℤ) (uri : List ℕ) (segments : List MediaSegment) →
    live ≡ line s → epoch ≡ s.config.epoch → uri ≡ live_uri r →
    segments ≡ map (live_media_segment (job_layout epoch recorded r uri 0)) (segments_of live) → list_over_segments s recorded uri segments ≡ live_list_by s r recorded
list-made s r recorded live epoch uri segments live_is epoch_is uri_is segments_are =
    let all : segments ≡ map (live_media_segment (job_layout s.config.epoch recorded r (live_uri r) 0)) (segments_of (line s)) =
    segments_are ∙ (ap (λ (e : Option ℤ). map (live_media_segment (job_layout e recorded r uri 0)) (segments_of live)) epoch_is
    ∙ ap (λ (u : List ℕ). map (live_media_segment (job_layout s.config.epoch recorded r u 0)) (segments_of live)) uri_is
    ∙ ap (λ (l : Live). map (live_media_segment (job_layout s.config.epoch recorded r (live_uri r) 0)) (segments_of l)) live_is) in
    λ k. list_over_segments s recorded (uri_is k) (all k)

-- with the next segment of a walk added, those so far and those of the rest are still all
pub one_listed_more : (cut : ResourceLayout) (before more : List MediaSegment) (walk rest : List live_line.LiveSegment) (x : live_line.LiveSegment) (segment : MediaSegment)
    (whole : List MediaSegment) → walk ≡ x ∷ rest → more ≡ before ++ segment ∷ [] → segment ≡ live_media_segment cut x → before ++ map (live_media_segment cut) walk ≡ whole →
    more ++ map (live_media_segment cut) rest ≡ whole
one_listed_more cut before more walk rest x segment whole is pushed here done =
    ap (λ (ss : List MediaSegment). ss ++ map (live_media_segment cut) rest) pushed
    ∙ append_assoc before (segment ∷ []) (map (live_media_segment cut) rest)
    ∙ ap (λ (s : MediaSegment). before ++ s ∷ map (live_media_segment cut) rest) here
    ∙ ap (λ (xs : List live_line.LiveSegment). before ++ map (live_media_segment cut) xs) (sym is) ∙ done

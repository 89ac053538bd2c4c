-- A live playlist of a state, and one of a state that follows.
use Rattle.std.proofs.Common.{◌≡◌, ℕ, ◌+◌, ◌-◌, ◌<◌, ◌≤◌, ℤ, true, List, [], ◌∷◌, ◌++◌, length, map, take, drop, Option, Some, arith, refl, sym, ap, subst, inl, inr, ◌∙◌, All, length-append, length-drop}
use Rattle.std.specs.Prelude.{slice_get}
use Rattle.std.specs.List.{count_by}
use Rattle.std.proofs.lemmas.Bool.{cases_lt, lt-ltb, cond-true}
use Rattle.std.proofs.lemmas.List.{length-map, length-take-le, map-append, drop-append-le, take-append-drop, drop-drop}
use Rattle.std.proofs.lemmas.List.Elements.{All-drop}
use Rattle.hls_media_laws.specs.declared.facts.Facts.{Facts}
use Rattle.hls_places_laws.specs.Sources.{Source}
use Rattle.hls_places_laws.specs.Places.{places_of}
use Rattle.hls_places_laws.specs.declared.line.live_segment.LiveSegment as live_line
use Rattle.hls_places_laws.specs.Line.Lengths.{marks_in, is_marked as is_break}
use Rattle.hls_places_laws.specs.Line.Progress.{LineProgress}
use Rattle.hls_places_laws.specs.Line.Live.{full_progress, is_closing, has_ended, segments_of}
use Rattle.hls_playlists_laws.proofs.Cited.{marks-append, marks-add, sources_count, continues_of, state_of, rest_channel, lane_grown}
use Rattle.hls_m3u8.specs.declared.playlist.MediaSegment.{MediaSegment}
use Rattle.hls_m3u8.specs.Playlist.{Playlist}
use Rattle.hls_m3u8.specs.Written.{init_at}
use Rattle.hls_playlists_laws.specs.Segments.{ResourceLayout}
use Rattle.hls_core_laws.specs.declared.event.Entry.{Entry}
use Rattle.hls_core_laws.specs.declared.event.LoggedEvent.{LoggedEvent}
use Rattle.hls_core_laws.specs.declared.event.LoggedEvent.TheVariants.{Begun, Accepted, Finished, Slid, Trimmed}
use Rattle.hls_core_laws.specs.Config.{ConfigData}
use Rattle.hls_core_laws.specs.Channel.{Channel, Lane, channel_after, channel_from}
use Rattle.hls_core_laws.specs.State.{State, channel}
use Rattle.hls_core_laws.specs.IsState.{IsState}
use Rattle.hls_core_laws.specs.Follows.{Follows}
use Rattle.hls_core_laws.specs.Places.{places}
use Rattle.hls_core_laws.specs.Line.{line_goal_of, line}
use Rattle.std.proofs.lemmas.Option.{slice_get_within}
use Rattle.hls_playlists_laws.specs.Live.{live_uri, live_layout, live_media_segment, live_list_over, has_closed_segment, live_list_in, live_list_of}
use Rattle.hls_playlists_laws.specs.LaterList.{IsLater}
use Rattle.hls_playlists_laws.proofs.Told.{whole, closed, removed-few, ended-stays, closed-follow}
use Rattle.hls_playlists_laws.proofs.Listed.{IsCutOn, StandsAmong, all-stay, marks-listed, lengths-listed}
use Rattle.hls_playlists_laws.proofs.Slid.{stays-long}
use Rattle.hls_playlists_laws.proofs.Texts.{is-listed, closed-among, has-begun}

-- along a log the number of removed segments never decreases
after-rises : (e : LoggedEvent) (ch : Channel) → ch.removed ≤ (channel_after e ch).removed
after-rises (Begun r init len) ch = omega arith
after-rises (Accepted r f) ch = omega arith
after-rises (Finished r) ch = omega arith
after-rises (Slid n) ch = omega arith
after-rises (Trimmed r floor) ch = omega arith

-- the entries of a log never decrease a channel's number of removed segments
rises-from : (ch : Channel) (log : List Entry) → ch.removed ≤ (channel_from ch log).removed
unfolding channel_from
rises-from ch [] = omega arith
rises-from ch (e ∷ es) = omega (arith, after-rises e.event ch, rises-from (channel_after e.event ch) es)

-- a state that follows another one has removed at least as many segments
pub removed-rises : (a b : State) → Follows a b → (channel a).removed ≤ (channel b).removed
removed-rises a b follows =
    let c = continues_of a b follows in
    omega (arith, rises-from (channel a) c.rest, ap (λ (ch : Channel). ch.removed) (rest_channel a b c))

-- a lane with more units has the same resource, with these units appended
pub cut-on : (early late : Option ℤ) (r : ℕ) (l m : Lane) (more : List Facts) → late ≡ early → m.size ≡ l.size → m.facts ≡ l.facts ++ more →
    IsCutOn (live_layout early r l) (live_layout late r m)
cut-on early late r l m more epoch size facts =
    record { rendition = refl; uri = refl; init_length = size; begun = refl; first = refl; more = more; facts = facts; epoch = epoch }

-- both ends of each closed segment of a state are among the rendition's units
pub stands-among : (s : State) → IsState s → (r : ℕ) (l : Lane) → slice_get (channel s).lanes r ≡ Some l → All (StandsAmong r l.facts) (closed s)
stands-among s state r l at k d h =
    let among = closed-among s state r l at k d h in
    record { from = omega (arith, among.rises, among.within); to = among.within }

-- the segments that the second state has removed and the first has not
gone : State → State → List live_line.LiveSegment
gone a b = take ((channel b).removed - (channel a).removed) (drop (channel a).removed (closed b))

-- the first's listed segments and the appended ones are those that are gone and then the second's listed segments
goes-on : (a b : State) → IsState a → Follows a b → (appended : List live_line.LiveSegment) → closed b ≡ closed a ++ appended →
    segments_of (line a) ++ appended ≡ gone a b ++ segments_of (line b)
unfolding gone
goes-on a b state follows appended is =
    let ra : ℕ = (channel a).removed in
    let rb : ℕ = (channel b).removed in
    let number : ra + (rb - ra) ≡ rb = omega (arith, removed-rises a b follows) in
    sym (drop-append-le ra (closed a) appended (removed-few a state))
    ∙ (ap (drop ra) (sym is)
    ∙ (sym (take-append-drop (rb - ra) (drop ra (closed b)))
    ∙ ap (λ (xs : List live_line.LiveSegment). gone a b ++ xs) (drop-drop (rb - ra) ra (closed b) ∙ ap (λ (n : ℕ). drop n (closed b)) number)))

-- as many segments are gone as the second state has removed more than the first
gone-count : (a b : State) → IsState b → Follows a b → length (gone a b) ≡ (channel b).removed - (channel a).removed
unfolding gone
gone-count a b state follows =
    let ra : ℕ = (channel a).removed in
    let rb : ℕ = (channel b).removed in
    length-take-le (rb - ra) (drop ra (closed b)) (omega (arith, removed-few b state, length-drop ra (closed b)))

-- the marks that the second state has removed are those that the first has removed, and those of the segments that are gone
marks-gone : (a b : State) → IsState a → Follows a b → (appended : List live_line.LiveSegment) → closed b ≡ closed a ++ appended →
    marks_in (channel b).removed (closed b) ≡ marks_in (channel a).removed (closed a) + count_by is_break (gone a b)
unfolding gone
marks-gone a b state follows appended is =
    let ra : ℕ = (channel a).removed in
    let rb : ℕ = (channel b).removed in
    let number : rb ≡ ra + (rb - ra) = omega (arith, removed-rises a b follows) in
    ap (λ (n : ℕ). marks_in n (closed b)) number
    ∙ (marks-add ra (rb - ra) (closed b)
    ∙ ap (λ (n : ℕ). n + count_by is_break (take (rb - ra) (drop ra (closed b))))
    (ap (marks_in ra) is ∙ marks-append ra (closed a) appended (removed-few a state)))

none-of : {A : Type 0} (xs : List A) → length xs ≡ 0 → xs ≡ []
none-of [] is = refl
none-of (x ∷ xs) is = absurd (omega (arith, is))

-- once the line has ended, nothing is added
whole-stays : (a b : State) → IsState a → Follows a b → has_ended (line a) ≡ true → whole b ≡ whole a
whole-stays a b state follows over =
    ap (λ (c : ConfigData). full_progress (line_goal_of c) (places b)) (continues_of a b follows).config
    ∙ ap (λ (xs : List Source). full_progress (line_goal_of a.config) (places_of xs)) (ended-stays a b state follows over)

-- for the lane of a rendition in both states: the live playlist of the state that follows is valid as a later one
later-over : (a b : State) (r : ℕ) (l m : Lane) → IsState a → Follows a b → slice_get (channel a).lanes r ≡ Some l → slice_get (channel b).lanes r ≡ Some m →
    m.size ≡ l.size → (more : List Facts) → m.facts ≡ l.facts ++ more → IsLater (live_list_over a.config.epoch r l (line a)) (live_list_over b.config.epoch r m (line b))
later-over a b r l m state follows at there size more facts =
    let state_b : IsState b = state_of a b follows state in
    let config : b.config ≡ a.config = (continues_of a b follows).config in
    let on = closed-follow a b follows in
    let now : ResourceLayout = live_layout b.config.epoch r m in
    let was : ResourceLayout = live_layout a.config.epoch r l in
    let appended : List MediaSegment = map (live_media_segment now) on.appended in
    let kept_stays : map (live_media_segment now) (segments_of (line a)) ≡ map (live_media_segment was) (segments_of (line a)) =
    all-stay was now (segments_of (line a)) (cut-on a.config.epoch b.config.epoch r l m more (ap (λ (c : ConfigData). c.epoch) config) size facts)
    (All-drop (StandsAmong r l.facts) (channel a).removed (closed a) (stands-among a state r l at)) in
    let count : length (map (live_media_segment now) (gone a b)) ≡ (channel b).removed - (channel a).removed =
    length-map (gone a b) (live_media_segment now) ∙ gone-count a b state_b follows in
    record {
      version = refl;
      target = ap (λ (c : ConfigData). c.target) config;
      map = ap (λ (n : ℕ). Some (init_at (live_uri r) n)) size;
      evicted = map (live_media_segment now) (gone a b);
      appended = appended;
      segments = ap (λ (xs : List MediaSegment). xs ++ appended) (sym kept_stays)
          ∙ (sym (map-append (live_media_segment now) (segments_of (line a)) on.appended)
          ∙ (ap (map (live_media_segment now)) (goes-on a b state follows on.appended on.is)
          ∙ map-append (live_media_segment now) (gone a b) (segments_of (line b))));
      media_sequence = omega (arith, removed-rises a b follows, count);
      discontinuity_sequence = marks-gone a b state follows on.appended on.is
          ∙ ap (λ (n : ℕ). marks_in (channel a).removed (closed a) + n) (sym (marks-listed now (gone a b)));
      ended = λ over.
          let same = whole-stays a b state follows over in
          let none : on.appended ≡ [] =
          none-of on.appended (omega (
            arith,
            ap (λ (t : LineProgress). length t.line.segments) same,
            ap length on.is,
            length-append (closed a) on.appended,
          )) in
          (ap (λ (t : LineProgress). is_closing t.line.segment_start) same ∙ over, ap (map (live_media_segment now)) none);
      long = λ some not_ended.
          elim (cases_lt 0 (channel b).removed) [
            | inl any ↦
                let left = (stays-long b state_b any not_ended).each r (omega (arith, sources_count b, slice_get_within (channel b).lanes r m there)) in
                omega (arith, left, lengths-listed now (segments_of (line b)))
            | inr none ↦ absurd (some (none-of (map (live_media_segment now) (gone a b)) (omega (arith, count, none))))
          ];
    }

-- if a state has closed a segment, so has each state that follows
closed-later : (a b : State) → IsState b → Follows a b → 0 < length (closed a) → has_closed_segment (line b) ≡ true
closed-later a b state follows some =
    let on = closed-follow a b follows in
    lt-ltb 0 ((channel b).removed + length (segments_of (line b)))
    (omega (
      arith,
      some,
      ap length on.is,
      length-append (closed a) on.appended,
      removed-few b state,
      length-drop (channel b).removed (closed b),
    ))

-- in a state that follows one with a live playlist there is a playlist, which is valid as a later one
pub live-lists-follow : (a b : State) (r : ℕ) (earlier : Playlist) → IsState a → Follows a b → live_list_of a r ≡ Some earlier →
    (later : Playlist) × (live_list_of b r ≡ Some later) × IsLater earlier later
live-lists-follow a b r earlier state follows is =
    let state_b : IsState b = state_of a b follows state in
    let on = is-listed a state r earlier is in
    let begun = has-begun a state r on.lane on.at on.some in
    let grown = lane_grown a b state_b (continues_of a b follows) r on.lane on.at in
    let m : Lane = grown.lane in
    let later : IsLater (live_list_over a.config.epoch r on.lane (line a)) (live_list_over b.config.epoch r m (line b)) =
    later-over a b r on.lane m state follows on.at grown.at (grown.grows.init begun.init begun.is).1 grown.grows.more grown.grows.facts in
    let there : live_list_of b r ≡ Some (live_list_over b.config.epoch r m (line b)) =
    ap (λ (o : Option Lane). live_list_in b.config.epoch r o (line b)) grown.at
    ∙ cond-true (has_closed_segment (line b)) _ _ (closed-later a b state_b follows on.some) in
    (live_list_over b.config.epoch r m (line b), there, subst (λ (x : Playlist). IsLater x (live_list_over b.config.epoch r m (line b))) on.is later)

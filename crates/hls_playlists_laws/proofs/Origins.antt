-- Live playlists of two origins that are fed by the same encoders.
use Rattle.std.proofs.Common.{◌≡◌, ◌⊎◌, ℕ, ◌+◌, ◌≤◌, List, ◌++◌, length, map, drop, get_or, Some, arith, refl, sym, ap, subst, inl, inr, ◌∙◌, append-nil}
use Rattle.std.specs.Prelude.{slice_get}
use Rattle.std.proofs.lemmas.Option.{get_or_from_slice_get}
use Rattle.hls_media_laws.specs.declared.facts.Facts.{Facts}
use Rattle.hls_places_laws.specs.Sources.{Source, source_at}
use Rattle.hls_places_laws.specs.Growth.{SourceGrows}
use Rattle.hls_places_laws.specs.AppendOnly.{ShareHistory}
use Rattle.hls_places_laws.specs.declared.line.live_segment.LiveSegment as live_line
use Rattle.hls_places_laws.specs.Line.Cuts.{line_of}
use Rattle.hls_places_laws.specs.Line.Lengths.{marks_in}
use Rattle.hls_playlists_laws.proofs.Cited.{segments-agree, marks-agree, source_grown, at_drop, some_at, mapped_at, IsOf, lanes_count, sources_count, source_of, states_are_timed}
use Rattle.hls_m3u8.specs.declared.playlist.MediaSegment.{MediaSegment}
use Rattle.hls_m3u8.specs.Playlist.{Playlist}
use Rattle.hls_m3u8.specs.Written.{init_at}
use Rattle.hls_core_laws.specs.Config.{ConfigData, without_base}
use Rattle.hls_core_laws.specs.Channel.{Lane}
use Rattle.hls_core_laws.specs.State.{State, channel}
use Rattle.hls_core_laws.specs.IsState.{IsState}
use Rattle.hls_core_laws.specs.Places.{tolerance_of, sources, places}
use Rattle.hls_core_laws.specs.Line.{line_goal_of, line}
use Rattle.std.proofs.lemmas.Option.{slice_get_within}
use Rattle.hls_playlists_laws.specs.Segments.{ResourceLayout}
use Rattle.hls_playlists_laws.specs.Live.{live_uri, live_layout, live_media_segment, live_list_over, live_list_of}
use Rattle.hls_playlists_laws.specs.Origins.{LaneBegins, IngestSameUnits, AgreeOnOverlap}
use Rattle.hls_playlists_laws.proofs.Told.{closed, removed-few}
use Rattle.hls_playlists_laws.proofs.Listed.{StandsAmong, listed-stays}
use Rattle.hls_playlists_laws.proofs.Texts.{is-listed}
use Rattle.hls_playlists_laws.proofs.Follows.{cut-on, stands-among}

-- if one lane's units are a prefix of another's, its source may grow to the other's
pub source-begins : (s t : Source) (l m : Lane) (tolerance : ℕ) → IsOf s l tolerance → IsOf t m tolerance → LaneBegins l m → SourceGrows s t
source-begins s t l m tolerance is_l is_m begins = source_grown s t l m tolerance is_l is_m begins.more begins.facts begins.over

-- in each rendition, one origin's units are a prefix of the other's
alike-at : (a b : State) (r : ℕ) (l m : Lane) → without_base b.config ≡ without_base a.config → slice_get (channel a).lanes r ≡ Some l → slice_get (channel b).lanes r ≡ Some m →
    LaneBegins l m ⊎ LaneBegins m l →
    SourceGrows (source_at (sources a) r) (source_at (sources b) r) ⊎ SourceGrows (source_at (sources b) r) (source_at (sources a) r)
alike-at a b r l m config at also either =
    let tolerance : ℕ = get_or (map tolerance_of a.config.renditions) r 0 in
    let is_l : IsOf (source_at (sources a) r) l tolerance = source_of a r l at in
    let is_m : IsOf (source_at (sources b) r) m tolerance =
    subst (λ (c : ConfigData). IsOf (source_at (sources b) r) m (get_or (map tolerance_of c.renditions) r 0)) config (source_of b r m also) in
    elim either [
      | inl left ↦ inl (source-begins (source_at (sources a) r) (source_at (sources b) r) l m tolerance is_l is_m left)
      | inr right ↦ inr (source-begins (source_at (sources b) r) (source_at (sources a) r) m l tolerance is_m is_l right)
    ]

-- states whose configurations differ at most in their bases have equally many lanes
pub lanes-same : (a b : State) → without_base b.config ≡ without_base a.config → length (channel b).lanes ≡ length (channel a).lanes
lanes-same a b config =
    lanes_count b.config b.log ∙ (ap (λ (c : ConfigData). length c.renditions) config ∙ sym (lanes_count a.config a.log))

-- two origins that are fed by the same encoders share their history in all renditions
are-alike : (a b : State) → IngestSameUnits a b → ShareHistory (sources a) (sources b)
are-alike a b fed = record {
  same = sources_count b ∙ (lanes-same a b fed.config ∙ sym (sources_count a));
  each = λ r h.
      let l = some_at (channel a).lanes r (omega (arith, h, sources_count a)) in
      let m = some_at (channel b).lanes r (omega (arith, h, sources_count a, lanes-same a b fed.config)) in
      alike-at a b r l.0 m.0 fed.config l.1 m.1 (fed.each r l.0 m.0 l.1 m.1);
}

-- a state's closed segments are those of its places by any configuration that differs at most in its base
pub closed-at : (s : State) (c : ConfigData) (n : ℕ) (x : live_line.LiveSegment) → without_base s.config ≡ without_base c → slice_get (closed s) n ≡ Some x →
    slice_get (line_of (line_goal_of c) (places s)).segments n ≡ Some x
closed-at s c n x config at =
    ap (λ (d : ConfigData). slice_get (line_of (line_goal_of d) (places s)).segments n) (sym config) ∙ at

-- the ends of a closed segment are among the rendition's units
pub stands-at : (s : State) → IsState s → (r : ℕ) (l : Lane) (n : ℕ) (x : live_line.LiveSegment) → slice_get (channel s).lanes r ≡ Some l →
    slice_get (closed s) n ≡ Some x → StandsAmong r l.facts x
stands-at s state r l n x at there =
    subst (StandsAmong r l.facts) (get_or_from_slice_get (closed s) n x x there)
    (stands-among s state r l at n x (slice_get_within (closed s) n x there))

-- a segment that two origins with the same encoders and epoch have closed has the same entry in both playlists
listed-alike : (a b : State) → IsState a → IsState b → b.config.epoch ≡ a.config.epoch → (r : ℕ) (l m : Lane) (i j : ℕ) (x : live_line.LiveSegment) →
    slice_get (channel a).lanes r ≡ Some l → slice_get (channel b).lanes r ≡ Some m → LaneBegins l m ⊎ LaneBegins m l →
    slice_get (closed a) i ≡ Some x → slice_get (closed b) j ≡ Some x →
    live_media_segment (live_layout a.config.epoch r l) x ≡ live_media_segment (live_layout b.config.epoch r m) x
listed-alike a b state_a state_b epoch r l m i j x at also either here there =
    let in_a : Lane → ResourceLayout = live_layout a.config.epoch r in
    let in_b : Lane → ResourceLayout = live_layout b.config.epoch r in
    elim either [
      | inl left ↦
          sym (listed-stays (in_a l) (in_b m) x (cut-on a.config.epoch b.config.epoch r l m left.more epoch left.size left.facts)
          (stands-at a state_a r l i x at here))
      | inr right ↦
          listed-stays (in_b m) (in_a l) x (cut-on b.config.epoch a.config.epoch r m l right.more (sym epoch) right.size right.facts)
          (stands-at b state_b r m j x also there)
    ]

-- if one lane's units are a prefix of the other's, their init sections have the same size
pub sizes-same : (l m : Lane) → LaneBegins l m ⊎ LaneBegins m l → m.size ≡ l.size
sizes-same l m (inl left) = left.size
sizes-same l m (inr right) = sym right.size

-- segment k of a live playlist is made of the closed segment that k other ones and the removed ones precede
pub listed-at : (s : State) (r : ℕ) (l : Lane) (k : ℕ) (x : MediaSegment) → slice_get (live_list_over s.config.epoch r l (line s)).segments k ≡ Some x →
    (y : live_line.LiveSegment) × (slice_get (closed s) ((channel s).removed + k) ≡ Some y) × (live_media_segment (live_layout s.config.epoch r l) y ≡ x)
listed-at s r l k x at =
    let made = mapped_at (live_media_segment (live_layout s.config.epoch r l)) (drop (channel s).removed (closed s)) k x at in
    (made.0, sym (at_drop (closed s) (channel s).removed k) ∙ made.1, made.2)

-- for a lane of each: live playlists of two origins that are fed by the same encoders agree
agree-over : (a b : State) (r : ℕ) (l m : Lane) → IsState a → IsState b → IngestSameUnits a b → slice_get (channel a).lanes r ≡ Some l →
    slice_get (channel b).lanes r ≡ Some m → AgreeOnOverlap (live_list_over a.config.epoch r l (line a)) (live_list_over b.config.epoch r m (line b))
agree-over a b r l m state_a state_b fed at also =
    let either = fed.each r l m at also in
    let alike = are-alike a b fed in
    let timed_a = states_are_timed a state_a in
    let timed_b = states_are_timed b state_b in
    record {
      target = ap (λ (c : ConfigData). c.target) fed.config;
      map = ap (λ (n : ℕ). Some (init_at (live_uri r) n)) (sizes-same l m either);
      segments = λ j k x y x-at y-at number.
          let u = listed-at a r l j x x-at in
          let v = listed-at b r m k y y-at in
          let there : slice_get (closed b) ((channel a).removed + j) ≡ Some v.0 = ap (slice_get (closed b)) number ∙ v.1 in
          let same : u.0 ≡ v.0 =
          segments-agree (line_goal_of a.config) (sources a) (sources b) timed_a timed_b alike ((channel a).removed + j) u.0 v.0
          (closed-at a a.config ((channel a).removed + j) u.0 refl u.1)
          (closed-at b a.config ((channel a).removed + j) v.0 fed.config there) in
          let here : slice_get (closed a) ((channel a).removed + j) ≡ Some v.0 = u.1 ∙ ap (λ (z : live_line.LiveSegment). Some z) same in
          sym u.2 ∙ (ap (live_media_segment (live_layout a.config.epoch r l)) same
          ∙ (listed-alike a b state_a state_b (ap (λ (c : ConfigData). c.epoch) fed.config) r l m ((channel a).removed + j) ((channel a).removed + j) v.0 at also either here there ∙ v.2));
      marks = λ number.
          let few_a : (channel a).removed ≤ length (line_of (line_goal_of a.config) (places a)).segments =
          removed-few a state_a in
          let is_b : closed b ≡ (line_of (line_goal_of a.config) (places b)).segments =
          ap (λ (c : ConfigData). (line_of (line_goal_of c) (places b)).segments) fed.config in
          let few_b : (channel a).removed ≤ length (line_of (line_goal_of a.config) (places b)).segments =
          omega (arith, removed-few b state_b, ap length is_b, number) in
          marks-agree (line_goal_of a.config) (sources a) (sources b) timed_a timed_b alike (channel a).removed few_a few_b
          ∙ (ap (marks_in (channel a).removed) (sym is_b) ∙ ap (λ (n : ℕ). marks_in n (closed b)) number);
    }

-- live playlists of two origins that are fed by the same encoders agree
pub live-lists-agree : (a b : State) (r : ℕ) (p q : Playlist) → IsState a → IsState b → IngestSameUnits a b → live_list_of a r ≡ Some p →
    live_list_of b r ≡ Some q → AgreeOnOverlap p q
live-lists-agree a b r p q state_a state_b fed p-is q-is =
    let x = is-listed a state_a r p p-is in
    let y = is-listed b state_b r q q-is in
    subst (λ (z : Playlist). AgreeOnOverlap z q) x.is
    (subst (λ (z : Playlist). AgreeOnOverlap (live_list_over a.config.epoch r x.lane (line a)) z) y.is (agree-over a b r x.lane y.lane state_a state_b fed x.at y.at))

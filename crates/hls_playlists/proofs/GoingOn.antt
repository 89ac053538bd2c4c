-- A live playlist and its line in a state, and in one that follows.
use Rattle.std.proofs.Common.{◌≡◌, ◌∙◌, ℕ, zero, suc, ◌+◌, ◌-◌, true, List, [], ◌∷◌, ◌++◌, length, map, take, drop, Option, Some, None, arith, refl, sym, ap, length-append, length-drop}
use Rattle.std.specs.Prelude.{option_map}
use Rattle.std.specs.List.{count_by}
use Rattle.std.proofs.lemmas.List.{map-append, length-map}
use Rattle.std.proofs.lemmas.Option.{same_Some}
use Rattle.hls_m3u8.specs.declared.playlist.MediaSegment.{MediaSegment}
use Rattle.hls_m3u8.specs.Playlist.{Playlist}
use Rattle.hls_places_laws.specs.declared.place.Place.{Place}
use Rattle.hls_places_laws.specs.declared.line.goal.LineGoal.{LineGoal}
use Rattle.hls_places_laws.specs.declared.line.live_segment.LiveSegment.{LiveSegment}
use Rattle.hls_places_laws.specs.Line.Cuts.{line_of}
use Rattle.hls_places_laws.specs.Line.Live.{has_ended, segments_of}
use Rattle.hls_places_laws.proofs.Callers.{segments-stay}
use Rattle.hls_core_laws.specs.Config.{ConfigData}
use Rattle.hls_core_laws.specs.State.{State, channel}
use Rattle.hls_core_laws.specs.IsState.{IsState}
use Rattle.hls_core_laws.specs.Follows.{Follows}
use Rattle.hls_core_laws.specs.Places.{places}
use Rattle.hls_core_laws.specs.Line.{line, line_goal_of}
use Rattle.hls_core_laws.proofs.Callers.{continues_of, places_follow, state_of}
use Rattle.hls_playlists_laws.specs.BasedLists.{based_list_of, list_from, offsets_from}
use Rattle.hls_playlists_laws.specs.JoinedLists.{Offsets, joined_list}
use Rattle.hls_playlists_laws.specs.Live.{live_layout, live_list_of, live_list_over, live_media_segment}
use Rattle.hls_playlists_laws.specs.PathLaws.{BasedListsFollow}
use Rattle.hls_playlists_laws.proofs.Callers.{closed, is-listed, joined-length, removed-few}
use Rattle.hls_playlists_laws.specs.LaterList.{IsLater, is_marked}
use Rattle.hls_playlists_laws.specs.PathLists.{list_by_paths, media_folder, segment_in}
use Rattle.hls_playlists.proofs.StartsOn.{LineGoesOn}
use Rattle.hls_playlists.proofs.ShortTexts.{marks-in_folder}

-- ---- without their first segments

-- what a later playlist keeps, whatever its length
pub record GoesOn (p q : Playlist) : Type 0 where
  pub version : q.version ≡ p.version
  pub target : q.target ≡ p.target
  pub map_is : q.map ≡ p.map
  pub evicted : List MediaSegment
  pub appended : List MediaSegment
  pub segments : p.segments ++ appended ≡ evicted ++ q.segments
  pub media_sequence : q.media_sequence ≡ p.media_sequence + length evicted
  pub discontinuity_sequence : q.discontinuity_sequence ≡ p.discontinuity_sequence + count_by is_marked evicted
  pub ended : p.ended ≡ true → (q.ended ≡ true) × (appended ≡ [])

-- a playlist that is valid as a later one keeps this
goes-on : (p q : Playlist) → IsLater p q → GoesOn p q
goes-on p q later = record {
  version = later.version;
  target = later.target;
  map_is = later.map;
  evicted = later.evicted;
  appended = later.appended;
  segments = later.segments;
  media_sequence = later.media_sequence;
  discontinuity_sequence = later.discontinuity_sequence;
  ended = later.ended;
}

-- if a later playlist keeps this by ranges, it does by paths
unfoldable pub goes-on-by_paths : (run : List ℕ) (r : ℕ) (p q : Playlist) → GoesOn p q → GoesOn (list_by_paths run r p) (list_by_paths run r q)
goes-on-by_paths run r p q goes =
    let path : MediaSegment → MediaSegment = segment_in (media_folder run r) in
    record {
      version = goes.version;
      target = goes.target;
      map_is = refl;
      evicted = map path goes.evicted;
      appended = map path goes.appended;
      segments = sym (map-append path p.segments goes.appended) ∙ (ap (map path) goes.segments ∙ map-append path goes.evicted q.segments);
      media_sequence = omega (arith, goes.media_sequence, length-map goes.evicted path);
      discontinuity_sequence = omega (arith, goes.discontinuity_sequence, marks-in_folder (media_folder run r) goes.evicted);
      ended = λ over. ((goes.ended over).0, ap (map path) (goes.ended over).1);
    }

-- two joined lists without the first n, where n is k more than the first has, are the second list without its first k
pub drop-evicted : (xs ys : List MediaSegment) (n k : ℕ) → n ≡ length xs + k → drop n (xs ++ ys) ≡ drop k ys
drop-evicted [] ys n k is =
    let same : n ≡ k = omega (arith, is) in
    ap (λ (m : ℕ). drop m ys) same
drop-evicted (x ∷ xs) ys zero k is = absurd (omega (arith, is))
drop-evicted (x ∷ xs) ys (suc n) k is = drop-evicted xs ys n k (omega (arith, is))

-- the first n of two joined lists, where n is k more than the first has, are the first list and k of the second
pub take-evicted : (xs ys : List MediaSegment) (n k : ℕ) → n ≡ length xs + k → take n (xs ++ ys) ≡ xs ++ take k ys
take-evicted [] ys n k is =
    let same : n ≡ k = omega (arith, is) in
    ap (λ (m : ℕ). take m ys) same
take-evicted (x ∷ xs) ys zero k is = absurd (omega (arith, is))
take-evicted (x ∷ xs) ys (suc n) k is = ap (λ (zs : List MediaSegment). x ∷ zs) (take-evicted xs ys n k (omega (arith, is)))

-- ---- in two states

-- an option has a value, which is mapped to y
pub record IsMapped {A B : Type 0} (f : A → B) (o : Option A) (y : B) : Type 0 where
  pub value : A
  pub is : o ≡ Some value
  pub same : f value ≡ y

-- if a mapped option is y, the option has a value, which is mapped to y
pub is-mapped : {A B : Type 0} (f : A → B) (o : Option A) (y : B) → option_map f o ≡ Some y → IsMapped f o y
is-mapped f None y is = absurd (cc)
is-mapped f (Some x) y is = record { value = x; is = refl; same = same_Some (f x) y is }

-- a rendition's playlist has the line's segments, and the number of those that were removed
pub record IsOfLine (s : State) (r : ℕ) (list : Playlist) : Type 0 where
  pub sequence : list.media_sequence ≡ s.config.base.segments + (channel s).removed
  pub target : list.target ≡ s.config.target
  pub count : length list.segments ≡ length (segments_of (line s))
  pub ended : list.ended ≡ has_ended (line s)

-- a state's playlist has the line's segments, and counts those that were removed
pub is-of-line : (s : State) (r : ℕ) (list : Playlist) → IsState s → based_list_of s r ≡ Some list → IsOfLine s r list
is-of-line s r list state is =
    let o : Offsets = offsets_from s.config.base r in
    let own = is-mapped (joined_list o) (live_list_of s r) list is in
    let on = is-listed s state r own.value own.is in
    let whole : Playlist = live_list_over s.config.epoch r on.lane (line s) in
    let same : joined_list o whole ≡ list = ap (joined_list o) on.is ∙ own.same in
    record {
      sequence = ap (λ (p : Playlist). p.media_sequence) (sym same);
      target = ap (λ (p : Playlist). p.target) (sym same);
      count = ap (λ (p : Playlist). length p.segments) (sym same)
          ∙ (joined-length o (channel s).removed whole.segments ∙ length-map (segments_of (line s)) (live_media_segment (live_layout s.config.epoch r on.lane)));
      ended = ap (λ (p : Playlist). p.ended) (sym same);
    }

-- a state that follows has the closed segments of the earlier one, and perhaps more after them
appended-segments : (a b : State) → Follows a b → (more : List LiveSegment) × (closed b ≡ closed a ++ more)
appended-segments a b follows =
    let on = places_follow a b follows in
    let goal : LineGoal = line_goal_of a.config in
    let longer = segments-stay goal (places a) on.more in (
      longer.0,
      ap (λ (c : ConfigData). (line_of (line_goal_of c) (places b)).segments) (continues_of a b follows).config
          ∙ (ap (λ (ps : List Place). (line_of goal ps).segments) on.is ∙ longer.1),
    )

-- the second state has a playlist that is valid as a later one of p, and its line continues the first's
pub record ListsGoOn (a b : State) (r : ℕ) (p : Playlist) : Type 0 where
  pub next : Playlist
  pub is : based_list_of b r ≡ Some next
  pub later : IsLater p next
  pub goes : GoesOn p next
  pub same : goes.evicted ≡ later.evicted
  pub number : (channel b).removed ≡ (channel a).removed + length goes.evicted
  pub lines : LineGoesOn a b

none-left : {X : Type 0} (xs : List X) → length xs ≡ 0 → xs ≡ []
none-left [] is = refl
none-left (x ∷ xs) is = absurd (omega (arith, is))

-- in a state that follows one with a playlist there is one that is valid as a later one, and the line continues that one's
pub lists-go-on : BasedListsFollow → (a b : State) (r : ℕ) (p : Playlist) → IsState a → Follows a b → based_list_of a r ≡ Some p → ListsGoOn a b r p
unfolding goes-on
lists-go-on based_lists_follow a b r p state follows is =
    let state_b : IsState b = state_of a b follows state in
    let config : b.config ≡ a.config = (continues_of a b follows).config in
    let on = based_lists_follow a.config.base a b r p state follows is in
    let q : Playlist = on.0 in
    let later : IsLater p q = on.2 in
    let there : based_list_of b r ≡ Some q = ap (λ (c : ConfigData). list_from c.base b r) config ∙ on.1 in
    let was = is-of-line a r p state is in
    let now = is-of-line b r q state_b there in
    let base : b.config.base.segments ≡ a.config.base.segments = ap (λ (c : ConfigData). c.base.segments) config in
    let number : (channel b).removed ≡ (channel a).removed + length later.evicted = omega (arith, was.sequence, now.sequence, base, later.media_sequence) in
    let more = appended-segments a b follows in
    record {
      next = q;
      is = there;
      later = later;
      goes = goes-on p q later;
      same = refl;
      number = number;
      lines = record {
        appended = more.0;
        closed_is = more.1;
        rises = omega (arith, number);
        ended = λ over.
            let ends = later.ended (was.ended ∙ over) in
            let counts : length p.segments + 0 ≡ length later.evicted + length q.segments =
            omega (
              arith,
              ap length later.segments,
              length-append p.segments later.appended,
              length-append later.evicted q.segments,
              ap length ends.1,
            ) in
            let few = removed-few a state in
            let few_b = removed-few b state_b in
            let none : length more.0 ≡ 0 =
            omega (
              arith,
              counts,
              was.count,
              now.count,
              number,
              few,
              few_b,
              length-drop (channel a).removed (closed a),
              length-drop (channel b).removed (closed b),
              ap length more.1,
              length-append (closed a) more.0,
            ) in
            (sym now.ended ∙ ends.0, none-left more.0 none);
      };
    }

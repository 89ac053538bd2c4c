-- The playlists of a channel and of one that continues it at a cut agree, however far each has come.
use Rattle.std.proofs.Common.{◌≡◌, ℕ, zero, suc, ◌+◌, List, [], ◌∷◌, drop, Some, arith, refl, sym, ap, subst, ◌∙◌}
use Rattle.std.specs.Prelude.{slice_get, option_map}
use Rattle.std.proofs.lemmas.Option.{same_Some}
use Rattle.hls_places_laws.specs.declared.place.Place.{Place}
use Rattle.hls_places_laws.specs.Line.Lengths.{marks_in}
use Rattle.hls_m3u8.specs.declared.playlist.MediaSegment.{MediaSegment}
use Rattle.hls_m3u8.specs.Playlist.{Playlist}
use Rattle.hls_core_laws.specs.Channel.{Lane}
use Rattle.hls_core_laws.specs.State.{State, channel}
use Rattle.hls_core_laws.specs.IsState.{IsState}
use Rattle.hls_core_laws.specs.Line.{line}
use Rattle.hls_core_laws.proofs.Callers.{at_drop}
use Rattle.hls_playlists_laws.specs.Live.{live_list_over, live_list_of}
use Rattle.hls_playlists_laws.specs.Handovers.{IsHandedOver}
use Rattle.hls_playlists_laws.specs.JoinedLists.{Offsets, offsets_of, joined_segment, joined_segments, joined_list, marks_uncounted}
use Rattle.hls_playlists_laws.specs.Origins.{AgreeOnOverlap, IngestSameUnits}
use Rattle.hls_playlists_laws.proofs.Handovers.{on-over}
use Rattle.hls_playlists_laws.proofs.JoinedLists.{first-at, joined-is, marks-joined}
use Rattle.hls_playlists_laws.proofs.Origins.{listed-at, live-lists-agree}
use Rattle.hls_playlists_laws.proofs.Texts.{is-listed}
use Rattle.hls_playlists_laws.proofs.Told.{closed, removed-few}
use Rattle.hls_core_laws.specs.Base.{BaseData, run_text}
use Rattle.hls_playlists_laws.specs.BasedLists.{based_list_of, list_from, offsets_from}
use Rattle.hls_playlists_laws.specs.PathLists.{list_by_paths, path_list_of}
use Rattle.hls_playlists_laws.proofs.PathLists.{mapped-some, named-agree}

-- segment k of the joined segments is segment k of the given ones, joined under its number
pub joined-at : (o : Offsets) (number : ℕ) (ys : List MediaSegment) (k : ℕ) (z : MediaSegment) → slice_get (joined_segments o number ys) k ≡ Some z →
    (y : MediaSegment) × (slice_get ys k ≡ Some y) × (joined_segment o (number + k) y ≡ z)
joined-at o number [] k z at = absurd (cc)
joined-at o number (y ∷ ys) zero z at =
    let same : joined_segment o number y ≡ z = cc in
    let none : number + 0 ≡ number = omega arith in
    (y, refl, ap (λ (n : ℕ). joined_segment o n y) none ∙ same)
joined-at o number (y ∷ ys) (suc k) z at =
    let on = joined-at o (suc number) ys k z at in
    let next : number + suc k ≡ suc number + k = omega arith in
    (on.0, on.1, ap (λ (n : ℕ). joined_segment o n on.0) next ∙ on.2)

-- for a lane of each: the live playlist of a channel agrees with the joined one of a channel that continues it at a cut
agree-over : (a b : State) (n : ℕ) (cut : Place) (r : ℕ) (l m : Lane) → IsState a → IsState b → IsHandedOver a b n cut →
    slice_get (channel a).lanes r ≡ Some l → slice_get (channel b).lanes r ≡ Some m →
    AgreeOnOverlap (live_list_over a.config.epoch r l (line a)) (joined_list (offsets_of a n cut r l) (live_list_over b.config.epoch r m (line b)))
agree-over a b n cut r l m state_a state_b over at also =
    let p : Playlist = live_list_over a.config.epoch r l (line a) in
    let q : Playlist = live_list_over b.config.epoch r m (line b) in
    let o : Offsets = offsets_of a n cut r l in
    let goes_on = on-over a b n cut r l m state_a state_b over at also in
    let ra : ℕ = (channel a).removed in
    let rb : ℕ = (channel b).removed in
    record {
      target = goes_on.target;
      map = goes_on.map;
      segments = λ j k x z x-at z-at number.
          let found = joined-at o rb q.segments k z z-at in
          let upto : ra + j ≡ n + (rb + k) = omega (arith, number) in
          let moved = goes_on.segments j k x found.0 x-at found.1 upto in
          let first : rb + k ≡ 0 → o.marked ≡ x.mark = λ none.
          let u = listed-at a r l j x x-at in
          let here : ra + j ≡ n + 0 = omega (arith, none, upto) in
          let at_n : slice_get (closed a) (n + 0) ≡ Some u.0 = ap (slice_get (closed a)) (sym here) ∙ u.1 in
          first-at (drop n (closed a)) u.0 (at_drop (closed a) n 0 ∙ at_n) ∙ ap (λ (y : MediaSegment). y.mark) u.2 in
          joined-is o (rb + k) x found.0 moved.0 moved.1 first ∙ found.2;
      marks = λ number.
          let begins : ra ≡ n + rb = number in
          ap (λ (k : ℕ). marks_in k (closed a)) begins
          ∙ sym (marks-joined a b n cut r l state_a state_b over (omega (arith, begins, removed-few a state_a)));
    }

-- a channel's live playlist agrees with that of a channel that continues it at a cut, joined by the cut's offsets
pub agree-on : (a b : State) (n : ℕ) (cut : Place) (r : ℕ) (l : Lane) (p q : Playlist) → IsState a → IsState b →
    IsHandedOver a b n cut → slice_get (channel a).lanes r ≡ Some l → live_list_of a r ≡ Some p → live_list_of b r ≡ Some q →
    AgreeOnOverlap p (joined_list (offsets_of a n cut r l) q)
agree-on a b n cut r l p q state_a state_b over at p-is q-is =
    let x = is-listed a state_a r p p-is in
    let y = is-listed b state_b r q q-is in
    let same : x.lane ≡ l = same_Some x.lane l (sym x.at ∙ at) in
    let o : Offsets = offsets_of a n cut r l in
    subst (λ (z : Playlist). AgreeOnOverlap z (joined_list o q)) (ap (λ (k : Lane). live_list_over a.config.epoch r k (line a)) (sym same) ∙ x.is)
    (subst (λ (z : Playlist). AgreeOnOverlap (live_list_over a.config.epoch r l (line a)) (joined_list o z)) y.is
    (agree-over a b n cut r l y.lane state_a state_b over at y.at))

-- joined playlists of two origins with one base agree
joined-agree : (o : Offsets) (p q : Playlist) → AgreeOnOverlap p q → AgreeOnOverlap (joined_list o p) (joined_list o q)
joined-agree o p q agree = record {
  target = agree.target;
  map = agree.map;
  segments = λ j k x y x-at y-at number.
      let u = joined-at o p.media_sequence p.segments j x x-at in
      let v = joined-at o q.media_sequence q.segments k y y-at in
      let same : p.media_sequence + j ≡ q.media_sequence + k = omega (arith, number) in
      sym u.2 ∙ (ap (joined_segment o (p.media_sequence + j)) (agree.segments j k u.0 v.0 u.1 v.1 same)
      ∙ (ap (λ (n : ℕ). joined_segment o n v.0) same ∙ v.2));
  marks = λ number.
      let same : p.media_sequence ≡ q.media_sequence = omega (arith, number) in
      omega (arith, agree.marks same, ap (marks_uncounted o) same);
}

-- path lists of two origins that have one base and are fed by the same encoders agree
pub path-lists-agree : (a b : State) (r : ℕ) (p q : Playlist) → IsState a → IsState b → IngestSameUnits a b → b.config.base ≡ a.config.base →
    path_list_of a r ≡ Some p → path_list_of b r ≡ Some q → AgreeOnOverlap p q
path-lists-agree a b r p q state_a state_b fed base p-is q-is =
    let run : List ℕ = run_text a.config.base.run in
    let o : Offsets = offsets_from a.config.base r in
    let same : option_map (list_by_paths run r) (list_from a.config.base b r) ≡ path_list_of b r =
    ap (λ (x : BaseData). option_map (list_by_paths (run_text x.run) r) (list_from x b r)) (sym base) in
    let x = mapped-some (list_by_paths run r) (based_list_of a r) p p-is in
    let y = mapped-some (list_by_paths run r) (list_from a.config.base b r) q (same ∙ q-is) in
    let u = mapped-some (joined_list o) (live_list_of a r) x.0 x.1 in
    let v = mapped-some (joined_list o) (live_list_of b r) y.0 y.1 in
    let agree = named-agree run r (joined_list o u.0) (joined_list o v.0)
    (joined-agree o u.0 v.0 (live-lists-agree a b r u.0 v.0 state_a state_b fed u.1 v.1)) in
    subst (λ (z : Playlist). AgreeOnOverlap z q) (ap (list_by_paths run r) u.2 ∙ x.2)
    (subst (λ (z : Playlist). AgreeOnOverlap (list_by_paths run r (joined_list o u.0)) z) (ap (list_by_paths run r) v.2 ∙ y.2) agree)

-- A renewed channel's playlists are the old one's at once, and so are valid as later ones of those before.
use Rattle.std.proofs.Common.{◌≡◌, ◌∙◌, ℕ, ◌+◌, ◌-◌, ◌<◌, ◌≤◌, Bool, true, Option, Some, None, List, [], ◌∷◌, length, map, drop, refl, sym, ap, subst, arith}
use Rattle.std.specs.Prelude.{◌⊎◌, if◌then◌else◌, nat_lt, option_map, slice_get}
use Rattle.std.proofs.lemmas.Bool.{lt-ltb}
use Rattle.std.proofs.lemmas.List.{length-drop, length-map}
use Rattle.std.proofs.lemmas.Option.{slice_get_within}
use Rattle.hls_places_laws.specs.FromPlace.{PlacesFromAPlaceAgree, PlacesNeverGoBack}
use Rattle.hls_places_laws.specs.declared.line.live_segment.LiveSegment.{LiveSegment}
use Rattle.hls_places_laws.specs.Line.FromCut.{LineFromCutAgrees}
use Rattle.hls_places_laws.specs.Line.Live.{has_ended, segments_of}
use Rattle.hls_places_laws.specs.Line.Origins.{segments_over}
use Rattle.hls_m3u8.specs.declared.playlist.MediaSegment.{MediaSegment}
use Rattle.hls_m3u8.specs.Playlist.{Playlist}
use Rattle.hls_core_laws.specs.declared.event.Event.{Event}
use Rattle.hls_core_laws.specs.Base.{BaseData, run_text}
use Rattle.hls_core_laws.specs.Config.{ConfigData, IsConfig}
use Rattle.hls_core_laws.specs.Channel.{Lane}
use Rattle.hls_core_laws.specs.State.{State, channel}
use Rattle.hls_core_laws.specs.IsState.{IsState}
use Rattle.hls_core_laws.specs.Follows.{Follows}
use Rattle.hls_core_laws.specs.Line.{line, line_goal_of}
use Rattle.hls_core_laws.specs.Places.{sources}
use Rattle.hls_core_laws.specs.Runs.{AreFitting, next_state, replayed_state}
use Rattle.hls_core_laws.proofs.Callers.{continues_of, first_is_state, next_is_state, removed_within, some_at, state_of}
use Rattle.hls_core.specs.Bases.{config_after}
use Rattle.hls_playlists_laws.specs.BasedLists.{AreAsFar, based_list_of, list_from, offsets_from}
use Rattle.hls_playlists_laws.specs.CutBases.{base_of_cut}
use Rattle.hls_playlists_laws.specs.JoinedLists.{joined_list}
use Rattle.hls_playlists_laws.specs.LaterList.{IsLater}
use Rattle.hls_playlists_laws.specs.Live.{live_list_in, live_list_of, live_list_over, live_layout, live_media_segment}
use Rattle.hls_playlists_laws.specs.PathLaws.{BasedListsFollow, BaseOfCutTakesOver, PathListsFollow, TakenOverListsAreEqual}
use Rattle.hls_playlists_laws.specs.PathLists.{list_by_paths, path_list_of}
use Rattle.hls_renewal.specs.Laws.{RenewedListsAreEqual, RenewedListsContinue}
use Rattle.hls_renewal.specs.Renewals.{Renews, renewal_events, renewal_start}
use Rattle.hls_renewal.proofs.RenewalFits.{renewal_fits}
use Rattle.hls_renewal.proofs.RenewedLanes.{renewed_channels_are_handed_over}
use Rattle.hls_renewal.proofs.RenewedRemovals.{removed_alike}
use Rattle.hls_renewal.proofs.RenewedSources.{ended_alike, places_from_cut, renewed, same_lanes, since_count}

-- ---- a renewed channel is in a state

-- events that fit the states that they meet lead from a state to a state
pub all_states : (s : State) (es : List (ℕ × Event)) → IsState s → AreFitting s es → IsState (replayed_state s es)
all_states s [] state fits = state
all_states s (e ∷ es) state fits = all_states (next_state s e.0 e.1) es (next_is_state s e.0 e.1 state fits.0) fits.1

-- a renewed channel is a state
pub renewed_state : (a b : State) (renews : Renews a b) → IsState a → IsState b
renewed_state a b renews state =
    let cut = renews.cut in
    let base : BaseData = base_of_cut a cut.segments cut.place in
    let config : IsConfig (config_after a.config base) = record {
      target = state.configured.target;
      preferred = state.configured.preferred;
      renditions = state.configured.renditions;
      epoch = state.configured.epoch;
      base = renews.base;
    } in
    subst (λ (s : State). IsState s) (sym renews.is)
    (all_states (renewal_start a cut) (renewal_events a cut) (first_is_state (config_after a.config base) config)
    (renewal_fits a cut (renewal_events a cut) (config_after a.config base) state refl))

-- ---- both channels' lines are as far

module _ (from_place : PlacesFromAPlaceAgree) (in_row : PlacesNeverGoBack) (from_cut : LineFromCutAgrees) where
  -- the live line of a renewed channel has as many segments as the old one
  same_count : (a b : State) (renews : Renews a b) → IsState a → length (segments_of (line b)) ≡ length (segments_of (line a))
  same_count a b renews state =
      let state_b = renewed_state a b renews state in
      let cut = renews.cut in
      let old : List LiveSegment = segments_over (line_goal_of a.config) (sources a) in
      let new : List LiveSegment = segments_over (line_goal_of b.config) (sources b) in
      let from = (places_from_cut a b cut (renewed a b renews state) state from_place in_row from_cut).3 in
      omega (
        arith,
        length-drop (line a).removed old,
        length-drop (line b).removed new,
        ap length from,
        since_count (cut.place).spots (drop cut.segments old),
        length-drop cut.segments old,
        removed_alike a b renews,
        removed_within a state,
        removed_within b state_b,
      )

  -- in each rendition the two live lists begin and end at the same segment, counted from the cut, and both have ended or neither has
  as_far : (a b : State) (renews : Renews a b) → IsState a → (r : ℕ) (l m : Lane)
      → AreAsFar (renews.cut).segments (live_list_over a.config.epoch r l (line a)) (live_list_over b.config.epoch r m (line b))
  as_far a b renews state r l m = record {
    begins = removed_alike a b renews;
    count = length-map (segments_of (line a)) (live_media_segment (live_layout a.config.epoch r l))
        ∙ sym (same_count a b renews state) ∙ sym (length-map (segments_of (line b)) (live_media_segment (live_layout b.config.epoch r m)));
    ended = sym (ended_alike a b (renews.cut) (renewed a b renews state) state (renewed_state a b renews state));
  }

-- ---- so are their playlists

-- a rendition's live list is there once the line has a closed segment
listed : (s : State) (r : ℕ) (l : Lane) → slice_get (channel s).lanes r ≡ Some l → 0 < length (segments_of (line s))
    → live_list_of s r ≡ Some (live_list_over s.config.epoch r l (line s))
listed s r l at some =
    let has = lt-ltb 0 ((line s).removed + length (segments_of (line s))) (omega (arith, some)) in
    ap (λ (o : Option Lane). live_list_in s.config.epoch r o (line s)) at
    ∙ ap (λ (b : Bool). if b then Some (live_list_over s.config.epoch r l (line s)) else None) has

-- a rendition that the channel doesn't have has neither a playlist by ranges nor one by paths
unlisted : (s : State) (r : ℕ) → slice_get (channel s).lanes r ≡ None → (based_list_of s r ≡ None) × (path_list_of s r ≡ None)
unlisted s r none =
    let live : live_list_of s r ≡ None = ap (λ (o : Option Lane). live_list_in s.config.epoch r o (line s)) none in (
      ap (λ (o : Option Playlist). option_map (joined_list (offsets_from s.config.base r)) o) live,
      ap (λ (o : Option Playlist). option_map (list_by_paths (run_text s.config.base.run) r) (option_map (joined_list (offsets_from s.config.base r)) o)) live,
    )

module _ (from_place : PlacesFromAPlaceAgree) (in_row : PlacesNeverGoBack) (from_cut : LineFromCutAgrees) (equal : TakenOverListsAreEqual)
    (takes_over : BaseOfCutTakesOver) where
  -- in rendition r both channels have the same playlists by ranges and by paths, whether or not they have this rendition
  by_lane : (a b : State) (renews : Renews a b) (r : ℕ) (x y : Option Lane) → IsState a → 0 < length (segments_of (line a))
      → slice_get (channel a).lanes r ≡ x → slice_get (channel b).lanes r ≡ y → (based_list_of b r ≡ based_list_of a r) × (path_list_of b r ≡ path_list_of a r)
  by_lane a b renews r None None state some at there =
      let u = unlisted a r at in
      let v = unlisted b r there in
      (v.0 ∙ sym u.0, v.1 ∙ sym u.1)
  by_lane a b renews r None (Some m) state some at there =
      let l = some_at (channel a).lanes r (omega (arith, slice_get_within (channel b).lanes r m there, same_lanes a b (renews.cut) (renewed a b renews state) state)) in
      absurd (let found = l.1 in cc)
  by_lane a b renews r (Some l) None state some at there =
      let m = some_at (channel b).lanes r (omega (arith, slice_get_within (channel a).lanes r l at, same_lanes a b (renews.cut) (renewed a b renews state) state)) in
      absurd (let found = m.1 in cc)
  by_lane a b renews r (Some l) (Some m) state some at there =
      let cut = renews.cut in
      let over = renewed_channels_are_handed_over a b renews state in
      let takes = takes_over a b cut.segments cut.place r l over.0 over.1 at in
      let also : 0 < length (segments_of (line b)) = omega (arith, some, same_count from_place in_row from_cut a b renews state) in
      equal a b cut.segments cut.place r l (live_list_over a.config.epoch r l (line a)) (live_list_over b.config.epoch r m (line b)) state (renewed_state a b renews state)
      takes at (listed a r l at some) (listed b r m there also) (as_far from_place in_row from_cut a b renews state r l m)

  -- if the old channel lists a segment, the renewed one has the same playlists, by ranges and by paths
  pub equal_lists : RenewedListsAreEqual
  equal_lists a b renews state r some = by_lane a b renews r (slice_get (channel a).lanes r) (slice_get (channel b).lanes r) state some refl refl

  -- each playlist of the renewed channel is valid as a later one of those that were sent before the renewal
  pub later_lists : BasedListsFollow → PathListsFollow → RenewedListsContinue
  later_lists follow paths_follow before a b r earlier state follows renews some =
      let state_a = state_of before a follows state in
      let same = equal_lists a b renews state_a r some in
      let config : a.config ≡ before.config = (continues_of before a follows).config in (
        λ at.
            let on = follow before.config.base before a r earlier state follows at in
            (on.0, same.0 ∙ ap (λ (c : ConfigData). list_from c.base a r) config ∙ on.1, on.2),
        λ at.
            let on = paths_follow before a r earlier state follows at in
            (on.0, same.1 ∙ on.1, on.2),
      )

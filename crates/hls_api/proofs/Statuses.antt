-- The number of segments that were removed from the live line of a state is small.
use Rattle.std.proofs.Common.{◌≡◌, ◌+◌, ◌<◌, length, Some, arith, inl, inr, ◌∙◌, ap}
use Rattle.std.proofs.lemmas.Bool.{cases_Bool, cond-true, ltb-false}
use Rattle.hls_places_laws.specs.Line.Live.{segments_of}
use Rattle.hls_m3u8.specs.Playlist.{Playlist}
use Rattle.hls_m3u8.specs.HasText.{HasText}
use Rattle.hls_core_laws.specs.State.{State, channel}
use Rattle.hls_core_laws.specs.IsState.{IsState}
use Rattle.hls_core_laws.specs.Line.{line}
use Rattle.hls_core_laws.proofs.Callers.{lanes_count, some_at}
use Rattle.hls_playlists_laws.specs.Live.{has_closed_segment, live_list_in, live_list_of, live_list_over}
use Rattle.hls_playlists_laws.proofs.Callers.{live-lists-have-texts}

-- fewer than 10^15 segments were removed from the line of a valid state
pub removed_small : (s : State) → IsState s → (line s).removed < 1000000000000000
removed_small s state = elim (cases_Bool (has_closed_segment (line s))) [
  | inl any ↦
      let lane = some_at (channel s).lanes 0 (omega (arith, lanes_count s.config s.log, state.configured.renditions.some)) in
      let list : Playlist = live_list_over s.config.epoch 0 lane.0 (line s) in
      let is : live_list_of s 0 ≡ Some list =
      ap (λ o. live_list_in s.config.epoch 0 o (line s)) lane.1 ∙ cond-true (has_closed_segment (line s)) _ _ any in
      let text : HasText list = live-lists-have-texts s 0 list state is in
      text.media_sequence
  | inr none ↦
      let few = ltb-false 0 ((line s).removed + length (segments_of (line s))) none in
      omega (arith, few)
]

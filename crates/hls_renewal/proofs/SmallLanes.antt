-- A rendition's init section and all its units have at most as many bytes as a recording may have.
use Rattle.std.proofs.Common.{◌≡◌, ◌∙◌, ℕ, ◌+◌, ◌^◌, ◌≤◌, Option, Some, None, List, [], ◌∷◌, refl, sym, ap, subst, arith}
use Rattle.std.specs.Prelude.{slice_get, slice_set}
use Rattle.std.proofs.lemmas.List.Sums.{sum_by-append}
use Rattle.hls_media_laws.specs.FactLists.{len_of, total_bytes}
use Rattle.hls_media_laws.proofs.Callers.{inits_are_bounded}
use Rattle.hls_core_laws.specs.declared.event.Entry.{Entry}
use Rattle.hls_core_laws.specs.declared.event.LoggedEvent.{LoggedEvent}
use Rattle.hls_core_laws.specs.declared.event.LoggedEvent.TheVariants.{Begun, Accepted, Finished, Slid, Trimmed}
use Rattle.hls_core_laws.specs.Config.{ConfigData}
use Rattle.hls_core_laws.specs.Channel.{Channel, Lane, channel_after, channel_from, first_channel, fresh_lane, lane, lane_len, no_lane, with_begin, with_facts, with_finish, with_floor}
use Rattle.hls_core_laws.specs.State.{State, channel}
use Rattle.hls_core_laws.specs.IsState.{IsState}
use Rattle.hls_core_laws.proofs.Callers.{LegalFrom, MayAdd, at_or, each_set, entries_of, mapped_at}

-- a rendition has at most 2^40 bytes, and no unit unless it has an init section
record IsSmall (l : Lane) : Type 0 where
  total : lane_len l ≤ 2 ^ 40
  bare : l.init ≡ None → l.facts ≡ []

-- each rendition has at most 2^40 bytes, and no unit unless it has an init section
AreSmall : List Lane → Type 0
AreSmall lanes = (r : ℕ) (l : Lane) → slice_get lanes r ≡ Some l → IsSmall l

-- renditions stay small if one is replaced by a small one
with_small : (lanes : List Lane) (q : ℕ) (new : Lane) → AreSmall lanes → IsSmall new → AreSmall (slice_set lanes q new)
unfolding AreSmall
with_small = each_set IsSmall

-- renditions stay small after an entry that the log may add
small_after : (config : ConfigData) (ch : Channel) (e : LoggedEvent) → MayAdd config ch e → AreSmall ch.lanes → AreSmall (channel_after e ch).lanes
unfolding AreSmall
small_after config ch (Begun q init len) may small =
    let is : lane ch q ≡ may.lane = at_or ch.lanes q no_lane may.lane may.at in
    let none : total_bytes may.lane.facts ≡ 0 = ap total_bytes ((small q may.lane may.at).bare may.first) in
    let new : IsSmall (with_begin init len may.lane) =
    record { total = omega (arith, none, (inits_are_bounded may.bytes init may.read).len_limit, may.counted); bare = λ e. absurd (cc) } in
    with_small ch.lanes q (with_begin init len (lane ch q)) small (subst (λ (l : Lane). IsSmall (with_begin init len l)) (sym is) new)
small_after config ch (Accepted q f) may small =
    let is : lane ch q ≡ may.lane = at_or ch.lanes q no_lane may.lane may.at in
    let new : IsSmall (with_facts f may.lane) =
    record {
      total = omega (arith, may.room, sum_by-append len_of may.lane.facts (f ∷ []));
      bare = λ e. let never : None ≡ Some may.init = sym e ∙ may.begun in absurd (cc);
    } in
    with_small ch.lanes q (with_facts f (lane ch q)) small (subst (λ (l : Lane). IsSmall (with_facts f l)) (sym is) new)
small_after config ch (Finished q) may small =
    let is : lane ch q ≡ may.lane = at_or ch.lanes q no_lane may.lane may.at in
    let old = small q may.lane may.at in
    let new : IsSmall (with_finish may.lane) = record { total = old.total; bare = old.bare } in
    with_small ch.lanes q (with_finish (lane ch q)) small (subst (λ (l : Lane). IsSmall (with_finish l)) (sym is) new)
small_after config ch (Slid count) may small = small
small_after config ch (Trimmed q floor) may small =
    let is : lane ch q ≡ may.lane = at_or ch.lanes q no_lane may.lane may.at in
    let old = small q may.lane may.at in
    let new : IsSmall (with_floor floor may.lane) = record { total = old.total; bare = old.bare } in
    with_small ch.lanes q (with_floor floor (lane ch q)) small (subst (λ (l : Lane). IsSmall (with_floor floor l)) (sym is) new)

-- renditions stay small over a legal log
small_from : (config : ConfigData) (ch : Channel) (log : List Entry) → LegalFrom config ch log → AreSmall ch.lanes → AreSmall (channel_from ch log).lanes
unfolding LegalFrom channel_from
small_from config ch [] legal small = small
small_from config ch (e ∷ es) legal small = small_from config (channel_after e.event ch) es legal.1 (small_after config ch e.event legal.0 small)

-- renditions that haven't begun are small
small_first : (config : ConfigData) → AreSmall (first_channel config).lanes
unfolding AreSmall
small_first config r l at =
    let m = mapped_at fresh_lane config.renditions r l at in
    subst (λ (x : Lane). IsSmall x) m.2 (record { total = omega arith; bare = λ e. refl })

-- each rendition of a state has at most 2^40 bytes, its init section included
pub small_lane : (s : State) → IsState s → (r : ℕ) (l : Lane) → slice_get (channel s).lanes r ≡ Some l → lane_len l ≤ 2 ^ 40
unfolding AreSmall
small_lane s state r l at = (small_from s.config (first_channel s.config) s.log (entries_of s.config s.log state.legal) (small_first s.config) r l at).total

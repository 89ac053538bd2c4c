-- A rendition's init section and all its units have at most as many bytes as a recording may have.
use Rattle.std.proofs.Common.{◌≡◌, ℕ, ◌^◌, ◌≤◌, List, [], ◌∷◌, Some, None, refl, sym, ap, subst, inl, inr, ◌∙◌, arith}
use Rattle.std.specs.Prelude.{slice_get, slice_set}
use Rattle.std.proofs.lemmas.List.Sums.{sum_by-append}
use Rattle.hls_media_laws.specs.FactLists.{len_of, total_bytes}
use Rattle.hls_playlists_laws.proofs.Cited.{inits_are_bounded, MayAdd, LegalFrom, at_or, each_set, mapped_at, entries_of}
use Rattle.hls_core_laws.specs.declared.event.Entry.{Entry}
use Rattle.hls_core_laws.specs.declared.event.LoggedEvent.{LoggedEvent}
use Rattle.hls_core_laws.specs.declared.event.LoggedEvent.TheVariants.{Begun, Accepted, Finished, Slid, Trimmed}
use Rattle.hls_core_laws.specs.Config.{ConfigData}
use Rattle.hls_core_laws.specs.Channel.{Channel, Lane, no_lane, fresh_lane, lane, with_begin, with_facts, with_finish, with_floor, channel_after, channel_from, first_channel, lane_len}
use Rattle.hls_core_laws.specs.State.{State, channel}
use Rattle.hls_core_laws.specs.IsState.{IsState}

-- a lane has at most 2^40 bytes, and no unit before its init section
record IsSmall (l : Lane) : Type 0 where
  total : lane_len l ≤ 2 ^ 40
  bare : l.init ≡ None → l.facts ≡ []

-- each lane is small
AllSmall : List Lane → Type 0
AllSmall lanes = (r : ℕ) (l : Lane) → slice_get lanes r ≡ Some l → IsSmall l

-- replacing a lane by a small one leaves all lanes small
small-set : (lanes : List Lane) (q : ℕ) (new : Lane) → AllSmall lanes → IsSmall new → AllSmall (slice_set lanes q new)
unfolding AllSmall
small-set = each_set IsSmall

-- an event that may be added keeps all lanes small
small-after : (config : ConfigData) (ch : Channel) (e : LoggedEvent) → MayAdd config ch e → AllSmall ch.lanes → AllSmall (channel_after e ch).lanes
unfolding AllSmall
small-after config ch (Begun q init len) may small =
    let is : lane ch q ≡ may.lane = at_or ch.lanes q no_lane may.lane may.at in
    let old = small q may.lane may.at in
    let none : total_bytes may.lane.facts ≡ 0 = ap total_bytes (old.bare may.first) in
    let head = inits_are_bounded may.bytes init may.read in
    let new : IsSmall (with_begin init len may.lane) =
    record { total = omega (arith, none, head.len_limit, may.counted); bare = λ e. absurd (cc) } in
    small-set ch.lanes q (with_begin init len (lane ch q)) small (subst (λ (l : Lane). IsSmall (with_begin init len l)) (sym is) new)
small-after config ch (Accepted q f) may small =
    let is : lane ch q ≡ may.lane = at_or ch.lanes q no_lane may.lane may.at in
    let new : IsSmall (with_facts f may.lane) =
    record {
      total = omega (arith, may.room, sum_by-append len_of may.lane.facts (f ∷ []));
      bare = λ e. let never : None ≡ Some may.init = sym e ∙ may.begun in absurd (cc);
    } in
    small-set ch.lanes q (with_facts f (lane ch q)) small (subst (λ (l : Lane). IsSmall (with_facts f l)) (sym is) new)
small-after config ch (Finished q) may small =
    let is : lane ch q ≡ may.lane = at_or ch.lanes q no_lane may.lane may.at in
    let old = small q may.lane may.at in
    let new : IsSmall (with_finish may.lane) = record { total = old.total; bare = old.bare } in
    small-set ch.lanes q (with_finish (lane ch q)) small (subst (λ (l : Lane). IsSmall (with_finish l)) (sym is) new)
small-after config ch (Slid count) may small = small
small-after config ch (Trimmed q floor) may small =
    let is : lane ch q ≡ may.lane = at_or ch.lanes q no_lane may.lane may.at in
    let old = small q may.lane may.at in
    let new : IsSmall (with_floor floor may.lane) = record { total = old.total; bare = old.bare } in
    small-set ch.lanes q (with_floor floor (lane ch q)) small (subst (λ (l : Lane). IsSmall (with_floor floor l)) (sym is) new)

-- a legal log keeps all lanes small
small-from : (config : ConfigData) (ch : Channel) (log : List Entry) → LegalFrom config ch log → AllSmall ch.lanes → AllSmall (channel_from ch log).lanes
unfolding LegalFrom channel_from
small-from config ch [] legal small = small
small-from config ch (e ∷ es) legal small =
    small-from config (channel_after e.event ch) es legal.1 (small-after config ch e.event legal.0 small)

-- before any event all lanes are small
small-first : (config : ConfigData) → AllSmall (first_channel config).lanes
unfolding AllSmall
small-first config r l at =
    let m = mapped_at fresh_lane config.renditions r l at in
    subst (λ (x : Lane). IsSmall x) m.2 (record { total = omega arith; bare = λ e. refl })

-- a rendition's recording in a state has at most 2^40 bytes
pub lane-small : (s : State) → IsState s → (r : ℕ) (l : Lane) → slice_get (channel s).lanes r ≡ Some l → lane_len l ≤ 2 ^ 40
unfolding AllSmall
lane-small s state r l at =
    (small-from s.config (first_channel s.config) s.log (entries_of s.config s.log state.legal) (small-first s.config) r l at).total

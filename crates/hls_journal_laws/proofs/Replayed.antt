-- The replay of substitutes leads to the same state.
use Rattle.std.proofs.Common.{◌≡◌, ◌≢◌, ◌∙◌, ℕ, ◌+◌, ◌-◌, ◌<◌, ◌≤◌, List, [], ◌∷◌, ◌++◌, length, drop, get_or, set, Some, refl, sym, ap, subst, inl, inr, arith}
use Rattle.std.specs.Prelude.{◌⊎◌, slice_get, slice_set, slice_index_or}
use Rattle.std.proofs.lemmas.List.{length-set, ext_get_or}
use Rattle.std.proofs.lemmas.Option.{slice_get_within}
use Rattle.hls_media_laws.specs.InitData.{InitData}
use Rattle.hls_media_laws.specs.declared.facts.Facts.{Facts}
use Rattle.hls_core_laws.specs.declared.event.Entry.{Entry}
use Rattle.hls_core_laws.specs.declared.event.Event.{Event}
use Rattle.hls_core_laws.specs.declared.event.Event.TheVariants.{Begin, Accept, Finish, Slide, Trim}
use Rattle.hls_core_laws.specs.declared.event.LoggedEvent.TheVariants.{Begun, Accepted, Finished, Slid, Trimmed}
use Rattle.hls_core_laws.specs.Config.{ConfigData, IsConfig}
use Rattle.hls_core_laws.specs.Channel.{Channel, Lane, no_lane, lane, with_lane, with_begin, with_facts, with_finish, with_floor, channel_after, channel_of}
use Rattle.hls_core_laws.specs.State.{State, HeldBytes, no_bytes, channel}
use Rattle.hls_core_laws.specs.IsState.{IsState, MatchesBytes}
use Rattle.hls_core_laws.specs.Outcome.{New, outcome_of, held_bytes}
use Rattle.hls_core_laws.specs.Moves.{logged_event, entry_of, state_with_entry, bytes_after, push_unit_bytes, drop_unit_bytes, IsFitting}
use Rattle.hls_core_laws.specs.Runs.{first_state, state_by_outcome, next_state, replayed_state, AreFitting}
use Rattle.hls_core_laws.proofs.Callers.{at_beside, at_or, may_add, channel_advanced, first_is_state, next_is_state}
use Rattle.hls_journal_laws.specs.Replays.{AreNew}
use Rattle.hls_journal_laws.specs.Substitutes.{IsBelow, Replaces, AreSubstitutes, SubstitutesReplayAlike}
use Rattle.hls_journal_laws.proofs.Outcomes.{new_alike, entry_alike}
use Rattle.hls_journal_laws.proofs.Agreement.{AgreeFrom, agree_with_itself, agree_pushed, agree_dropped, agree_set, lane_here, lane_else, floor_stays}

-- two states that differ in bytes below the floors alone
record DifferBelow (floors : ℕ → ℕ) (s t : State) : Type 0 where
  config : t.config ≡ s.config
  log : t.log ≡ s.log
  counts : length t.bytes ≡ length s.bytes
  kept : (r : ℕ) → AgreeFrom (floors r - (lane (channel s) r).floor) (held_bytes s r) (held_bytes t r)

-- two lists of kept bytes agree in each rendition from the given floor on
abbrev KeepAlike : (ℕ → ℕ) → Channel → List HeldBytes → List HeldBytes → Type 0
KeepAlike floors ch xs ys = (r : ℕ) → AgreeFrom (floors r - (lane ch r).floor) (get_or xs r no_bytes) (get_or ys r no_bytes)

-- a rendition that has a lane has kept bytes
in_range : (s : State) (q : ℕ) (l : Lane) → IsState s → slice_get (channel s).lanes q ≡ Some l → (q < length (channel s).lanes) × (q < length s.bytes)
in_range s q l state at =
    let within : q < length (channel s).lanes = slice_get_within (channel s).lanes q l at in
    (within, omega (arith, within, state.counts_agree))

-- a rendition keeps each unit from its floor on
units_kept : (s : State) (q : ℕ) (l : Lane) → IsState s → slice_get (channel s).lanes q ≡ Some l → (lane (channel s) q).floor + length (held_bytes s q).units ≡ length (lane (channel s) q).facts
units_kept s q l state at =
    let beside = at_beside (channel s).lanes s.bytes q l state.counts_agree at in
    let lane_is : lane (channel s) q ≡ l = at_or (channel s).lanes q no_lane l at in
    let held_is : held_bytes s q ≡ beside.0 = at_or s.bytes q no_bytes beside.0 beside.1 in
    let fits : MatchesBytes l beside.0 = state.fits q l beside.0 at beside.1 in
    subst (λ (x : Lane). x.floor + length (held_bytes s q).units ≡ length x.facts) (sym lane_is)
    (subst (λ (h : HeldBytes). l.floor + length h.units ≡ length l.facts) (sym held_is) fits.kept)

-- if a rendition's lane is replaced by one with the same floor in two such states, and its bytes by ones that agree, all bytes still agree
alike_set : (floors : ℕ → ℕ) (s t : State) (q : ℕ) (l : Lane) (a b : HeldBytes) → DifferBelow floors s t → q < length (channel s).lanes → q < length s.bytes → l.floor ≡ (lane (channel s) q).floor
    → AgreeFrom (floors q - (lane (channel s) q).floor) a b → KeepAlike floors (with_lane (channel s) q l) (set s.bytes q a) (set t.bytes q b)
alike_set floors s t q l a b differ within in_bytes same agree =
    let stays = floor_stays (channel s) q l within same in
    agree_set s.bytes t.bytes q a b (λ r. floors r - (lane (channel s) r).floor) (λ r. floors r - (lane (with_lane (channel s) q l) r).floor) differ.counts in_bytes differ.kept
    (subst (λ (f : ℕ). AgreeFrom (floors q - f) a b) (sym (stays q)) agree)
    (λ r there. ap (λ f. floors r - f) (stays r))

-- after a unit, the bytes still agree: both get the same unit, or any if its number is below the floor
accept_alike : (floors : ℕ → ℕ) (s t : State) (q : ℕ) (f : Facts) (b c : List ℕ) → DifferBelow floors s t → IsState s → IsFitting s (Accept q f b) → outcome_of s (Accept q f b) ≡ New
    → (c ≡ b) ⊎ (length (lane (channel s) q).facts < floors q)
    → KeepAlike floors (channel_after (Accepted q f) (channel s)) (bytes_after s (Accept q f b)) (bytes_after t (Accept q f c))
accept_alike floors s t q f b c differ state fits new replaces =
    let a = may_add s (Accept q f b) fits new in
    let range = in_range s q a.lane state a.at in
    let count = units_kept s q a.lane state a.at in
    let either : (c ≡ b) ⊎ (length (held_bytes s q).units < floors q - (lane (channel s) q).floor) =
    elim replaces [ inl same ↦ inl same | inr below ↦ inr (omega (arith, below, count)) ] in
    alike_set floors s t q (with_facts f (lane (channel s) q)) (push_unit_bytes (held_bytes s q) b) (push_unit_bytes (held_bytes t q) c) differ range.0 range.1 refl
    (agree_pushed (floors q - (lane (channel s) q).floor) (held_bytes s q) (held_bytes t q) b c (differ.kept q) either)

-- after a trim that is new, the bytes still agree
trim_alike : (floors : ℕ → ℕ) (s t : State) (q floor : ℕ) → DifferBelow floors s t → IsState s → outcome_of s (Trim q floor) ≡ New
    → KeepAlike floors (channel_after (Trimmed q floor) (channel s)) (bytes_after s (Trim q floor)) (bytes_after t (Trim q floor))
trim_alike floors s t q floor differ state new =
    let m = may_add s (Trim q floor) tt new in
    let range = in_range s q m.lane state m.at in
    let to : lane (with_lane (channel s) q (with_floor floor (lane (channel s) q))) q ≡ with_floor floor (lane (channel s) q) =
    lane_here (channel s) q (with_floor floor (lane (channel s) q)) range.0 in
    let is : lane (channel s) q ≡ m.lane = at_or (channel s).lanes q no_lane m.lane m.at in
    let rises : (lane (channel s) q).floor < floor = subst (λ (l : Lane). l.floor < floor) (sym is) m.rises in
    let same : channel t ≡ channel s = λ k. channel_of (differ.config k) (differ.log k) in
    let gone : floor - (lane (channel t) q).floor ≡ floor - (lane (channel s) q).floor = ap (λ (c : Channel). floor - (lane c q).floor) same in
    let less : AgreeFrom (floors q - floor) (drop_unit_bytes (held_bytes s q) (floor - (lane (channel s) q).floor)) (drop_unit_bytes (held_bytes t q) (floor - (lane (channel s) q).floor)) =
    agree_dropped (floors q - (lane (channel s) q).floor) (floors q - floor) (floor - (lane (channel s) q).floor) (held_bytes s q) (held_bytes t q) (omega (arith, rises)) (differ.kept q) in
    agree_set s.bytes t.bytes q (drop_unit_bytes (held_bytes s q) (floor - (lane (channel s) q).floor)) (drop_unit_bytes (held_bytes t q) (floor - (lane (channel t) q).floor))
    (λ r. floors r - (lane (channel s) r).floor) (λ r. floors r - (lane (with_lane (channel s) q (with_floor floor (lane (channel s) q))) r).floor) differ.counts range.1 differ.kept
    (subst (λ (l : Lane). AgreeFrom (floors q - l.floor) (drop_unit_bytes (held_bytes s q) (floor - (lane (channel s) q).floor)) (drop_unit_bytes (held_bytes t q) (floor - (lane (channel t) q).floor))) (sym to)
    (subst (λ (k : ℕ). AgreeFrom (floors q - floor) (drop_unit_bytes (held_bytes s q) (floor - (lane (channel s) q).floor)) (drop_unit_bytes (held_bytes t q) k)) (sym gone) less))
    (λ r there. ap (λ (l : Lane). floors r - l.floor) (lane_else (channel s) q r (with_floor floor (lane (channel s) q)) there))

-- after the same event, the bytes still agree
same_alike : (floors : ℕ → ℕ) (s t : State) (x : Event) → DifferBelow floors s t → IsState s → IsFitting s x → outcome_of s x ≡ New → KeepAlike floors (channel_after (logged_event x) (channel s)) (bytes_after s x) (bytes_after t x)
same_alike floors s t (Begin q init bytes) differ state fits new =
    let b = may_add s (Begin q init bytes) fits new in
    let range = in_range s q b.lane state b.at in
    alike_set floors s t q (with_begin init (length bytes) (lane (channel s) q)) (record { head = bytes; units = [] }) (record { head = bytes; units = [] }) differ range.0 range.1 refl
    (agree_with_itself (floors q - (lane (channel s) q).floor) (record { head = bytes; units = [] }))
same_alike floors s t (Accept q f bytes) differ state fits new = accept_alike floors s t q f bytes bytes differ state fits new (inl refl)
same_alike floors s t (Finish q) differ state fits new =
    let f = may_add s (Finish q) tt new in
    let range = in_range s q f.lane state f.at in
    λ r. subst (λ (k : ℕ). AgreeFrom (floors r - k) (held_bytes s r) (held_bytes t r)) (sym (floor_stays (channel s) q (with_finish (lane (channel s) q)) range.0 refl r)) (differ.kept r)
same_alike floors s t (Slide count) differ state fits new = differ.kept
same_alike floors s t (Trim q floor) differ state fits new = trim_alike floors s t q floor differ state new

-- after an event with another unit below the floor, the bytes still agree
below_alike : (floors : ℕ → ℕ) (s t : State) (x y : Event) → DifferBelow floors s t → IsState s → IsFitting s x → outcome_of s x ≡ New → logged_event y ≡ logged_event x → IsBelow floors s x
    → KeepAlike floors (channel_after (logged_event x) (channel s)) (bytes_after s x) (bytes_after t y)
below_alike floors s t (Accept q f b) (Accept p g c) differ state fits new same below =
    let at : p ≡ q = cc in
    let facts : g ≡ f = cc in
    subst (λ (k : ℕ). KeepAlike floors (channel_after (Accepted q f) (channel s)) (bytes_after s (Accept q f b)) (bytes_after t (Accept k g c))) (sym at)
    (subst (λ (z : Facts). KeepAlike floors (channel_after (Accepted q f) (channel s)) (bytes_after s (Accept q f b)) (bytes_after t (Accept q z c))) (sym facts)
    (accept_alike floors s t q f b c differ state fits new (inr below)))
below_alike floors s t (Accept q f b) (Begin p init c) differ state fits new same below = absurd (cc)
below_alike floors s t (Accept q f b) (Finish p) differ state fits new same below = absurd (cc)
below_alike floors s t (Accept q f b) (Slide n) differ state fits new same below = absurd (cc)
below_alike floors s t (Accept q f b) (Trim p n) differ state fits new same below = absurd (cc)
below_alike floors s t (Begin q init b) y differ state fits new same below = absurd below
below_alike floors s t (Finish q) y differ state fits new same below = absurd below
below_alike floors s t (Slide n) y differ state fits new same below = absurd below
below_alike floors s t (Trim q n) y differ state fits new same below = absurd below

-- an event leaves the number of renditions that keep bytes
counts_stay : (s : State) (event : Event) → length (bytes_after s event) ≡ length s.bytes
counts_stay s (Begin r init bytes) = length-set s.bytes r (record { head = bytes; units = [] })
counts_stay s (Accept r f bytes) = length-set s.bytes r (push_unit_bytes (held_bytes s r) bytes)
counts_stay s (Finish r) = refl
counts_stay s (Slide count) = refl
counts_stay s (Trim r floor) = length-set s.bytes r (drop_unit_bytes (held_bytes s r) (floor - (lane (channel s) r).floor))

-- an event and the one that replaces it are logged as the same event
logged_alike : (floors : ℕ → ℕ) (s : State) (x y : Event) → Replaces floors s x y → logged_event y ≡ logged_event x
logged_alike floors s x y (inl same) = ap logged_event same
logged_alike floors s x y (inr other) = other.0

-- after an event and the one that replaces it, the bytes still agree
replaced_alike : (floors : ℕ → ℕ) (s t : State) (x y : Event) → DifferBelow floors s t → IsState s → IsFitting s x → outcome_of s x ≡ New → Replaces floors s x y
    → KeepAlike floors (channel_after (logged_event x) (channel s)) (bytes_after s x) (bytes_after t y)
replaced_alike floors s t x y differ state fits new (inl same) =
    subst (λ (e : Event). KeepAlike floors (channel_after (logged_event x) (channel s)) (bytes_after s x) (bytes_after t e)) (sym same) (same_alike floors s t x differ state fits new)
replaced_alike floors s t x y differ state fits new (inr other) = below_alike floors s t x y differ state fits new other.0 other.1

-- two states that differ only below the floors still do after an event and the one that replaces it
step_alike : (floors : ℕ → ℕ) (s t : State) (by other : ℕ) (x y : Event) → DifferBelow floors s t → IsState s → IsFitting s x → outcome_of s x ≡ New → other ≡ by → Replaces floors s x y
    → DifferBelow floors (state_with_entry s by x) (state_with_entry t other y)
step_alike floors s t by other x y differ state fits new worker replaces = record {
  config = differ.config;
  log = ap (λ es. es ++ entry_of other y ∷ []) differ.log ∙ ap (λ (e : Entry). s.log ++ e ∷ []) (entry_alike by other x y worker (logged_alike floors s x y replaces));
  counts = counts_stay t y ∙ differ.counts ∙ sym (counts_stay s x);
  kept = λ r. subst (λ (c : Channel). AgreeFrom (floors r - (lane c r).floor) (held_bytes (state_with_entry s by x) r) (held_bytes (state_with_entry t other y) r)) (sym (channel_advanced s by x))
      (replaced_alike floors s t x y differ state fits new replaces r);
}

-- after a new event, the next state has its entry
next_new : (s : State) (by : ℕ) (event : Event) → outcome_of s event ≡ New → next_state s by event ≡ state_with_entry s by event
next_new s by event new = ap (λ o. state_by_outcome o (state_with_entry s by event) s) new

-- the substitutes of new events are new, and their replay differs from that of the events only below the floors
replays_alike : (floors : ℕ → ℕ) (s t : State) (past others : List (ℕ × Event)) → DifferBelow floors s t → IsState s → AreFitting s past → AreNew s past → AreSubstitutes floors s past others
    → AreNew t others × DifferBelow floors (replayed_state s past) (replayed_state t others)
replays_alike floors s t [] [] differ state fits new same = (tt, differ)
replays_alike floors s t [] (y ∷ ys) differ state fits new same = absurd same
replays_alike floors s t (x ∷ xs) [] differ state fits new same = absurd same
replays_alike floors s t (x ∷ xs) (y ∷ ys) differ state fits new same =
    let here : outcome_of t y.1 ≡ New = new_alike s t x.1 y.1 state differ.config differ.log fits.0 (logged_alike floors s x.1 y.1 same.1) new.0 in
    let one : DifferBelow floors (state_with_entry s x.0 x.1) (state_with_entry t y.0 y.1) = step_alike floors s t x.0 y.0 x.1 y.1 differ state fits.0 new.0 same.0 same.1 in
    let next : DifferBelow floors (next_state s x.0 x.1) (next_state t y.0 y.1) =
    subst (λ (z : State). DifferBelow floors z (next_state t y.0 y.1)) (sym (next_new s x.0 x.1 new.0)) (subst (λ (z : State). DifferBelow floors (state_with_entry s x.0 x.1) z) (sym (next_new t y.0 y.1 here)) one) in
    let rest = replays_alike floors (next_state s x.0 x.1) (next_state t y.0 y.1) xs ys next (next_is_state s x.0 x.1 state fits.0) fits.1 new.1 same.2 in
    ((here, rest.0), rest.1)

-- kept bytes that agree from number 0 on are equal
same_held : (h k : HeldBytes) → AgreeFrom 0 h k → k ≡ h
same_held h k agree = λ i. record { head = agree.head i; units = agree.rest i }

-- two states that differ only below the floors are equal once each floor is reached
one_state : (floors : ℕ → ℕ) (s t : State) → DifferBelow floors s t → ((r : ℕ) → floors r ≤ (lane (channel s) r).floor) → t ≡ s
one_state floors s t differ low =
    let all : (r : ℕ) → held_bytes t r ≡ held_bytes s r = λ r.
    let none : floors r - (lane (channel s) r).floor ≡ 0 = omega (arith, low r) in
    same_held (held_bytes s r) (held_bytes t r) (subst (λ (n : ℕ). AgreeFrom n (held_bytes s r) (held_bytes t r)) none (differ.kept r)) in
    let bytes : t.bytes ≡ s.bytes = ext_get_or no_bytes t.bytes s.bytes differ.counts (λ r within. all r) in
    λ i. record { config = differ.config i; log = differ.log i; bytes = bytes i }

-- the substitutes of new events lead to the same state, if the floors are reached in the end
pub substitutes-replay-alike : SubstitutesReplayAlike
substitutes-replay-alike config floors past others configured fits new same low =
    let state : IsState (first_state config) = first_is_state config configured in
    let start : DifferBelow floors (first_state config) (first_state config) = record {
      config = refl;
      log = refl;
      counts = refl;
      kept = λ r. agree_with_itself (floors r - (lane (channel (first_state config)) r).floor) (held_bytes (first_state config) r);
    } in
    let both = replays_alike floors (first_state config) (first_state config) past others start state fits new same in
    (both.0, one_state floors (replayed_state (first_state config) past) (replayed_state (first_state config) others) both.1 low)

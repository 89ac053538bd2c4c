-- The floors that the records of trims name are reached in the end.
use Rattle.std.proofs.Common.{◌≡◌, ◌≢◌, ◌∙◌, ℕ, ◌+◌, ◌<◌, ◌≤◌, ◌==◌, Bool, true, false, cond, List, [], ◌∷◌, ◌++◌, length, refl, sym, ap, subst, inl, inr, arith}
use Rattle.std.specs.Prelude.{max, ◌&&◌, slice_get}
use Rattle.std.proofs.lemmas.Bool.{cases_Bool, cases_eq, eqb-true}
use Rattle.std.proofs.lemmas.Option.{slice_get_within}
use Rattle.hls_core_laws.specs.declared.event.Event.{Event}
use Rattle.hls_core_laws.specs.declared.event.Event.TheVariants.{Begin, Accept, Finish, Slide, Trim}
use Rattle.hls_core_laws.specs.Config.{ConfigData, IsConfig}
use Rattle.hls_core_laws.specs.Channel.{Channel, Lane, no_lane, lane, with_lane, with_begin, with_facts, with_finish, with_floor}
use Rattle.hls_core_laws.specs.State.{State, channel}
use Rattle.hls_core_laws.specs.IsState.{IsState}
use Rattle.hls_core_laws.specs.Outcome.{New, outcome_of}
use Rattle.hls_core_laws.specs.Moves.{state_with_entry, IsFitting}
use Rattle.hls_core_laws.specs.Runs.{first_state, state_by_outcome, next_state, replayed_state, AreFitting}
use Rattle.hls_core_laws.proofs.Callers.{at_or, may_add, channel_advanced, first_is_state, next_is_state}
use Rattle.hls_journal_laws.specs.Replays.{AreNew}
use Rattle.hls_journal_laws.proofs.Agreement.{lane_here, lane_else, floor_stays}
use Rattle.hls_journal_laws.specs.declared.stored_media.StoredMedia.{StoredMedia}
use Rattle.hls_journal_laws.specs.Bodies.{kind_in, rendition_in, number_in, IsAside}
use Rattle.hls_journal_laws.specs.Floors.{floor_in, highest_floor}
use Rattle.hls_journal_laws.specs.Written.{IsWritten, AreWritten}
use Rattle.hls_journal_laws.specs.Laws.{TrimmedFloorsAreReached}

-- the floor of a rendition in a state
floor_of : State → ℕ → ℕ
floor_of s r = (lane (channel s) r).floor

-- a trim that is new lowers no rendition's floor
trim_raises : (s : State) (q floor r : ℕ) → outcome_of s (Trim q floor) ≡ New → (lane (channel s) r).floor ≤ (lane (with_lane (channel s) q (with_floor floor (lane (channel s) q))) r).floor
trim_raises s q floor r new =
    let m = may_add s (Trim q floor) tt new in
    let within : q < length (channel s).lanes = slice_get_within (channel s).lanes q m.lane m.at in
    let is : lane (channel s) q ≡ m.lane = at_or (channel s).lanes q no_lane m.lane m.at in
    let rises : (lane (channel s) q).floor < floor = subst (λ (l : Lane). l.floor < floor) (sym is) m.rises in
    elim (cases_eq r q) [
      | inl here ↦
          (let to : (lane (with_lane (channel s) q (with_floor floor (lane (channel s) q))) r).floor ≡ floor =
          ap (λ k. (lane (with_lane (channel s) q (with_floor floor (lane (channel s) q))) k).floor) here ∙ ap (λ (l : Lane). l.floor) (lane_here (channel s) q (with_floor floor (lane (channel s) q)) within) in
          let from : (lane (channel s) r).floor ≡ (lane (channel s) q).floor = ap (λ k. (lane (channel s) k).floor) here in
          omega (arith, to, from, rises))
      | inr there ↦
          (let same : (lane (with_lane (channel s) q (with_floor floor (lane (channel s) q))) r).floor ≡ (lane (channel s) r).floor =
          ap (λ (l : Lane). l.floor) (lane_else (channel s) q r (with_floor floor (lane (channel s) q)) there) in
          omega (arith, same))
    ]

-- a number is at most one that is equal to it
stays_low : (a b : ℕ) → b ≡ a → a ≤ b
stays_low a b same = omega (arith, same)

-- an event that is new lowers no floor
event_raises : (s : State) (by : ℕ) (x : Event) (r : ℕ) → IsFitting s x → outcome_of s x ≡ New → floor_of s r ≤ floor_of (state_with_entry s by x) r
unfolding floor_of
event_raises s by (Begin q init bytes) r fits new =
    let b = may_add s (Begin q init bytes) fits new in
    let within : q < length (channel s).lanes = slice_get_within (channel s).lanes q b.lane b.at in
    stays_low (lane (channel s) r).floor (lane (channel (state_with_entry s by (Begin q init bytes))) r).floor
    (ap (λ (c : Channel). (lane c r).floor) (channel_advanced s by (Begin q init bytes)) ∙ floor_stays (channel s) q (with_begin init (length bytes) (lane (channel s) q)) within refl r)
event_raises s by (Accept q f bytes) r fits new =
    let a = may_add s (Accept q f bytes) fits new in
    let within : q < length (channel s).lanes = slice_get_within (channel s).lanes q a.lane a.at in
    stays_low (lane (channel s) r).floor (lane (channel (state_with_entry s by (Accept q f bytes))) r).floor
    (ap (λ (c : Channel). (lane c r).floor) (channel_advanced s by (Accept q f bytes)) ∙ floor_stays (channel s) q (with_facts f (lane (channel s) q)) within refl r)
event_raises s by (Finish q) r fits new =
    let f = may_add s (Finish q) tt new in
    let within : q < length (channel s).lanes = slice_get_within (channel s).lanes q f.lane f.at in
    stays_low (lane (channel s) r).floor (lane (channel (state_with_entry s by (Finish q))) r).floor
    (ap (λ (c : Channel). (lane c r).floor) (channel_advanced s by (Finish q)) ∙ floor_stays (channel s) q (with_finish (lane (channel s) q)) within refl r)
event_raises s by (Slide count) r fits new =
    stays_low (lane (channel s) r).floor (lane (channel (state_with_entry s by (Slide count))) r).floor (ap (λ (c : Channel). (lane c r).floor) (channel_advanced s by (Slide count)))
event_raises s by (Trim q floor) r fits new =
    subst (λ (c : Channel). (lane (channel s) r).floor ≤ (lane c r).floor) (sym (channel_advanced s by (Trim q floor))) (trim_raises s q floor r new)

-- after a trim that is new, the rendition's floor is that of the trim
trim_reaches : (s : State) (by q floor : ℕ) → outcome_of s (Trim q floor) ≡ New → floor_of (state_with_entry s by (Trim q floor)) q ≡ floor
unfolding floor_of
trim_reaches s by q floor new =
    let m = may_add s (Trim q floor) tt new in
    let within : q < length (channel s).lanes = slice_get_within (channel s).lanes q m.lane m.at in
    ap (λ (c : Channel). (lane c q).floor) (channel_advanced s by (Trim q floor)) ∙ ap (λ (l : Lane). l.floor) (lane_here (channel s) q (with_floor floor (lane (channel s) q)) within)

-- after a new event, the next state has its entry
next_new : (s : State) (by : ℕ) (event : Event) → outcome_of s event ≡ New → next_state s by event ≡ state_with_entry s by event
next_new s by event new = ap (λ o. state_by_outcome o (state_with_entry s by event) s) new

-- new events lower no floor
replay_raises : (s : State) (past : List (ℕ × Event)) (r : ℕ) → AreFitting s past → AreNew s past → floor_of s r ≤ floor_of (replayed_state s past) r
replay_raises s [] r fits new = omega arith
replay_raises s (e ∷ es) r fits new =
    let one : floor_of s r ≤ floor_of (next_state s e.0 e.1) r = subst (λ (z : State). floor_of s r ≤ floor_of z r) (sym (next_new s e.0 e.1 new.0)) (event_raises s e.0 e.1 r fits.0 new.0) in
    let rest = replay_raises (next_state s e.0 e.1) es r fits.1 new.1 in
    omega (arith, one, rest)

-- the floor that a record names for a rendition is at most a bound, if that holds when the record is a trim of it
floor_below : (body : List ℕ) (r most : ℕ) → (kind_in body ≡ 5 → rendition_in body ≡ r → number_in body ≤ most) → floor_in body r ≤ most
floor_below body r most low =
    elim (cases_Bool (length body == 12)) [
      | inr other ↦ rw other (omega arith)
      | inl long ↦ elim (cases_Bool (kind_in body == 5)) [
        | inr other ↦ rw (long, other) (omega arith)
        | inl kind ↦ elim (cases_Bool (rendition_in body == r)) [
          | inr other ↦ rw (long, kind, other) (omega arith)
          | inl same ↦ rw (long, kind, same) (low (eqb-true (kind_in body) 5 kind) (eqb-true (rendition_in body) r same))
        ]
      ]
    ]

-- a record of no event names no floor above a bound
aside_floor : (body : List ℕ) (r most : ℕ) → IsAside body → floor_in body r ≤ most
aside_floor body r most aside = floor_below body r most (λ kind same. absurd (omega (arith, kind, aside.0)))

-- the record of a new event names no floor above a bound, if the floor after the event isn't above it
written_floor : (s : State) (by : ℕ) (body : List ℕ) (x : Event) (r most : ℕ) → outcome_of s x ≡ New → IsWritten s body x → floor_of (state_with_entry s by x) r ≤ most → floor_in body r ≤ most
written_floor s by body (Begin q init bytes) r most new written low = floor_below body r most (λ kind same. absurd (omega (arith, kind, written.0)))
written_floor s by body (Accept q f bytes) r most new written low = floor_below body r most (λ kind same. absurd (omega (arith, kind, written.0)))
written_floor s by body (Finish q) r most new written low = floor_below body r most (λ kind same. absurd (omega (arith, kind, written.0)))
written_floor s by body (Slide count) r most new written low = floor_below body r most (λ kind same. absurd (omega (arith, kind, written.0)))
written_floor s by body (Trim q floor) r most new written low = floor_below body r most (λ kind same.
    let at : q ≡ r = sym written.1 ∙ same in
    let to : floor_of (state_with_entry s by (Trim q floor)) r ≡ floor = ap (λ k. floor_of (state_with_entry s by (Trim q floor)) k) (sym at) ∙ trim_reaches s by q floor new in
    omega (arith, to, low, written.2))

-- the greater of two numbers below a bound is below it
both_below : (a b most : ℕ) → a ≤ most → b ≤ most → max a b ≤ most
both_below a b most low other = omega (arith, low, other)

-- the highest floor that the records of new events name is at most the floor in the end
floors_reached : (floors : ℕ → ℕ) (media : List StoredMedia) (s : State) (bodies : List (List ℕ)) (past : List (ℕ × Event)) (r : ℕ) → AreFitting s past → AreNew s past → AreWritten floors media s bodies past
    → highest_floor bodies r ≤ floor_of (replayed_state s past) r
floors_reached floors media s [] [] r fits new written = omega arith
floors_reached floors media s [] (e ∷ es) r fits new written = absurd written
floors_reached floors media s (body ∷ bodies) [] r fits new written =
    both_below (floor_in body r) (highest_floor bodies r) (floor_of s r) (aside_floor body r (floor_of s r) written.0) (floors_reached floors media s bodies [] r fits new written.1)
floors_reached floors media s (body ∷ bodies) (e ∷ es) r fits new (inl skipped) =
    both_below (floor_in body r) (highest_floor bodies r) (floor_of (replayed_state s (e ∷ es)) r) (aside_floor body r (floor_of (replayed_state s (e ∷ es)) r) skipped.0)
    (floors_reached floors media s bodies (e ∷ es) r fits new skipped.1)
floors_reached floors media s (body ∷ bodies) (e ∷ es) r fits new (inr written) =
    let rest = floors_reached floors media (next_state s e.0 e.1) bodies es r fits.1 new.1 written.3 in
    let raised : floor_of (next_state s e.0 e.1) r ≤ floor_of (replayed_state s (e ∷ es)) r = replay_raises (next_state s e.0 e.1) es r fits.1 new.1 in
    let low : floor_of (state_with_entry s e.0 e.1) r ≤ floor_of (replayed_state s (e ∷ es)) r =
    subst (λ (z : State). floor_of z r ≤ floor_of (replayed_state s (e ∷ es)) r) (next_new s e.0 e.1 new.0) raised in
    both_below (floor_in body r) (highest_floor bodies r) (floor_of (replayed_state s (e ∷ es)) r) (written_floor s e.0 body e.1 r (floor_of (replayed_state s (e ∷ es)) r) new.0 written.1 low) rest

-- no record of what came trims a rendition above its floor in the end
pub trimmed-floors-are-reached : TrimmedFloorsAreReached
unfolding floor_of
trimmed-floors-are-reached config floors media bodies past configured fits new written r = floors_reached floors media (first_state config) bodies past r fits new written

-- The newest end of the renditions, and the presences of their encoders, one rendition at a time.
use Rattle.std.proofs.Common.{◌≡◌, ◌∙◌, ℕ, suc, ◌+◌, ◌<◌, ◌≤◌, Option, Some, None, true, false, List, [], ◌∷◌, ◌++◌, length, get_or, map, take, refl, sym, ap, arith}
use Rattle.std.specs.Prelude.{Bool, not, ◌-◌, ◌||◌, set}
use Rattle.std.proofs.Math.Nat.{le-max_left, le-max_right, max-eq_left, max-le}
use Rattle.std.specs.List.{range_with_len}
use Rattle.std.proofs.lemmas.{Bool.{lt-ltb, ltb-true, or_right}, List.{length-set, take_all, take_more_set}, List.Folds.list_all_at, List.Sums.list_all-from_AllPass}
use Rattle.std.proofs.lemmas.List.FromFn.{get_or-map-range_with_len, length-map-range_with_len, map-range_with_len_more}
use Rattle.hls_core_laws.specs.State.{State}
use Rattle.hls_mend_laws.specs.declared.presence.Presence.{Presence}
use Rattle.hls_api.specs.declared.encoder_readings.EncoderReadings.{EncoderReadings}
use Rattle.hls_media_laws.specs.declared.facts.Facts.{Facts}
use Rattle.hls_api.specs.Jumps.{AheadIsRead, AllJumpIsAccepted, LongUnitsAreAhead, OneClockIsRefused, ShortUnitsCountFromStart, channel_end, counted_start, end_of_other, is_accepted_by, is_ahead_by, is_ahead_in, is_unit_ahead, later, longest_us, newest_of_others, other_presences, presence_of, target_us}
use Rattle.hls_mend_laws.specs.Jumps.{Continues, allows_jump, is_accepted_jump}

-- zero renditions have no newest end
pub newest_zero : (s : State) (r : ℕ) → newest_of_others s r 0 ≡ None
unfolding newest_of_others
newest_zero s r = refl

-- the newest end of the first n + 1 renditions other than r is the later of that of the first n and the end of rendition n
pub newest_next : (s : State) (r n : ℕ) → newest_of_others s r (n + 1) ≡ later (newest_of_others s r n) (end_of_other s r n)
unfolding newest_of_others
newest_next s r n = let a : n + 1 ≡ suc n = omega arith in rw a refl

-- if the first n of 16 presences are right, and the next one is set to that of rendition n, the first n + 1 are right
pub presences_next : (s : State) (r : ℕ) (e : EncoderReadings) (ps : List Presence) (p : Presence) (n : ℕ) → p ≡ presence_of s r e n → n < 16
    → (length ps ≡ 16) × (take n ps ≡ map (presence_of s r e) (range_with_len 0 n))
    → (length (set ps n p) ≡ 16) × (take (n + 1) (set ps n p) ≡ map (presence_of s r e) (range_with_len 0 (n + 1)))
presences_next s r e ps p n is small (long, same) = (
  length-set ps n p ∙ long,
  take_more_set ps n p (omega (arith, small, long)) ∙ ap (λ (qs : List Presence). qs ++ p ∷ []) same
      ∙ ap (λ (q : Presence). map (presence_of s r e) (range_with_len 0 n) ++ q ∷ []) is
      ∙ sym (map-range_with_len_more (presence_of s r e) 0 n n (omega arith)),
)

-- 16 presences that are right are those of the other renditions
pub presences_done : (s : State) (r : ℕ) (e : EncoderReadings) (ps : List Presence) → length ps ≡ 16 → take 16 ps ≡ map (presence_of s r e) (range_with_len 0 16) → ps ≡ other_presences s r e
presences_done s r e ps long is = sym (take_all 16 ps (omega (arith, long))) ∙ is

-- ---- laws

-- the n-th of the other presences is that of rendition n
presence_at : (s : State) (r : ℕ) (e : EncoderReadings) (n : ℕ) (d : Presence) → n < 16 → get_or (other_presences s r e) n d ≡ presence_of s r e n
presence_at s r e n d small = get_or-map-range_with_len (presence_of s r e) 0 16 n n d small (omega arith)

-- while another rendition continues, a jump of rendition r isn't accepted
jump-refused : (s : State) (r n : ℕ) (e : EncoderReadings) → n < 16 → Continues e.wait_us e.now_us (presence_of s r e n) → is_accepted_by s r e ≡ false
unfolding is_accepted_jump
jump-refused s r n e small goes =
    let nobody : Presence = record { is_open = false; heard_us = 0; is_ahead = false } in
    let stays : allows_jump e.wait_us e.now_us (presence_of s r e n) ≡ false = rw (goes.begun, goes.in_place, goes.heard) refl in
    list_all_at (allows_jump e.wait_us e.now_us) (other_presences s r e) n nobody (omega (arith, small, length-map-range_with_len (presence_of s r e) 0 16))
    (ap (allows_jump e.wait_us e.now_us) (presence_at s r e n nobody small) ∙ stays)

-- if each of the 16 possible renditions allows the jump, one of rendition r is accepted
jump-accepted : (s : State) (r : ℕ) (e : EncoderReadings) → ((n : ℕ) → n < 16 → allows_jump e.wait_us e.now_us (presence_of s r e n) ≡ true) → is_accepted_by s r e ≡ true
unfolding is_accepted_jump
jump-accepted s r e each =
    list_all-from_AllPass (allows_jump e.wait_us e.now_us) (other_presences s r e)
    (λ k d small. let few : k < 16 = omega (arith, small, length-map-range_with_len (presence_of s r e) 0 16) in
    ap (allows_jump e.wait_us e.now_us) (presence_at s r e k d few) ∙ each k few)

-- while another rendition continues, a unit of rendition r that is ahead isn't accepted
pub one_clock_is_refused : OneClockIsRefused
one_clock_is_refused fill_us s r n f e ahead small goes =
    ap (λ (b : Bool). not b || is_accepted_by s r e) ahead ∙ jump-refused s r n e small goes

-- if each of the 16 possible renditions allows the jump, a unit of rendition r is accepted
pub all_jump_is_accepted : AllJumpIsAccepted
all_jump_is_accepted fill_us s r f e each = or_right (not (is_unit_ahead fill_us s r f e)) (is_accepted_by s r e) (jump-accepted s r e each)

-- a unit that doesn't last longer than the longest duration counts from its start
counted_short : (most_us : ℕ) (f : Facts) → f.end_us ≤ f.start_us + most_us → counted_start most_us f ≡ f.start_us
counted_short most_us f short = max-eq_left (omega (arith, short))

-- a unit that doesn't last longer than the longest duration is ahead by its start alone
pub short_units_count_from_start : ShortUnitsCountFromStart
short_units_count_from_start fill_us s r f e short = ap (is_ahead_in fill_us s r) (counted_short (longest_us s e) f short)

-- a unit that ends late enough is ahead of the channel's end
pub long_units_are_ahead : LongUnitsAreAhead
long_units_are_ahead fill_us s r end_us f e is late =
    ap (λ (o : Option ℕ). is_ahead_by fill_us o (counted_start (longest_us s e) f)) is
    ∙ lt-ltb (end_us + fill_us) (counted_start (longest_us s e) f) (omega (arith, late, le-max_right f.start_us (f.end_us - longest_us s e)))

-- what is ahead by a longer duration is ahead by a shorter one
earlier-ahead : (fill_us : ℕ) (o : Option ℕ) (a b : ℕ) → a ≤ b → is_ahead_by fill_us o a ≡ true → is_ahead_by fill_us o b ≡ true
earlier-ahead fill_us None a b le is = is
earlier-ahead fill_us (Some newest_us) a b le is =
    let after : newest_us + fill_us < a = ltb-true (newest_us + fill_us) a is in lt-ltb (newest_us + fill_us) b (omega (arith, le, after))

-- the more of a unit may count, the earlier it counts from
counted_longer : (f : Facts) (a b : ℕ) → a ≤ b → counted_start b f ≤ counted_start a f
counted_longer f a b le = max-le (le-max_left f.start_us (f.end_us - a)) (omega (arith, le, le-max_right f.start_us (f.end_us - a)))

-- a unit that is ahead may be ahead
pub ahead_is_read : AheadIsRead
ahead_is_read fill_us s r f e is =
    earlier-ahead fill_us (channel_end s r) (counted_start (longest_us s e) f) (counted_start (target_us s) f)
    (counted_longer f (target_us s) (longest_us s e) (le-max_left (target_us s) e.wait_us)) is

-- Where a time is in a line, and in the line of a state that follows.
use Rattle.std.proofs.Common.{◌≡◌, ◌∙◌, ◌⊎◌, ℕ, zero, suc, ◌+◌, ◌-◌, ◌<◌, ◌≤◌, Bool, true, false, cond, List, [], ◌∷◌, ◌++◌, length, drop, Some, arith, refl, sym, ap, inl, inr, leb, ltb, length-append, length-drop, append-nil}
use Rattle.std.specs.Prelude.{slice_get, ◌||◌, ◌&&◌}
use Rattle.std.proofs.lemmas.Bool.{cases_Bool, cond-true, leb-false, leb-true, lt-ltb, ltb-false, ltb-true, and_parts}
use Rattle.std.proofs.lemmas.List.{drop-append-le, drop-drop}
use Rattle.std.proofs.lemmas.Option.{slice_get_within}
use Rattle.hls_places_laws.specs.declared.line.live_segment.LiveSegment.{LiveSegment}
use Rattle.hls_places_laws.specs.FromPlace.{PlacesNeverGoBack}
use Rattle.hls_places_laws.specs.Line.FromCut.{LineFromCutAgrees}
use Rattle.hls_places_laws.specs.Line.Live.{Live, front_of, has_ended, segments_of}
use Rattle.hls_places_laws.specs.Line.LineBounds.{FrontIsAPlace}
use Rattle.hls_places_laws.specs.Order.{time_of}
use Rattle.hls_core_laws.specs.State.{State, channel}
use Rattle.hls_core_laws.specs.IsState.{IsState}
use Rattle.hls_core_laws.specs.Line.{line}
use Rattle.hls_core_laws.proofs.Callers.{at_drop}
use Rattle.hls_playlists_laws.proofs.Callers.{closed, removed-few}
use Rattle.hls_playlists.specs.declared.start_time.StartTime.TheVariants.{After, Before, Kept, Removed}
use Rattle.hls_playlists.specs.StartTimes.{count_started, ends_after, is_begun_by, is_ending_after, is_known, start_by, start_in}
use Rattle.hls_playlists.proofs.Starts.{starts-rise}

-- ---- how many segments started

-- no more segments started than there are
pub count-few : (us : ℕ) (xs : List LiveSegment) → count_started us xs ≤ length xs
count-few us [] = omega arith
count-few us (x ∷ xs) = by (leb (time_of x.from) us) (count-few us xs)
  where
    by : (b : Bool) → count_started us xs ≤ length xs → cond b (suc (count_started us xs)) 0 ≤ suc (length xs)
    by true rest = omega (arith, rest)
    by false rest = omega arith

-- if not all segments started, ones that are appended don't change how many did
count-append : (us : ℕ) (xs ys : List LiveSegment) → count_started us xs < length xs → count_started us (xs ++ ys) ≡ count_started us xs
count-append us [] ys less = absurd (omega (arith, less))
count-append us (x ∷ xs) ys less = by (leb (time_of x.from) us) (count-append us xs ys) less
  where
    by : (b : Bool) → (count_started us xs < length xs → count_started us (xs ++ ys) ≡ count_started us xs) → cond b (suc (count_started us xs)) 0 < suc (length xs)
        → cond b (suc (count_started us (xs ++ ys))) 0 ≡ cond b (suc (count_started us xs)) 0
    by true rest few = ap suc (rest (omega (arith, few)))
    by false rest few = refl

-- without the first e of the segments that started, e fewer started
count-drop : (us e : ℕ) (xs : List LiveSegment) → e ≤ count_started us xs → count_started us (drop e xs) ≡ count_started us xs - e
count-drop us zero xs few =
    let same : count_started us xs ≡ count_started us xs - 0 = omega arith in
    same
count-drop us (suc e) [] few = absurd (omega (arith, few))
count-drop us (suc e) (x ∷ xs) few = by (leb (time_of x.from) us) (count-drop us e xs) few
  where
    by : (b : Bool) → (e ≤ count_started us xs → count_started us (drop e xs) ≡ count_started us xs - e) → suc e ≤ cond b (suc (count_started us xs)) 0
        → count_started us (drop e xs) ≡ cond b (suc (count_started us xs)) 0 - suc e
    by true rest more = omega (arith, more, rest (omega (arith, more)))
    by false rest more = absurd (omega (arith, more))

-- segment n starts later than the time
record StartsLater (us : ℕ) (xs : List LiveSegment) (n : ℕ) : Type 0 where
  next : LiveSegment
  at : slice_get xs n ≡ Some next
  later : us < time_of next.from

-- if not all segments started, the one after those that did starts later
count-next : (us : ℕ) (xs : List LiveSegment) → count_started us xs < length xs → StartsLater us xs (count_started us xs)
count-next us [] less = absurd (omega (arith, less))
count-next us (x ∷ xs) less = by (leb (time_of x.from) us) refl (count-next us xs) less
  where
    by : (b : Bool) → leb (time_of x.from) us ≡ b → (count_started us xs < length xs → StartsLater us xs (count_started us xs))
        → cond b (suc (count_started us xs)) 0 < suc (length xs) → StartsLater us (x ∷ xs) (cond b (suc (count_started us xs)) 0)
    by true is rest few =
        let on = rest (omega (arith, few)) in
        record { next = on.next; at = on.at; later = on.later }
    by false is rest few = record { next = x; at = refl; later = leb-false (time_of x.from) us is }

-- if the first segment starts later, none started
count-none : (us : ℕ) (xs : List LiveSegment) → ((y : LiveSegment) → slice_get xs 0 ≡ Some y → us < time_of y.from) → count_started us xs ≡ 0
count-none us [] later = refl
count-none us (y ∷ rest) later = by (leb (time_of y.from) us) refl
  where
    by : (b : Bool) → leb (time_of y.from) us ≡ b → cond b (suc (count_started us rest)) 0 ≡ 0
    by true is = absurd (omega (arith, later y refl, leb-true (time_of y.from) us is))
    by false is = refl

-- ---- the start

-- segment n is the last one that started, and it is the one at the time
record IsKept (us : ℕ) (live : Live) (n : ℕ) : Type 0 where
  some : 0 < count_started us (segments_of live)
  known : is_known us live (count_started us (segments_of live)) ≡ true
  number : n + 1 ≡ count_started us (segments_of live)

-- if a time is in kept segment n, that is the last one that started, and it is the one at the time
is-kept : (us : ℕ) (live : Live) (n : ℕ) → start_in us live ≡ Kept n → IsKept us live n
is-kept us live n is =
    let count : ℕ = count_started us (segments_of live) in
    by (ltb 0 count) (is_known us live count) (ltb 0 live.removed) (is_begun_by us (front_of live)) refl refl is
  where
    by : (some known gone begun : Bool) → ltb 0 (count_started us (segments_of live)) ≡ some → is_known us live (count_started us (segments_of live)) ≡ known →
        cond some (cond known (Kept (count_started us (segments_of live) - 1)) After) (cond gone Removed (cond begun After Before)) ≡ Kept n → IsKept us live n
    by true true gone begun some known kept =
        let number : count_started us (segments_of live) - 1 ≡ n = cc in
        let any = ltb-true 0 (count_started us (segments_of live)) some in
        record { some = any; known = known; number = omega (arith, any, number) }
    by true false gone begun some known kept = absurd (cc)
    by false known true begun some is kept = absurd (cc)
    by false known false true some is kept = absurd (cc)
    by false known false false some is kept = absurd (cc)

-- if a time is in kept segment n, the line has more than n segments
pub kept-within : (us : ℕ) (s : State) (n : ℕ) → start_in us (line s) ≡ Kept n → n < length (segments_of (line s))
kept-within us s n is =
    let kept = is-kept us (line s) n is in
    omega (arith, kept.number, count-few us (segments_of (line s)))

-- a time is in kept segment n if that is the last one that started, and it is the one at the time
kept-is : (us : ℕ) (live : Live) (n : ℕ) → IsKept us live n → start_in us live ≡ Kept n
kept-is us live n kept =
    let count : ℕ = count_started us (segments_of live) in
    let number : count - 1 ≡ n = omega (arith, kept.number) in
    cond-true (ltb 0 count) _ _ (lt-ltb 0 count kept.some) ∙ (cond-true (is_known us live count) _ _ kept.known ∙ ap Kept number)

-- if no kept segment started and some were removed, the time is in a removed one
removed-is : (us : ℕ) (live : Live) → count_started us (segments_of live) ≡ 0 → 0 < live.removed → start_in us live ≡ Removed
removed-is us live none some =
    ap (start_by us live) none ∙ cond-true (ltb 0 live.removed) _ _ (lt-ltb 0 live.removed some)

-- ---- a line that continues

-- the second state's line continues the first's: segments are appended or removed from the front, and a line that ended stays so
pub record LineGoesOn (a b : State) : Type 0 where
  pub appended : List LiveSegment
  pub closed_is : closed b ≡ closed a ++ appended
  pub rises : (channel a).removed ≤ (channel b).removed
  pub ended : has_ended (line a) ≡ true → (has_ended (line b) ≡ true) × (appended ≡ [])

or-right : (x y : Bool) → (x || y) ≡ true → x ≡ false → y ≡ true
or-right true y is none = absurd (cc)
or-right false y is none = is

or-left : (x y : Bool) → x ≡ true → (x || y) ≡ true
or-left true y is = refl
or-left false y is = absurd (cc)

or-also : (x y : Bool) → y ≡ true → (x || y) ≡ true
or-also true y is = refl
or-also false y is = is

and-both : (x y : Bool) → x ≡ true → y ≡ true → (x && y) ≡ true
and-both true y left right = right
and-both false y left right = absurd (cc)

-- why the segment is known: another one follows, or the line has ended
abbrev IsFollowed : ℕ → Live → Type 0
IsFollowed us live =
    (count_started us (segments_of live) < length (segments_of live))
    ⊎ ((length (segments_of live) ≤ count_started us (segments_of live)) × (has_ended live ≡ true) × (ends_after us (segments_of live) ≡ true))

-- a segment that is known to be the one at the time is followed by another one, or the line ended after the time
is-followed : (us : ℕ) (live : Live) → is_known us live (count_started us (segments_of live)) ≡ true → IsFollowed us live
is-followed us live known =
    let count : ℕ = count_started us (segments_of live) in
    elim (cases_Bool (ltb count (length (segments_of live)))) [
      | inl less ↦ inl (ltb-true count (length (segments_of live)) less)
      | inr last ↦
          let parts = and_parts (has_ended live) (ends_after us (segments_of live)) (or-right (ltb count (length (segments_of live))) _ known last) in
          inr (ltb-false count (length (segments_of live)) last, parts.0, parts.1)
    ]

-- an item of a list is at the same index once others are appended
at-front : (xs ys : List LiveSegment) (k : ℕ) (x : LiveSegment) → slice_get xs k ≡ Some x → slice_get (xs ++ ys) k ≡ Some x
at-front [] ys k x at = absurd (cc)
at-front (z ∷ xs) ys zero x at = at
at-front (z ∷ xs) ys (suc k) x at = at-front xs ys k x at

-- the second line's segments are the first's and the appended ones, without those that were removed since
pub segments-on : (a b : State) → IsState a → (goes : LineGoesOn a b) →
    segments_of (line b) ≡ drop ((channel b).removed - (channel a).removed) (segments_of (line a) ++ goes.appended)
segments-on a b state goes =
    let ra : ℕ = (channel a).removed in
    let rb : ℕ = (channel b).removed in
    let number : ra + (rb - ra) ≡ rb = omega (arith, goes.rises) in
    ap (drop rb) goes.closed_is
    ∙ (ap (λ (k : ℕ). drop k (closed a ++ goes.appended)) (sym number)
    ∙ (sym (drop-drop (rb - ra) ra (closed a ++ goes.appended))
    ∙ ap (drop (rb - ra)) (drop-append-le ra (closed a) goes.appended (removed-few a state))))

-- once the line has ended, the later line has the same segments, without those that were removed since
ended-segments : (a b : State) → IsState a → (goes : LineGoesOn a b) → has_ended (line a) ≡ true →
    segments_of (line b) ≡ drop ((channel b).removed - (channel a).removed) (segments_of (line a))
ended-segments a b state goes over =
    segments-on a b state goes
    ∙ ap (λ (more : List LiveSegment). drop ((channel b).removed - (channel a).removed) (segments_of (line a) ++ more)) (goes.ended over).1
    ∙ ap (drop ((channel b).removed - (channel a).removed)) (append-nil (segments_of (line a)))

-- while the segment at a time is kept, it stays the one at the time
pub kept-on : (a b : State) (us n : ℕ) → IsState a → LineGoesOn a b → start_in us (line a) ≡ Kept n → (channel b).removed ≤ (channel a).removed + n →
    start_in us (line b) ≡ Kept ((channel a).removed + n - (channel b).removed)
kept-on a b us n state goes is few =
    let kept = is-kept us (line a) n is in
    let e : ℕ = (channel b).removed - (channel a).removed in
    let xs : List LiveSegment = segments_of (line a) in
    let ys : List LiveSegment = segments_of (line b) in
    kept-is us (line b) ((channel a).removed + n - (channel b).removed) (elim (is-followed us (line a) kept.known) [
      | inl less ↦
          let on = segments-on a b state goes in
          let same = count-append us xs goes.appended less in
          let count = count-drop us e (xs ++ goes.appended) (omega (arith, same, few, goes.rises, kept.number)) in
          let count_is : count_started us ys ≡ count_started us (xs ++ goes.appended) - e = ap (count_started us) on ∙ count in
          let long = ap length on in
          let left = length-drop e (xs ++ goes.appended) in
          let all = length-append xs goes.appended in
          record {
            some = omega (arith, count_is, same, few, goes.rises, kept.number);
            known = or-left (ltb (count_started us ys) (length ys)) _
                (lt-ltb (count_started us ys) (length ys) (omega (arith, count_is, same, long, left, all, less, few, goes.rises, kept.number)));
            number = omega (arith, count_is, same, few, goes.rises, kept.number);
          }
      | inr last ↦
          let on = ended-segments a b state goes last.1 in
          let count = count-drop us e xs (omega (arith, few, goes.rises, kept.number)) in
          let count_is : count_started us ys ≡ count_started us xs - e = ap (count_started us) on ∙ count in
          let long = ap length on in
          let left = length-drop e xs in
          let most = count-few us xs in
          let at : e + (length ys - 1) ≡ length xs - 1 = omega (arith, long, left, most, few, goes.rises, kept.number) in
          let end : slice_get ys (length ys - 1) ≡ slice_get xs (length xs - 1) =
          ap (λ (zs : List LiveSegment). slice_get zs (length ys - 1)) on ∙ (at_drop xs e (length ys - 1) ∙ ap (slice_get xs) at) in
          record {
            some = omega (arith, count_is, few, goes.rises, kept.number);
            known = or-also (ltb (count_started us ys) (length ys)) _
                (and-both (has_ended (line b)) (ends_after us ys) (goes.ended last.1).0 (ap (is_ending_after us) end ∙ last.2));
            number = omega (arith, count_is, few, goes.rises, kept.number);
          }
    ])

-- once the segment at a time was removed, the time is in a removed segment
pub gone-on : FrontIsAPlace → LineFromCutAgrees → PlacesNeverGoBack → (a b : State) (us n : ℕ) → IsState a → IsState b → LineGoesOn a b →
    start_in us (line a) ≡ Kept n → (channel a).removed + n < (channel b).removed → start_in us (line b) ≡ Removed
gone-on front_stands cuts_agree go_on a b us n state state_b goes is past =
    let kept = is-kept us (line a) n is in
    let ra : ℕ = (channel a).removed in
    let rb : ℕ = (channel b).removed in
    let xs : List LiveSegment = segments_of (line a) in
    let count : ℕ = count_started us xs in
    removed-is us (line b) (count-none us (segments_of (line b)) (λ y first.
    let here : slice_get (closed b) (rb + 0) ≡ Some y = sym (at_drop (closed b) rb 0) ∙ first in
    elim (is-followed us (line a) kept.known) [
      | inl less ↦
          let next = count-next us xs less in
          let there : slice_get (closed b) (ra + count) ≡ Some next.next =
          ap (λ (zs : List LiveSegment). slice_get zs (ra + count)) goes.closed_is
          ∙ at-front (closed a) goes.appended (ra + count) next.next (sym (at_drop (closed a) ra count) ∙ next.at) in
          let number : ra + count + (rb - (ra + count)) ≡ rb + 0 = omega (arith, past, kept.number) in
          let rises = starts-rise front_stands cuts_agree go_on b state_b (ra + count) (rb - (ra + count)) next.next y there (ap (slice_get (closed b)) number ∙ here) in
          omega (arith, next.later, rises)
      | inr last ↦
          let on = ended-segments a b state goes last.1 in
          let within = slice_get_within (segments_of (line b)) 0 y first in
          let long = ap length on in
          let left = length-drop (rb - ra) xs in
          absurd (omega (arith, within, long, left, past, kept.number, last.0))
    ])) (omega (arith, past))

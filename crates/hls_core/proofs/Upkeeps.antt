-- The upkeep of a state: which event it is, and that only a full log or an allocation failure refuses it.
use Rattle.std.proofs.Common.{◌≡◌, ℕ, ◌+◌, ◌-◌, ◌<◌, ◌≤◌, true, false, length, get_or, Option, None, Some, leb, ltb, arith, refl, sym, ap, subst, inl, inr, ◌∙◌}
use Rattle.std.specs.Prelude.{slice_get, slice_index, IfSome, IfNone}
use Rattle.std.proofs.lemmas.Bool.{cases_lt, and_parts, and_from, leb-true, le-leb, lt-leb, le-ltb, cond-false}
use Rattle.std.proofs.lemmas.Option.{same_Some}
use Rattle.hls_check_tables.specs.Tables.{spot_in}
use Rattle.hls_places_laws.specs.declared.place.Place.{Place}
use Rattle.hls_places_laws.specs.Order.{time_of}
use Rattle.hls_places_laws.specs.Programmes.{is_kept}
use Rattle.hls_places_laws.specs.Line.Live.{front_of, has_ended}
use Rattle.hls_places_laws.specs.Line.Upkeep.{IsMostSlide, is_old, IsTrimPlaceOf, IsSlide, IsTrim, Upkeep, Idle, Slides, Trims, IsUpkeep}
use Rattle.hls_core.proofs.Cited.{cut-once, front-stands, upkeep-slides, upkeep-trims, some_at, at_map, at_or, sources_count, ordered, floors-count}
use Rattle.hls_core_laws.specs.declared.event.Event.{Event}
use Rattle.hls_core_laws.specs.declared.event.Event.TheVariants.{Slide, Trim}
use Rattle.hls_core_laws.specs.Channel.{Lane}
use Rattle.hls_core_laws.specs.State.{State, channel}
use Rattle.hls_core_laws.specs.IsState.{IsState}
use Rattle.hls_core_laws.specs.Places.{sources, places, floors, floor_of}
use Rattle.hls_core_laws.specs.Line.{line_goal_of, line}
use Rattle.hls_core_laws.specs.Outcome.{new_or_full, slide, trim, trim_limit, outcome_of}
use Rattle.hls_core.specs.Upkeeps.{upkeep_view, event_of, IsUpkeepOf}
use Rattle.hls_core.specs.TrimPlaces.{IsOldUntil, NoneOld, IsTrimPlaceAt, HasNoTrimPlace, ReachedBefore, IsFirstBelow}
use Rattle.hls_core.specs.KeptPlaces.{IsLastKeptBy, NoKeptBy}
use Rattle.hls_core.proofs.KeptPlaces.{one-more}

-- an old place isn't after the front place, and is at least `keep` microseconds before the last one
old-parts : (keep : ℕ) (front last p : Place) → is_old keep front last p ≡ true → (time_of p ≤ time_of front) × (time_of p + keep ≤ time_of last)
old-parts keep front last p is =
    let parts = and_parts (leb (time_of p) (time_of front)) (leb (time_of p + keep) (time_of last)) is in
    (leb-true (time_of p) (time_of front) parts.0, leb-true (time_of p + keep) (time_of last) parts.1)

-- a place is old if it isn't after the front place and is at least `keep` microseconds before the last one
old-of : (keep : ℕ) (front last p : Place) → time_of p ≤ time_of front → time_of p + keep ≤ time_of last → is_old keep front last p ≡ true
old-of keep front last p early by =
    and_from (leb (time_of p) (time_of front)) (leb (time_of p + keep) (time_of last)) (le-leb _ _ early) (le-leb _ _ by)

-- places are old until the last time that isn't after the front place and is at least `keep` microseconds before the last place
pub old-until : (s : State) (keep time : ℕ) (front last : Place) → front_of (line s) ≡ Some front →
    slice_get (places s) (length (places s) - 1) ≡ Some last → time ≤ time_of front → time + keep ≤ time_of last →
    ((t : ℕ) → t ≤ time_of front → t + keep ≤ time_of last → t ≤ time) → IsOldUntil s keep time
old-until s keep time front last front_is last_is early by most = record {
  front = front;
  front_is = front_is;
  last = last;
  last_is = last_is;
  before_front = early;
  before_last = by;
  most = λ p old. let parts = old-parts keep front last p old in most (time_of p) parts.0 parts.1;
}

-- without a front place no place is old
pub none-front : (s : State) (keep : ℕ) → front_of (line s) ≡ None → NoneOld s keep
none-front s keep none front last p is last_is old =
    let never : None ≡ Some front = sym none ∙ is in
    absurd (cc)

-- without a last place no place is old
pub none-last : (s : State) (keep : ℕ) → slice_get (places s) (length (places s) - 1) ≡ None → NoneOld s keep
none-last s keep none front last p is last_is old =
    let never : None ≡ Some last = sym none ∙ last_is in
    absurd (cc)

-- if the last place is less than `keep` microseconds after time 0, no place is old
pub none-long : (s : State) (keep : ℕ) (end : Place) → slice_get (places s) (length (places s) - 1) ≡ Some end → time_of end < keep → NoneOld s keep
none-long s keep end there short front last p is last_is old =
    let same : end ≡ last = same_Some end last (sym there ∙ last_is) in
    absurd (omega (arith, short, ap time_of same, (old-parts keep front last p old).1))

-- the trim place is old
old-in : (s : State) (keep time window : ℕ) (cut : Place) (until : IsOldUntil s keep time) (is : IsTrimPlaceOf (upkeep_view s window keep) cut) → is_old keep until.front until.last cut ≡ true
old-in s keep time window cut until is =
    let front : is.front ≡ until.front = same_Some is.front until.front (sym is.front_is ∙ until.front_is) in
    let last : is.last ≡ until.last = same_Some is.last until.last (sym is.last_is ∙ until.last_is) in
    subst (λ (l : Place). is_old keep until.front l cut ≡ true) last
    (subst (λ (f : Place). is_old keep f is.last cut ≡ true) front is.old)

-- if no place is old, there is no trim place
pub no-cut-old : (s : State) (keep : ℕ) → NoneOld s keep → HasNoTrimPlace s keep
no-cut-old s keep none window cut is = none is.front is.last cut is.front_is is.last_is is.old

-- if no kept place is at or before the time until which places are old, there is no trim place
pub no-cut : (s : State) (keep time : ℕ) → IsOldUntil s keep time → NoKeptBy s time → HasNoTrimPlace s keep
no-cut s keep time until none window cut is =
    absurd (omega (arith, until.most cut (old-in s keep time window cut until is), none is.number cut is.there is.kept))

-- the last kept place by the time until which places are old is the trim place
pub cut-is : (s : State) (keep time n : ℕ) (p : Place) → IsOldUntil s keep time → IsLastKeptBy s time n → slice_get (places s) n ≡ Some p → IsTrimPlaceAt s keep p
cut-is s keep time n p until last at window =
    let early : time_of p ≤ time = last.by.early n p (omega arith) at in
    let same : last.place ≡ p = same_Some last.place p (sym last.there ∙ at) in
    record {
      front = until.front;
      front_is = until.front_is;
      last = until.last;
      last_is = until.last_is;
      number = n;
      there = at;
      kept = subst (λ (x : Place). is_kept (floors s) x ≡ true) same last.kept;
      old = old-of keep until.front until.last p (omega (arith, early, until.before_front)) (omega (arith, early, until.before_last));
      latest = λ k q q-at q-kept old.
          elim (cases_lt n k) [
            | inl later ↦ absurd (omega (arith, until.most q old, last.by.late k q (omega (arith, later)) q-at))
            | inr earlier ↦ omega (arith, earlier)
          ];
    }

-- once the line has ended, nothing is due
pub ended-idle : (s : State) (window keep : ℕ) → has_ended (line s) ≡ true → IsUpkeepOf s window keep None
ended-idle s window keep over = record {
  upkeep = Idle;
  is = (
    λ n slide. let never : true ≡ false = sym over ∙ slide.not_ended in absurd (cc),
    λ r floor trim. let never : true ≡ false = sym over ∙ trim.not_ended in absurd (cc),
  );
  event_is = refl;
}

-- if the line hasn't ended and may slide, a slide by the greatest number of segments is due
pub slides-on : (s : State) (window keep count : ℕ) → has_ended (line s) ≡ false → IsMostSlide (line s) window count → 0 < count →
    IsSlide (upkeep_view s window keep) count
slides-on s window keep count on most some = record { not_ended = on; some = some; most = most }

-- if no segment may be removed, no slide is due
no-slide : (s : State) (window keep n : ℕ) → IsMostSlide (line s) window 0 → IsSlide (upkeep_view s window keep) n → ⊥
no-slide s window keep n most slide =
    let few = most.most n (slide.most.leaves slide.some) in
    absurd (omega (arith, few, slide.some))

-- if no segment may be removed and there is no trim place, nothing is due
pub uncut-idle : (s : State) (window keep : ℕ) → IsMostSlide (line s) window 0 → HasNoTrimPlace s keep → IsUpkeepOf s window keep None
uncut-idle s window keep most none = record {
  upkeep = Idle;
  is = (λ n slide. no-slide s window keep n most slide, λ r floor trim. none window trim.cut trim.cut_is);
  event_is = refl;
}

-- if no segment may be removed and no floor is below the trim place, nothing is due
pub trimmed-idle : (s : State) (window keep : ℕ) (cut : Place) → IsMostSlide (line s) window 0 → IsTrimPlaceAt s keep cut →
    ReachedBefore s cut (length (floors s)) → IsUpkeepOf s window keep None
trimmed-idle s window keep cut most is reached = record {
  upkeep = Idle;
  is = (
    λ n slide. no-slide s window keep n most slide,
    λ r floor trim.
        let same : trim.cut ≡ cut = cut-once (upkeep_view s window keep) trim.cut cut trim.cut_is (is window) in
        absurd (omega (
          arith,
          trim.floor_is,
          trim.below,
          reached r trim.within,
          ap (λ (p : Place). (spot_in p.spots r).fragment) same,
        )),
  );
  event_is = refl;
}

-- if no segment may be removed, the first rendition whose floor is below the trim place is due to be trimmed to it
pub trims-to : (s : State) (window keep : ℕ) (cut : Place) (event : Event) → has_ended (line s) ≡ false → IsMostSlide (line s) window 0 →
    IsTrimPlaceAt s keep cut → (below : IsFirstBelow s cut event) → IsTrim (upkeep_view s window keep) below.rendition below.floor
trims-to s window keep cut event on most is below = record {
  not_ended = on;
  stays = most;
  cut = cut;
  cut_is = is window;
  within = below.within;
  floor_is = below.floor_is;
  below = below.below;
  others = below.before;
}

-- a slide that is due is New unless the log is full
pub slide-accepted : (s : State) (window keep count : ℕ) → IsSlide (upkeep_view s window keep) count → outcome_of s (Slide count) ≡ new_or_full (length s.log)
slide-accepted s window keep count is = ap (λ may. slide may (length s.log)) (upkeep-slides (upkeep_view s window keep) count is)

-- a trim that raises a floor, and not above the front place, is New unless the log is full
trim-passed : (s : State) (r floor : ℕ) (l : Lane) (o : Option Place) (front : Place) → slice_get (channel s).lanes r ≡ Some l → o ≡ Some front → l.floor < floor →
    floor ≤ (spot_in front.spots r).fragment → trim (slice_get (channel s).lanes r) (trim_limit o r) floor (length s.log) ≡ new_or_full (length s.log)
trim-passed s r floor l o front at is rises within =
    ap (λ (x : Option Lane). trim x (trim_limit o r) floor (length s.log)) at
    ∙ (ap (λ (x : Option Place). trim (Some l) (trim_limit x r) floor (length s.log)) is
    ∙ (cond-false (leb floor l.floor) _ _ (lt-leb floor l.floor rises)
    ∙ cond-false (ltb (spot_in front.spots r).fragment floor) _ _ (le-ltb (spot_in front.spots r).fragment floor within)))

-- a trim that is due is New unless the log is full
pub trim-accepted : (s : State) → IsState s → (window keep r floor : ℕ) → IsTrim (upkeep_view s window keep) r floor →
    outcome_of s (Trim r floor) ≡ new_or_full (length s.log)
trim-accepted s state window keep r floor is =
    let raises = upkeep-trims (upkeep_view s window keep) (length (sources s)) r floor (ordered s state) (floors-count s)
    (λ p front_is. front-stands (line_goal_of s.config) (places s) (channel s).removed p front_is) is in
    let l = some_at (channel s).lanes r (omega (arith, is.within, floors-count s, sources_count s)) in
    let old : get_or (floors s) r 0 ≡ l.0.floor = at_or (floors s) r 0 l.0.floor (at_map floor_of (channel s).lanes r l.0 l.1) in
    trim-passed s r floor l.0 (front_of (line s)) raises.front l.1 raises.front_is (omega (arith, raises.rises, old)) raises.stays

-- if no floor before rendition r, nor that of r, is below a place, no floor before r + 1 is
pub reached-more : (s : State) (p : Place) (r : ℕ) → ReachedBefore s p r → (spot_in p.spots r).fragment ≤ slice_index (floors s) r → ReachedBefore s p (r + 1)
reached-more s p r before here =
    one-more (λ k. (spot_in p.spots k).fragment ≤ slice_index (floors s) k) r before here

-- if no segment may be removed, what a search for a rendition to trim finds is the upkeep: its trim, or nothing
pub trimmed-by : (s : State) (window keep : ℕ) (cut : Place) (found : Option Event) → has_ended (line s) ≡ false → IsMostSlide (line s) window 0 → IsTrimPlaceAt s keep cut →
    IfSome found (IsFirstBelow s cut) → IfNone found (ReachedBefore s cut (length (floors s))) → IsUpkeepOf s window keep found
trimmed-by s window keep cut None on most is some none = trimmed-idle s window keep cut most is none
trimmed-by s window keep cut (Some event) on most is below none = record {
  upkeep = Trims below.rendition below.floor;
  is = trims-to s window keep cut event on most is below;
  event_is = ap (λ (e : Event). Some e) below.is;
}

-- the event of an upkeep that is due is New unless the log is full
accepted-as : (s : State) → IsState s → (window keep : ℕ) (upkeep : Upkeep) → IsUpkeep (upkeep_view s window keep) upkeep →
    IfSome (event_of upkeep) (λ event. outcome_of s event ≡ new_or_full (length s.log))
accepted-as s state window keep Idle is = tt
accepted-as s state window keep (Slides count) is = slide-accepted s window keep count is
accepted-as s state window keep (Trims r floor) is = trim-accepted s state window keep r floor is

-- the event that was found as a state's upkeep is New unless the log is full
pub upkeep-accepted : (s : State) → IsState s → (window keep : ℕ) (found : Option Event) → IsUpkeepOf s window keep found →
    IfSome found (λ event. outcome_of s event ≡ new_or_full (length s.log))
upkeep-accepted s state window keep found is =
    subst (λ (o : Option Event). IfSome o (λ event. outcome_of s event ≡ new_or_full (length s.log))) (sym is.event_is) (accepted-as s state window keep is.upkeep is.is)

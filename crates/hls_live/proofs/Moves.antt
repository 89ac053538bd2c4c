-- The effect of one place on a line, by the cases of the code.
use Rattle.std.proofs.Common.{◌≡◌, ℕ, Bool, true, false, not, List, Option, None, Some, refl, sym, ap, inl, inr, ◌∙◌}
use Rattle.std.specs.Prelude.{◌&&◌}
use Rattle.std.proofs.lemmas.Bool.{cases_Bool, cond-true, cond-false}
use Rattle.hls_places_laws.specs.declared.place.Place.{Place}
use Rattle.hls_places_laws.specs.declared.line.goal.LineGoal.{LineGoal}
use Rattle.hls_places_laws.specs.declared.line.live_segment.LiveSegment.{LiveSegment}
use Rattle.hls_places_laws.specs.declared.line.segment_start.SegmentStart.{SegmentStart}
use Rattle.hls_places_laws.specs.Line.Steps.{is_later_place, is_allowed, is_long_enough}
use Rattle.hls_places_laws.specs.Line.Cuts.{start_at, restart_at}
use Rattle.hls_places_laws.specs.Line.Progress.{LineProgress, progress_with, closed_with, progress_to, progress_restarted_at, progress_from}
use Rattle.hls_places_laws.specs.Line.Live.{Live, live_after}
use Rattle.hls_live.proofs.Cited.{tried-skipped, tried-far, tried-enough, tried-further, stopped-restarted, advanced-first}
use Rattle.hls_live.specs.declared.place_fit.PlaceFit.{PlaceFit}
use Rattle.hls_live.specs.declared.place_fit.PlaceFit.TheVariants.{Skipped, TooFar, Reachable, LongEnough}
use Rattle.hls_live.specs.PlaceFit.{fit_of}
use Rattle.hls_live.specs.Advances.{advance_from, advance_once, with_progress}

-- the class of place q says whether it is later than the open place, whether a segment may span to it, and whether that is long enough
pub record IsReach (line_goal : LineGoal) (o q : Place) (reach : PlaceFit) : Type 0 where
  pub skipped : reach ≡ Skipped → is_later_place o q ≡ false
  pub past : (reach ≡ Skipped → ⊥) → is_later_place o q ≡ true
  pub far : reach ≡ TooFar → is_allowed line_goal o q ≡ false
  pub further : reach ≡ Reachable → (is_allowed line_goal o q ≡ true) × (is_long_enough line_goal o q ≡ false)
  pub enough : reach ≡ LongEnough → (is_allowed line_goal o q ≡ true) × (is_long_enough line_goal o q ≡ true)

-- the computed class of a place has its meaning
pub reach-is : (line_goal : LineGoal) (o q : Place) → IsReach line_goal o q (fit_of line_goal o q)
reach-is line_goal o q =
    elim (cases_Bool (is_later_place o q)) [
      | inr skipped ↦
          let is : fit_of line_goal o q ≡ Skipped = cond-false (is_later_place o q) _ _ skipped in
          rw is (record {
            skipped = λ e. skipped;
            past = λ e. absurd (e refl);
            far = λ e. absurd (cc);
            further = λ e. absurd (cc);
            enough = λ e. absurd (cc);
          })
      | inl past ↦ elim (cases_Bool (is_allowed line_goal o q)) [
        | inr far ↦
            let is : fit_of line_goal o q ≡ TooFar = cond-true (is_later_place o q) _ _ past ∙ cond-false (is_allowed line_goal o q) _ _ far in
            rw is (record {
              skipped = λ e. absurd (cc);
              past = λ e. past;
              far = λ e. far;
              further = λ e. absurd (cc);
              enough = λ e. absurd (cc);
            })
        | inl allowed ↦ elim (cases_Bool (is_long_enough line_goal o q)) [
          | inl enough ↦
              let is : fit_of line_goal o q ≡ LongEnough =
              cond-true (is_later_place o q) _ _ past ∙ (cond-true (is_allowed line_goal o q) _ _ allowed ∙ cond-true (is_long_enough line_goal o q) _ _ enough) in
              rw is (record {
                skipped = λ e. absurd (cc);
                past = λ e. past;
                far = λ e. absurd (cc);
                further = λ e. absurd (cc);
                enough = λ e. (allowed, enough);
              })
          | inr further ↦
              let is : fit_of line_goal o q ≡ Reachable =
              cond-true (is_later_place o q) _ _ past ∙ (cond-true (is_allowed line_goal o q) _ _ allowed ∙ cond-false (is_long_enough line_goal o q) _ _ further) in
              rw is (record {
                skipped = λ e. absurd (cc);
                past = λ e. past;
                far = λ e. absurd (cc);
                further = λ e. (allowed, further);
                enough = λ e. absurd (cc);
              })
        ]
      ]
    ]

-- a place that is added once to a line with an open place is tried, and restarts the line if it is out of reach
open-progress : (live : Live) (o : SegmentStart) (q : Place) → live.progress.line.segment_start ≡ Some o →
    advance_once live q ≡ progress_to live.line_goal live.removed live.progress.line.segments o live.progress.best q
    (progress_with live.progress.line.segments (restart_at q) None)
open-progress live o q at =
    ap (λ (x : Option SegmentStart). advance_from live.line_goal live.removed live.progress.line.segments x live.progress.best q) at

-- the first place of all becomes the open place
pub progress-first : (live : Live) (q : Place) → live.progress.line.segment_start ≡ None →
    with_progress live (advance_once live q) ≡ with_progress live (progress_with live.progress.line.segments (start_at q) None)
progress-first live q at =
    ap (λ (x : Option SegmentStart). with_progress live (advance_from live.line_goal live.removed live.progress.line.segments x live.progress.best q)) at

-- a place that isn't later than the open one leaves the line as it is
pub progress-skipped : (live : Live) (o : SegmentStart) (q : Place) → live.progress.line.segment_start ≡ Some o → is_later_place o.place q ≡ false →
    with_progress live (advance_once live q) ≡ live
progress-skipped live o q at past =
    ap (with_progress live) (open-progress live o q at
    ∙ (tried-skipped live.line_goal live.removed live.progress.line.segments o live.progress.best q _ past
    ∙ ap (λ (x : Option SegmentStart). record { line = record { segments = live.progress.line.segments; segment_start = x }; best = live.progress.best }) (sym at)))

-- a later place to which no segment may span restarts the line
pub progress-far : (live : Live) (o : SegmentStart) (q : Place) → live.progress.line.segment_start ≡ Some o → is_later_place o.place q ≡ true →
    is_allowed live.line_goal o.place q ≡ false →
    with_progress live (advance_once live q) ≡ with_progress live (progress_with live.progress.line.segments (restart_at q) None)
progress-far live o q at past far =
    ap (with_progress live) (open-progress live o q at
    ∙ tried-far live.line_goal live.removed live.progress.line.segments o live.progress.best q _ past far)

-- a later place within reach where the segment is too short becomes the best place
pub progress-further : (live : Live) (o : SegmentStart) (q : Place) → live.progress.line.segment_start ≡ Some o → is_later_place o.place q ≡ true →
    is_allowed live.line_goal o.place q ≡ true → is_long_enough live.line_goal o.place q ≡ false →
    with_progress live (advance_once live q) ≡ with_progress live (progress_with live.progress.line.segments o (Some q))
progress-further live o q at past allowed further =
    ap (with_progress live) (open-progress live o q at
    ∙ tried-further live.line_goal live.removed live.progress.line.segments o live.progress.best q _ past allowed further)

-- a later place within reach where the segment is long enough closes it
pub progress-enough : (live : Live) (o : SegmentStart) (q : Place) → live.progress.line.segment_start ≡ Some o → is_later_place o.place q ≡ true →
    is_allowed live.line_goal o.place q ≡ true → is_long_enough live.line_goal o.place q ≡ true →
    with_progress live (advance_once live q)
    ≡ with_progress live (progress_with (closed_with live.removed live.progress.line.segments o q) (start_at q) None)
progress-enough live o q at past allowed enough =
    ap (with_progress live) (open-progress live o q at
    ∙ tried-enough live.line_goal live.removed live.progress.line.segments o live.progress.best q _ past allowed enough)

-- the live line after a place is the line with the progress after that place
moves-as : (live : Live) (segment_start : Option SegmentStart) (best : Option Place) (q : Place) → live.progress.line.segment_start ≡ segment_start →
    live.progress.best ≡ best →
    live_after live q ≡ with_progress live (progress_from live.line_goal live.removed live.progress.line.segments segment_start best q)
moves-as live segment_start best q at best_is =
    ap (λ (x : Option SegmentStart). with_progress live (progress_from live.line_goal live.removed live.progress.line.segments x live.progress.best q)) at
    ∙ ap (λ (x : Option Place). with_progress live (progress_from live.line_goal live.removed live.progress.line.segments segment_start x q)) best_is

-- adding the first place of all once is adding it
pub moved-first : (live : Live) (q : Place) → live.progress.line.segment_start ≡ None → live.progress.best ≡ None →
    with_progress live (advance_once live q) ≡ live_after live q
moved-first live q at none =
    progress-first live q at
    ∙ sym (moves-as live None None q at none
    ∙ ap (with_progress live) (advanced-first live.line_goal live.removed live.progress.line.segments None q))

-- adding a place to a line with an open place tries it; if it is out of reach, it is tried again from the best place, or restarts the line
moved-open : (live : Live) (o : SegmentStart) (best : Option Place) (q : Place) → live.progress.line.segment_start ≡ Some o → live.progress.best ≡ best →
    live_after live q ≡ with_progress live (progress_to live.line_goal live.removed live.progress.line.segments o best q
    (progress_restarted_at live.line_goal live.removed live.progress.line.segments o best q))
unfolding progress_from
moved-open live o best q at best_is = moves-as live (Some o) best q at best_is

-- without a best place, adding a place once is adding it
pub moved-unbested : (live : Live) (o : SegmentStart) (q : Place) → live.progress.line.segment_start ≡ Some o → live.progress.best ≡ None →
    with_progress live (advance_once live q) ≡ live_after live q
moved-unbested live o q at none =
    ap (with_progress live) (open-progress live o q at
    ∙ (ap (λ (x : Option Place). progress_to live.line_goal live.removed live.progress.line.segments o x q (progress_with live.progress.line.segments (restart_at q) None)) none
    ∙ ap (progress_to live.line_goal live.removed live.progress.line.segments o None q) (sym (stopped-restarted live.line_goal live.removed live.progress.line.segments o q))))
    ∙ sym (moved-open live o None q at none)

-- if a place isn't out of reach, the result for such a place doesn't matter
same-stopped : (line_goal : LineGoal) (removed : ℕ) (segments : List LiveSegment) (o : SegmentStart) (best : Option Place) (q : Place) (s t : LineProgress) →
    (is_later_place o.place q && not (is_allowed line_goal o.place q)) ≡ false →
    progress_to line_goal removed segments o best q s ≡ progress_to line_goal removed segments o best q t
same-stopped line_goal removed segments o best q s t near =
    elim (cases_Bool (is_later_place o.place q)) [
      | inr skipped ↦
          tried-skipped line_goal removed segments o best q s skipped ∙ sym (tried-skipped line_goal removed segments o best q t skipped)
      | inl past ↦ elim (cases_Bool (is_allowed line_goal o.place q)) [
        | inr far ↦
            let never : true ≡ false = sym (ap (λ (b : Bool). b && not (is_allowed line_goal o.place q)) past ∙ ap (λ (b : Bool). true && not b) far) ∙ near in
            absurd (cc)
        | inl allowed ↦ elim (cases_Bool (is_long_enough line_goal o.place q)) [
          | inl enough ↦
              tried-enough line_goal removed segments o best q s past allowed enough ∙ sym (tried-enough line_goal removed segments o best q t past allowed enough)
          | inr further ↦
              tried-further line_goal removed segments o best q s past allowed further ∙ sym (tried-further line_goal removed segments o best q t past allowed further)
        ]
      ]
    ]

-- a place that isn't out of reach is added by trying it once
pub moved-near : (live : Live) (o : SegmentStart) (q : Place) → live.progress.line.segment_start ≡ Some o →
    (is_later_place o.place q && not (is_allowed live.line_goal o.place q)) ≡ false → with_progress live (advance_once live q) ≡ live_after live q
moved-near live o q at near =
    ap (with_progress live) (open-progress live o q at
    ∙ same-stopped live.line_goal live.removed live.progress.line.segments o live.progress.best q _ _ near)
    ∙ sym (moved-open live o live.progress.best q at refl)

-- the live line after its open segment was closed at the best place b
abbrev pub closed_to : Live → SegmentStart → Place → Live
closed_to live o b = with_progress live (progress_with (closed_with live.removed live.progress.line.segments o b) (start_at b) None)

-- a place that is out of reach is later, and no segment may span to it
far-parts : (a b : Bool) → (a && not b) ≡ true → (a ≡ true) × (b ≡ false)
far-parts true false is = (refl, refl)
far-parts true true is = absurd (cc)
far-parts false b is = absurd (cc)

-- a place that is out of reach is added by closing the segment at the best place, and then adding the place once
pub moved-twice : (live : Live) (o : SegmentStart) (b q : Place) → live.progress.line.segment_start ≡ Some o → live.progress.best ≡ Some b →
    (is_later_place o.place q && not (is_allowed live.line_goal o.place q)) ≡ true →
    with_progress (closed_to live o b) (advance_once (closed_to live o b) q) ≡ live_after live q
unfolding progress_restarted_at
moved-twice live o b q at best_is far =
    let parts = far-parts (is_later_place o.place q) (is_allowed live.line_goal o.place q) far in
    sym (moved-open live o (Some b) q at best_is
    ∙ ap (with_progress live) (tried-far live.line_goal live.removed live.progress.line.segments o (Some b) q _ parts.0 parts.1))

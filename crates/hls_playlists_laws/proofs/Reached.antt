-- A live line's segments: both ends are places of the line, and a segment may reach from the one to the other.
use Rattle.std.proofs.Common.{◌≡◌, ℕ, ◌<◌, true, List, [], ◌∷◌, length, Option, None, Some, arith, refl, sym, subst, ◌∙◌, All}
use Rattle.std.proofs.lemmas.Bool.{cond_both}
use Rattle.std.proofs.lemmas.List.Elements.{All-nil, All-head, All-tail}
use Rattle.hls_places_laws.specs.declared.place.Place.{Place}
use Rattle.hls_playlists_laws.proofs.Cited.{all-snoc, progress-none, progress-more, whole-is_told}
use Rattle.hls_places_laws.specs.declared.line.goal.LineGoal.{LineGoal}
use Rattle.hls_places_laws.specs.declared.line.live_segment.LiveSegment.{LiveSegment}
use Rattle.hls_places_laws.specs.declared.line.segment_start.SegmentStart.{SegmentStart}
use Rattle.hls_places_laws.specs.Line.Steps.{is_later_place, is_allowed, is_long_enough}
use Rattle.hls_places_laws.specs.Line.Cuts.{start_at, restart_at, segment_to, line_of}
use Rattle.hls_places_laws.specs.Line.Progress.{LineProgress, no_progress, progress_with, has_earlier, closed_with, progress_to, progress_restarted_at, progress_from, progress_after, advanced_through}
use Rattle.hls_places_laws.specs.Line.Live.{full_progress}

-- P holds for both ends of a segment, and the segment is allowed
pub record IsReached (P : Place → Type 0) (line_goal : LineGoal) (x : LiveSegment) : Type 0 where
  pub from : P x.from
  pub to : P x.to
  pub allowed : is_allowed line_goal x.from x.to ≡ true

-- P holds for a best place, and a segment from the open place to it is allowed
record IsBest (P : Place → Type 0) (line_goal : LineGoal) (segment_start : Option SegmentStart) (b : Place) : Type 0 where
  o : SegmentStart
  open_is : segment_start ≡ Some o
  here : P b
  allowed : is_allowed line_goal o.place b ≡ true

-- P holds for each segment's ends, the open place and the best place; each segment is allowed, and so is one to the best place
pub record AreReached (P : Place → Type 0) (line_goal : LineGoal) (t : LineProgress) : Type 0 where
  pub segments : All (IsReached P line_goal) t.line.segments
  pub segment_start : (o : SegmentStart) → t.line.segment_start ≡ Some o → P o.place
  best : (b : Place) → t.best ≡ Some b → IsBest P line_goal t.line.segment_start b

some-is : {A : Type 0} (x y : A) → Some x ≡ Some y → x ≡ y
some-is x y is = cc

none-best : (P : Place → Type 0) (line_goal : LineGoal) (segment_start : Option SegmentStart) (b : Place) → None ≡ Some b → IsBest P line_goal segment_start b
none-best P line_goal segment_start b at = absurd (cc)

-- a place with P that a segment from the open place may reach is a best one
one-best : (P : Place → Type 0) (line_goal : LineGoal) (o : SegmentStart) (q b : Place) → P q → is_allowed line_goal o.place q ≡ true → Some q ≡ Some b →
    IsBest P line_goal (Some o) b
one-best P line_goal o q b here allowed at =
    subst (IsBest P line_goal (Some o)) (some-is q b at) (record { o = o; open_is = refl; here = here; allowed = allowed })

-- a line of such segments, an open place and a best place is reached if these are
reached-with : (P : Place → Type 0) (line_goal : LineGoal) (segments : List LiveSegment) (o : SegmentStart) (best : Option Place) → All (IsReached P line_goal) segments →
    P o.place → ((b : Place) → best ≡ Some b → IsBest P line_goal (Some o) b) → AreReached P line_goal (progress_with segments o best)
reached-with P line_goal segments o best all here bests = record {
  segments = all;
  segment_start = λ x at. subst (λ (y : SegmentStart). P y.place) (some-is o x at) here;
  best = bests;
}

-- closing a segment to a place that it may reach keeps all segments reached
reached-closed : (P : Place → Type 0) (line_goal : LineGoal) (removed : ℕ) (segments : List LiveSegment) (o : SegmentStart) (to : Place) → All (IsReached P line_goal) segments →
    P o.place → P to → is_allowed line_goal o.place to ≡ true → All (IsReached P line_goal) (closed_with removed segments o to)
reached-closed P line_goal removed segments o to all from here allowed =
    all-snoc (IsReached P line_goal) segments (segment_to (has_earlier removed segments) o to) all
    (record { from = from; to = here; allowed = allowed })

-- trying a place with P keeps a line reached, if the line that results from a place out of reach is
tried-reached : (P : Place → Type 0) (line_goal : LineGoal) (removed : ℕ) (segments : List LiveSegment) (o : SegmentStart) (best : Option Place) (q : Place)
    (stopped : LineProgress) → All (IsReached P line_goal) segments → P o.place → ((b : Place) → best ≡ Some b → IsBest P line_goal (Some o) b) → P q →
    AreReached P line_goal stopped → AreReached P line_goal (progress_to line_goal removed segments o best q stopped)
unfolding progress_to
tried-reached P line_goal removed segments o best q stopped all here bests there last =
    cond_both (is_later_place o.place q) _ _ (AreReached P line_goal)
    (λ past. cond_both (is_allowed line_goal o.place q) _ _ (AreReached P line_goal)
    (λ allowed. cond_both (is_long_enough line_goal o.place q) _ _ (AreReached P line_goal)
    (λ enough. reached-with P line_goal (closed_with removed segments o q) (start_at q) None
    (reached-closed P line_goal removed segments o q all here there allowed) there (none-best P line_goal (Some (start_at q))))
    (λ further. reached-with P line_goal segments o (Some q) all here (λ b at. one-best P line_goal o q b there allowed at)))
    (λ out_of_reach. last))
    (λ skipped. reached-with P line_goal segments o best all here bests)

-- P holds for a best place, and a segment to it is allowed
best-reached : (P : Place → Type 0) (line_goal : LineGoal) (o : SegmentStart) (b : Place) → IsBest P line_goal (Some o) b → P b × (is_allowed line_goal o.place b ≡ true)
best-reached P line_goal o b best =
    let same : best.o ≡ o = some-is best.o o (sym best.open_is) in
    (best.here, subst (λ (x : SegmentStart). is_allowed line_goal x.place b ≡ true) same best.allowed)

-- a place with P out of reach keeps a line reached
stopped-reached : (P : Place → Type 0) (line_goal : LineGoal) (removed : ℕ) (segments : List LiveSegment) (o : SegmentStart) (best : Option Place) (q : Place) →
    All (IsReached P line_goal) segments → P o.place → ((b : Place) → best ≡ Some b → IsBest P line_goal (Some o) b) → P q →
    AreReached P line_goal (progress_restarted_at line_goal removed segments o best q)
unfolding progress_restarted_at
stopped-reached P line_goal removed segments o None q all here bests there =
    reached-with P line_goal segments (restart_at q) None all there (none-best P line_goal (Some (restart_at q)))
stopped-reached P line_goal removed segments o (Some b) q all here bests there =
    let best = best-reached P line_goal o b (bests b refl) in
    let closed = reached-closed P line_goal removed segments o b all here best.0 best.1 in
    tried-reached P line_goal removed (closed_with removed segments o b) (start_at b) None q _ closed best.0 (none-best P line_goal (Some (start_at b))) there
    (reached-with P line_goal (closed_with removed segments o b) (restart_at q) None closed there (none-best P line_goal (Some (restart_at q))))

-- one more place with P keeps a line reached, whether or not it has an open place
advanced-reached : (P : Place → Type 0) (line_goal : LineGoal) (removed : ℕ) (t : LineProgress) (q : Place) → (segment_start : Option SegmentStart) → t.line.segment_start ≡ segment_start →
    AreReached P line_goal t → P q → AreReached P line_goal (progress_from line_goal removed t.line.segments segment_start t.best q)
unfolding progress_from
advanced-reached P line_goal removed t q None is are there =
    reached-with P line_goal t.line.segments (start_at q) t.best are.segments there
    (λ b at.
    let best = are.best b at in
    let never : None ≡ Some best.o = sym is ∙ best.open_is in
    absurd (cc))
advanced-reached P line_goal removed t q (Some o) is are there =
    let bests : (b : Place) → t.best ≡ Some b → IsBest P line_goal (Some o) b = λ b at. subst (λ (x : Option SegmentStart). IsBest P line_goal x b) is (are.best b at) in
    tried-reached P line_goal removed t.line.segments o t.best q _ are.segments (are.segment_start o is) bests there
    (stopped-reached P line_goal removed t.line.segments o t.best q are.segments (are.segment_start o is) bests there)

-- more places with P keep a line reached
progress-reached : (P : Place → Type 0) (line_goal : LineGoal) (removed : ℕ) (t : LineProgress) (places : List Place) → All P places → AreReached P line_goal t →
    AreReached P line_goal (advanced_through line_goal removed t places)
progress-reached P line_goal removed t [] each are = subst (AreReached P line_goal) (sym (progress-none line_goal removed t)) are
progress-reached P line_goal removed t (q ∷ rest) each are =
    subst (AreReached P line_goal) (sym (progress-more line_goal removed t q rest))
    (progress-reached P line_goal removed (progress_after line_goal removed t q) rest (All-tail P q rest each)
    (advanced-reached P line_goal removed t q t.line.segment_start refl are (All-head P q rest each)))

-- a line without places is reached
untold-reached : (P : Place → Type 0) (line_goal : LineGoal) → AreReached P line_goal no_progress
untold-reached P line_goal = record {
  segments = All-nil (IsReached P line_goal);
  segment_start = λ o at. absurd (cc);
  best = λ b at. absurd (cc);
}

-- if P holds for each place of a list, their whole line is reached
pub line-reached : (P : Place → Type 0) (line_goal : LineGoal) (places : List Place) → All P places → AreReached P line_goal (full_progress line_goal places)
line-reached P line_goal places each =
    subst (AreReached P line_goal) (sym (whole-is_told line_goal places)) (progress-reached P line_goal 0 no_progress places each (untold-reached P line_goal))

-- a segment is open
pub record IsOpen (t : LineProgress) : Type 0 where
  pub o : SegmentStart
  pub is : t.line.segment_start ≡ Some o

open-with : (segments : List LiveSegment) (o : SegmentStart) (best : Option Place) → IsOpen (progress_with segments o best)
open-with segments o best = record { o = o; is = refl }

-- trying a place leaves a segment open, if the line that results from a place out of reach has an open one
tried-open : (line_goal : LineGoal) (removed : ℕ) (segments : List LiveSegment) (o : SegmentStart) (best : Option Place) (q : Place) (stopped : LineProgress) → IsOpen stopped →
    IsOpen (progress_to line_goal removed segments o best q stopped)
unfolding progress_to
tried-open line_goal removed segments o best q stopped last =
    cond_both (is_later_place o.place q) _ _ IsOpen
    (λ past. cond_both (is_allowed line_goal o.place q) _ _ IsOpen
    (λ allowed. cond_both (is_long_enough line_goal o.place q) _ _ IsOpen
    (λ enough. open-with (closed_with removed segments o q) (start_at q) None)
    (λ further. open-with segments o (Some q)))
    (λ out_of_reach. last))
    (λ skipped. open-with segments o best)

-- a place out of reach leaves a segment open
stopped-open : (line_goal : LineGoal) (removed : ℕ) (segments : List LiveSegment) (o : SegmentStart) (best : Option Place) (q : Place) →
    IsOpen (progress_restarted_at line_goal removed segments o best q)
unfolding progress_restarted_at
stopped-open line_goal removed segments o None q = open-with segments (restart_at q) None
stopped-open line_goal removed segments o (Some b) q =
    tried-open line_goal removed (closed_with removed segments o b) (start_at b) None q _ (open-with (closed_with removed segments o b) (restart_at q) None)

-- after one more place a segment is open
advanced-open : (line_goal : LineGoal) (removed : ℕ) (segments : List LiveSegment) (segment_start : Option SegmentStart) (best : Option Place) (q : Place) →
    IsOpen (progress_from line_goal removed segments segment_start best q)
unfolding progress_from
advanced-open line_goal removed segments None best q = open-with segments (start_at q) best
advanced-open line_goal removed segments (Some o) best q =
    tried-open line_goal removed segments o best q _ (stopped-open line_goal removed segments o best q)

-- more places leave a segment open
progress-open : (line_goal : LineGoal) (removed : ℕ) (t : LineProgress) (places : List Place) → IsOpen t → IsOpen (advanced_through line_goal removed t places)
progress-open line_goal removed t [] is = subst IsOpen (sym (progress-none line_goal removed t)) is
progress-open line_goal removed t (q ∷ rest) is =
    subst IsOpen (sym (progress-more line_goal removed t q rest))
    (progress-open line_goal removed (progress_after line_goal removed t q) rest (advanced-open line_goal removed t.line.segments t.line.segment_start t.best q))

-- once a segment of a line was closed, another one is open
pub line-open : (line_goal : LineGoal) (places : List Place) → 0 < length (line_of line_goal places).segments → IsOpen (full_progress line_goal places)
line-open line_goal [] some = absurd (omega (arith, some))
line-open line_goal (q ∷ rest) some =
    subst IsOpen (sym (whole-is_told line_goal (q ∷ rest) ∙ progress-more line_goal 0 no_progress q rest))
    (progress-open line_goal 0 (progress_after line_goal 0 no_progress q) rest (advanced-open line_goal 0 [] None None q))

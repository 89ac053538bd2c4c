-- The cut of a live line at which a new log begins.
use Rattle.std.specs.Prelude.{◌≡◌, ℕ, suc, ◌+◌, Bool, true, ◌&&◌, not, if◌then◌else◌, Option, Some, None, List, [], ◌∷◌, take, drop}
use Rattle.hls_places_laws.specs.declared.place.Place.{Place}
use Rattle.hls_places_laws.specs.declared.line.live_segment.LiveSegment.{LiveSegment}
use Rattle.hls_places_laws.specs.Programmes.{is_kept}
use Rattle.hls_places_laws.specs.Line.Lengths.{marks_in}
use Rattle.hls_places_laws.specs.Line.Live.{Live, front_of, segments_of}
use Rattle.hls_places_laws.specs.Line.Origins.{segments_over}
use Rattle.hls_places_laws.specs.Line.FromCut.{IsCutOf}
use Rattle.hls_core_laws.specs.State.{State}
use Rattle.hls_core_laws.specs.Places.{floors, sources}
use Rattle.hls_core_laws.specs.Line.{line, line_goal_of}
use Rattle.hls_playlists_laws.specs.JoinedLists.{is_first_marked}
use Rattle.hls_renewal.specs.declared.line_cut.LineCut.{LineCut}

-- the cut after n segments, `marks` of them with a mark, at this place; `marked` says whether the segment that begins there has a mark
abbrev pub cut_at : ℕ → ℕ → Bool → Place → LineCut
cut_at n marks marked p = record { segments = n; marks = marks; marked = marked; place = p }

-- whether a log may begin at a place: more may follow it, and no unit from there on is trimmed
abbrev pub may_begin_at : List ℕ → Place → Bool
may_begin_at above p = not p.closing && is_kept above p

-- the cut at the place where a line begins, if a log may begin there
abbrev pub cut_at_front : List ℕ → Live → Option Place → Option LineCut
cut_at_front above l None = None
cut_at_front above l (Some p) = if may_begin_at above p then Some (cut_at l.removed l.breaks (is_first_marked (segments_of l)) p) else None

-- the cut at the front of a state's line, if a log may begin there
abbrev pub front_cut : State → Option LineCut
front_cut s = cut_at_front (floors s) (line s) (front_of (line s))

-- the cut before the first of these segments at which a log may begin, counted from n; or else another cut
abbrev pub cut_in : List ℕ → ℕ → ℕ → List LiveSegment → Option LineCut → Option LineCut
cut_in above n marks [] other = other
cut_in above n marks (segment ∷ segments) other =
    if may_begin_at above segment.from then Some (cut_at n marks segment.mark segment.from)
    else cut_in above (suc n) (marks + (if segment.mark then 1 else 0)) segments other

-- the first cut at which a log may begin, among those before removed segments and the front
abbrev pub first_cut : State → Option LineCut
first_cut s = cut_in (floors s) 0 0 (take (line s).removed (segments_over (line_goal_of s.config) (sources s))) (front_cut s)

-- a cut of a state's line with no trimmed unit after it, and the numbers of segments and marks that precede it
pub record IsLineCut (s : State) (cut : LineCut) : Type 0 where
  pub is_cut : IsCutOf (line_goal_of s.config) (sources s) cut.segments cut.place
  pub marks : cut.marks ≡ marks_in cut.segments (segments_over (line_goal_of s.config) (sources s))
  pub marked : cut.marked ≡ is_first_marked (drop cut.segments (segments_over (line_goal_of s.config) (sources s)))
  pub kept : is_kept (floors s) cut.place ≡ true

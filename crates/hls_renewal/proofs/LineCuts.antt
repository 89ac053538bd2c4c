-- The first cut at which a log may begin is a cut of the line.
use Rattle.std.proofs.Common.{◌≡◌, ◌∙◌, ℕ, suc, ◌+◌, ◌<◌, ◌≤◌, Bool, true, false, Option, Some, None, List, [], ◌∷◌, length, take, drop, get_or, refl, sym, ap, subst, inl, inr, arith}
use Rattle.std.specs.Prelude.{◌⊎◌, ◌&&◌, not, if◌then◌else◌, slice_get, cond, count_by}
use Rattle.std.proofs.lemmas.List.{drop_more, length-take, get_or-take, take-take}
use Rattle.std.proofs.lemmas.List.Sums.{count_by-le-length}
use Rattle.std.proofs.lemmas.Option.{slice_get_within, slice_get-get_or, get_or_from_slice_get}
use Rattle.hls_places_laws.specs.declared.place.Place.{Place}
use Rattle.hls_places_laws.specs.declared.line.live_segment.LiveSegment.{LiveSegment}
use Rattle.hls_places_laws.specs.Programmes.{is_kept}
use Rattle.hls_places_laws.specs.Line.Lengths.{is_marked, marks_in}
use Rattle.hls_places_laws.specs.Line.Live.{front_of, front_place}
use Rattle.hls_places_laws.specs.Line.Cuts.{line_of}
use Rattle.hls_places_laws.proofs.Callers.{marks-add, segments-few}
use Rattle.hls_core_laws.specs.State.{State}
use Rattle.hls_core_laws.specs.IsState.{IsState}
use Rattle.hls_core_laws.specs.Places.{floors, places}
use Rattle.hls_core_laws.specs.Line.{line, line_goal_of}
use Rattle.hls_core_laws.proofs.Callers.{removed_within}
use Rattle.hls_playlists_laws.specs.JoinedLists.{is_first_marked}
use Rattle.hls_renewal.specs.declared.line_cut.LineCut.{LineCut}
use Rattle.hls_renewal.specs.Cuts.{cut_at, may_begin_at, cut_at_front, front_cut, cut_in, first_cut, IsLineCut}
use Rattle.hls_renewal.proofs.RebuiltLines.{places_few}
use Rattle.hls_renewal.proofs.CutSearch.{segments, removed_segments}

-- if a log may begin at a place, the place isn't the closing one, and it is kept
may_parts : (closing kept : Bool) → (not closing && kept) ≡ true → (closing ≡ false) × (kept ≡ true)
may_parts true kept may = absurd (cc)
may_parts false kept may = (refl, may)

cases_bool : (b : Bool) → (b ≡ true) ⊎ (b ≡ false)
cases_bool true = inl refl
cases_bool false = inr refl

-- where no log may begin, there is no cut
no_cut : (b : Bool) (x c : LineCut) → b ≡ false → (if b then Some x else None) ≡ Some c → ⊥
no_cut true x c not found = cc
no_cut false x c not found = cc

-- the first segment's mark gives the same total whether it is counted with the segments or added to the marks before them
one_mark : (b : Bool) (marks first more total : ℕ) → first ≡ 0 + cond b 1 0 → total ≡ first + more → marks + total ≡ marks + (if b then 1 else 0) + more
one_mark true marks first more total is sum = omega (arith, is, sum)
one_mark false marks first more total is sum = omega (arith, is, sum)

-- the first k of the first n elements are the first k elements, for k at most n
take_again : {A : Type 0} (k n : ℕ) (xs : List A) → k ≤ n → take k (take n xs) ≡ take k xs
take_again k n xs few = take-take k n xs few

-- if a log may begin where closed segment k begins, that is a cut of the line
segment_cut : (s : State) (k : ℕ) (segment : LiveSegment) → slice_get (segments s) k ≡ Some segment → may_begin_at (floors s) segment.from ≡ true
    → IsLineCut s (cut_at k (marks_in k (segments s)) segment.mark segment.from)
segment_cut s k segment at may =
    let within : k < length (segments s) = slice_get_within (segments s) k segment at in
    let here : drop k (segments s) ≡ segment ∷ drop (k + 1) (segments s) =
    drop_more (segments s) k segment within ∙ ap (λ x. x ∷ drop (k + 1) (segments s)) (get_or_from_slice_get (segments s) k segment segment at) in
    let parts = may_parts (segment.from).closing (is_kept (floors s) segment.from) may in
    record {
      is_cut = record {
        within = omega (arith, within);
        front = ap (λ xs. front_place xs (line_of (line_goal_of s.config) (places s)).segment_start) here;
        not_ended = parts.0;
      };
      marks = refl;
      marked = sym (ap is_first_marked here);
      kept = parts.1;
    }

-- the cut at the front of the line, if a log may begin there, is a cut of the line
at_front : (s : State) (c : LineCut) (o : Option Place) → IsState s → front_of (line s) ≡ o → cut_at_front (floors s) (line s) o ≡ Some c → IsLineCut s c
at_front s c None state at found = absurd (cc)
at_front s c (Some p) state at found = elim (cases_bool (may_begin_at (floors s) p)) [
  | inl may ↦
      let made = cut_at (line s).removed (line s).breaks (is_first_marked (drop (line s).removed (segments s))) p in
      let is : Some made ≡ Some c = sym (ap (λ (b : Bool). if b then Some made else None) may) ∙ found in
      let same : made ≡ c = cc in
      let parts = may_parts p.closing (is_kept (floors s) p) may in
      subst (λ (x : LineCut). IsLineCut s x) same (record {
        is_cut = record { within = removed_within s state; front = at; not_ended = parts.0 };
        marks = refl;
        marked = refl;
        kept = parts.1;
      })
  | inr not ↦ absurd (no_cut (may_begin_at (floors s) p) (cut_at (line s).removed (line s).breaks (is_first_marked (drop (line s).removed (segments s))) p) c not found)
]

-- what a search through segments after n others finds is a cut of the line, if each cut before one of them is one, and the other cut too
in_segments : (s : State) (c : LineCut) (n marks : ℕ) (rest : List LiveSegment) (other : Option LineCut)
    → ((k : ℕ) (segment : LiveSegment) → slice_get rest k ≡ Some segment → may_begin_at (floors s) segment.from ≡ true → IsLineCut s (cut_at (n + k) (marks + marks_in k rest) segment.mark segment.from))
    → (other ≡ Some c → IsLineCut s c) → cut_in (floors s) n marks rest other ≡ Some c → IsLineCut s c
in_segments s c n marks [] other here last found = last found
in_segments s c n marks (segment ∷ rest) other here last found = elim (cases_bool (may_begin_at (floors s) segment.from)) [
  | inl may ↦
      let made = cut_at n marks segment.mark segment.from in
      let is : Some made ≡ Some c =
      sym (ap (λ (b : Bool). if b then Some made else cut_in (floors s) (suc n) (marks + (if segment.mark then 1 else 0)) rest other) may) ∙ found in
      let same : made ≡ c = cc in
      let number : n + 0 ≡ n = omega arith in
      let no_marks : marks_in 0 (segment ∷ rest) ≡ 0 = refl in
      let none : marks + marks_in 0 (segment ∷ rest) ≡ marks = omega (arith, no_marks) in
      let first = here 0 segment refl may in
      subst (λ (x : LineCut). IsLineCut s x) (ap (λ k. cut_at k (marks + marks_in 0 (segment ∷ rest)) segment.mark segment.from) number ∙ ap (λ k. cut_at n k segment.mark segment.from) none ∙ same) first
  | inr passed ↦
      let more = marks + (if segment.mark then 1 else 0) in
      in_segments s c (suc n) more rest other
      (λ k x at may.
      let number : n + suc k ≡ suc n + k = omega arith in
      let after : suc k ≡ 1 + k = omega arith in
      let sum : marks_in (suc k) (segment ∷ rest) ≡ marks_in 1 (segment ∷ rest) + marks_in k rest = ap (λ j. marks_in j (segment ∷ rest)) after ∙ marks-add 1 k (segment ∷ rest) in
      let counted : marks + marks_in (suc k) (segment ∷ rest) ≡ more + marks_in k rest =
      one_mark segment.mark marks (marks_in 1 (segment ∷ rest)) (marks_in k rest) (marks_in (suc k) (segment ∷ rest)) refl sum in
      subst (λ (y : LineCut). IsLineCut s y) (ap (λ j. cut_at j (marks + marks_in (suc k) (segment ∷ rest)) x.mark x.from) number ∙ ap (λ j. cut_at (suc n + k) j x.mark x.from) counted)
      (here (suc k) x at may))
      last
      (sym (ap (λ (b : Bool). if b then Some (cut_at n marks segment.mark segment.from) else cut_in (floors s) (suc n) more rest other) passed) ∙ found)
]

-- removed segment k is closed segment k, with as many marks before it
removed_at : (s : State) (k : ℕ) (segment : LiveSegment) → IsState s → slice_get (removed_segments s) k ≡ Some segment
    → (slice_get (segments s) k ≡ Some segment) × (marks_in k (removed_segments s) ≡ marks_in k (segments s))
removed_at s k segment state at =
    let within : k < length (removed_segments s) = slice_get_within (removed_segments s) k segment at in
    let few = length-take (line s).removed (segments s) in
    let below : k < (line s).removed = omega (arith, within, few) in
    let here : k < length (segments s) = omega (arith, within, few) in
    let same : get_or (segments s) k segment ≡ segment =
    sym (get_or-take (line s).removed (segments s) k segment below) ∙ get_or_from_slice_get (removed_segments s) k segment segment at in
    (slice_get-get_or (segments s) k segment here ∙ ap Some same, ap (λ xs. count_by is_marked xs) (take_again k (line s).removed (segments s) (omega (arith, below))))

from_zero : (n : ℕ) → n ≡ 0 + n
from_zero n = omega arith

-- the first cut at which a log may begin is a cut of the state's line
pub is_line_cut : (s : State) (c : LineCut) → IsState s → first_cut s ≡ Some c → IsLineCut s c
is_line_cut s c state found =
    in_segments s c 0 0 (removed_segments s) (front_cut s)
    (λ k segment at may.
    let there = removed_at s k segment state at in
    let marks : marks_in k (segments s) ≡ 0 + marks_in k (removed_segments s) = sym there.1 ∙ from_zero (marks_in k (removed_segments s)) in
    let number : k ≡ 0 + k = omega arith in
    subst (λ (y : LineCut). IsLineCut s y) (ap (λ j. cut_at k j segment.mark segment.from) marks ∙ ap (λ j. cut_at j (0 + marks_in k (removed_segments s)) segment.mark segment.from) number)
    (segment_cut s k segment there.0 may))
    (λ at. at_front s c (front_of (line s)) state refl at) found

-- at most 4194305 segments and marks precede a cut
pub small_cut : (s : State) (c : LineCut) → IsState s → IsLineCut s c → (c.segments ≤ 4194305) × (c.marks ≤ 4194305)
small_cut s c state is =
    let few = segments-few (line_goal_of s.config) (places s) in
    let places = places_few s state in
    let taken = length-take c.segments (segments s) in
    (omega (arith, (is.is_cut).within, few, places), omega (arith, is.marks, count_by-le-length is_marked (take c.segments (segments s)), taken, few, places))

-- The search for the first cut at which a log may begin.
use Rattle.std.proofs.Common.{◌≡◌, ◌∙◌, ℕ, suc, ◌+◌, ◌<◌, ◌≤◌, Bool, true, false, Some, List, ◌∷◌, length, take, drop, get_or, refl, sym, ap, arith}
use Rattle.std.specs.Prelude.{if◌then◌else◌, slice_get}
use Rattle.std.proofs.lemmas.List.{drop_more, drop_all, length-take, get_or-take}
use Rattle.std.proofs.lemmas.Option.{get_or_from_slice_get}
use Rattle.hls_places_laws.specs.declared.line.live_segment.LiveSegment.{LiveSegment}
use Rattle.hls_places_laws.specs.Line.Origins.{segments_over}
use Rattle.hls_core_laws.specs.State.{State}
use Rattle.hls_core_laws.specs.IsState.{IsState}
use Rattle.hls_core_laws.specs.Places.{floors, sources}
use Rattle.hls_core_laws.specs.Line.{line, line_goal_of}
use Rattle.hls_core_laws.proofs.Callers.{removed_within}
use Rattle.hls_renewal.specs.Cuts.{cut_at, may_begin_at, front_cut, cut_in, first_cut}

-- the closed segments of a state
abbrev pub segments : State → List LiveSegment
segments s = segments_over (line_goal_of s.config) (sources s)

-- the segments that were removed from the front of a state's line
abbrev pub removed_segments : State → List LiveSegment
removed_segments s = take (line s).removed (segments s)

-- the search from segment n on finds the first cut, and at most n marks precede segment n
pub record IsCutLeft (s : State) (n marks : ℕ) : Type 0 where
  pub same : cut_in (floors s) n marks (drop n (removed_segments s)) (front_cut s) ≡ first_cut s
  pub few : marks ≤ n

one_at_most : (b : Bool) → (if b then 1 else 0) ≤ 1
one_at_most true = omega arith
one_at_most false = omega arith

-- the search begins at segment 0, with no marks before it
pub search_begins : (s : State) → IsCutLeft s 0 0
search_begins s = record { same = refl; few = omega arith }

module _ (s : State) (state : IsState s) (n : ℕ) (segment : LiveSegment) (within : n < (line s).removed) (at : slice_get (segments s) n ≡ Some segment) where
  -- a removed segment n is the first of the removed segments from n on
  first_left : drop n (removed_segments s) ≡ segment ∷ drop (n + 1) (removed_segments s)
  first_left =
      let few : n < length (removed_segments s) = omega (arith, length-take (line s).removed (segments s), removed_within s state, within) in
      let is : get_or (removed_segments s) n segment ≡ segment =
      get_or-take (line s).removed (segments s) n segment within ∙ get_or_from_slice_get (segments s) n segment segment at in
      drop_more (removed_segments s) n segment few ∙ ap (λ x. x ∷ drop (n + 1) (removed_segments s)) is

  -- at a removed segment n, the search among this segment and the later removed ones finds the first cut
  left : (marks : ℕ) → IsCutLeft s n marks → cut_in (floors s) n marks (segment ∷ drop (n + 1) (removed_segments s)) (front_cut s) ≡ first_cut s
  left marks l = ap (λ xs. cut_in (floors s) n marks xs (front_cut s)) (sym first_left) ∙ l.same

  -- if a log may begin at the start of segment n, the cut there is the first one
  pub cut_found : (marks : ℕ) → IsCutLeft s n marks → may_begin_at (floors s) segment.from ≡ true → Some (cut_at n marks segment.mark segment.from) ≡ first_cut s
  cut_found marks l may =
      ap (λ (b : Bool). if b then Some (cut_at n marks segment.mark segment.from)
      else cut_in (floors s) (suc n) (marks + (if segment.mark then 1 else 0)) (drop (n + 1) (removed_segments s)) (front_cut s)) (sym may)
      ∙ left marks l

  -- if no log may begin at the start of segment n, the search continues with segment n + 1, and counts the mark of segment n
  pub cut_passed : (marks more : ℕ) → IsCutLeft s n marks → may_begin_at (floors s) segment.from ≡ false → more ≡ marks + (if segment.mark then 1 else 0) → IsCutLeft s (n + 1) more
  cut_passed marks more l may is =
      let next : suc n ≡ n + 1 = omega arith in
      record {
        same =
            ap (λ k. cut_in (floors s) (n + 1) k (drop (n + 1) (removed_segments s)) (front_cut s)) is
            ∙ ap (λ k. cut_in (floors s) k (marks + (if segment.mark then 1 else 0)) (drop (n + 1) (removed_segments s)) (front_cut s)) (sym next)
            ∙ ap (λ (b : Bool). if b then Some (cut_at n marks segment.mark segment.from)
            else cut_in (floors s) (suc n) (marks + (if segment.mark then 1 else 0)) (drop (n + 1) (removed_segments s)) (front_cut s)) (sym may)
            ∙ left marks l;
        few = omega (arith, is, l.few, one_at_most segment.mark);
      }

-- after the last removed segment, the front of the line has the first cut if there is one
pub front_left : (s : State) (n marks : ℕ) → (line s).removed ≤ n → IsCutLeft s n marks → front_cut s ≡ first_cut s
front_left s n marks past l =
    let few : length (removed_segments s) ≤ n = omega (arith, length-take (line s).removed (segments s), past) in
    ap (λ xs. cut_in (floors s) n marks xs (front_cut s)) (sym (drop_all n (removed_segments s) few)) ∙ l.same

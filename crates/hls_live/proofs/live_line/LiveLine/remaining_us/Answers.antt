-- The remaining length is the difference of the sums at the last segment and at the last removed one (`left-progress`).
use Rattle.std.proofs.Common.{ℕ, zero, suc, ◌<◌, length, arith, ap, subst, ◌∙◌}
use Rattle.std.proofs.lemmas.List.{get_or_default}
use Rattle.hls_places_laws.specs.Line.Lengths.{remaining_length, renditions_of}
use Rattle.hls_places_laws.specs.Line.Live.{Live}
use Rattle.hls_live.proofs.Keeps.{are-aligned, left-progress, renditions-some}
use Rattle.hls_live.proofs.live_line.LiveLine.remaining_us.Goals as goal

-- if there are renditions, a number that is 0 or below their number is that of one
is-there : (r renditions : ℕ) → 0 < renditions → (0 < r → r < renditions) → r < renditions
is-there zero renditions some there = some
is-there (suc r) renditions some there = there (omega arith)

pub sums_at-last-requires-clause-aligned : goal.sums_at-last-requires-clause-aligned
sums_at-last-requires-clause-aligned c = are-aligned _ _ c.self.invariant.kept

pub sums_at-past-requires-clause-aligned : goal.sums_at-past-requires-clause-aligned
sums_at-past-requires-clause-aligned c = are-aligned _ _ c.self.invariant.kept

pub index-requires : goal.index-requires
index-requires c =
    let few = ap (λ (x : Live). length x.progress.line.segments) c.self.view_is in
    let there = ap (λ (x : Live). renditions_of x.progress.line.segment_start) c.self.view_is in
    let some = renditions-some c.self.inside.segment_start c.self.inside.kept.segments.items c.self.invariant.no_segment c.self.invariant.some
    (omega (arith, few, c.requires.some, c.requires.within)) in
    let r-there = is-there c.args.r _ (subst (λ (n : ℕ). 0 < n) there some) c.requires.there in
    let to = c.self.invariant.kept.sums.each _ _ c.sums_at-last.ensures in
    omega (arith, to.lengths, there, r-there, c.sums_at-last.result.now.lengths.ok.0)

pub index-requires-2 : goal.index-requires-2
index-requires-2 c =
    let few = ap (λ (x : Live). length x.progress.line.segments) c.self.view_is in
    let there = ap (λ (x : Live). renditions_of x.progress.line.segment_start) c.self.view_is in
    let some = renditions-some c.self.inside.segment_start c.self.inside.kept.segments.items c.self.invariant.no_segment c.self.invariant.some
    (omega (arith, few, c.requires.some, c.requires.within)) in
    let r-there = is-there c.args.r _ (subst (λ (n : ℕ). 0 < n) there some) c.requires.there in
    let to = c.self.invariant.kept.sums.each _ _ c.sums_at-past.ensures in
    omega (arith, to.lengths, there, r-there, c.sums_at-past.result.now.lengths.ok.0)

pub overflow_sub-result : goal.overflow_sub-result
overflow_sub-result c =
    let i = c.self.inside in
    let few = ap (λ (x : Live). length x.progress.line.segments) c.self.view_is in
    let there = ap (λ (x : Live). renditions_of x.progress.line.segment_start) c.self.view_is in
    let some = renditions-some c.self.inside.segment_start c.self.inside.kept.segments.items c.self.invariant.no_segment c.self.invariant.some
    (omega (arith, few, c.requires.some, c.requires.within)) in
    let r-there = is-there c.args.r _ (subst (λ (n : ℕ). 0 < n) there some) c.requires.there in
    let s = c.sums_at-past.result.now in
    let t = c.sums_at-last.result.now in
    let s_long = c.self.invariant.kept.sums.each _ _ c.sums_at-past.ensures in
    let t_long = c.self.invariant.kept.sums.each _ _ c.sums_at-last.ensures in
    let progress = left-progress _ i.kept c.args.r c.args.n _ _ s t c.self.invariant.kept c.requires.some (omega (arith, few, c.requires.within))
    (omega (arith, there, r-there)) (omega (arith, c.first.ensures.value)) c.sums_at-past.ensures
    (omega (arith, c.next.ensures.value)) c.sums_at-last.ensures in
    let past = c.index-2.ensures ∙ get_or_default s.lengths.items c.args.r _ 0 (omega (arith, s_long.lengths, there, r-there)) in
    let all = c.index.ensures ∙ get_or_default t.lengths.items c.args.r _ 0 (omega (arith, t_long.lengths, there, r-there)) in
    omega (arith, progress, past, all)

pub returns : goal.returns
returns c =
    let i = c.self.inside in
    let few = ap (λ (x : Live). length x.progress.line.segments) c.self.view_is in
    let there = ap (λ (x : Live). renditions_of x.progress.line.segment_start) c.self.view_is in
    let some = renditions-some c.self.inside.segment_start c.self.inside.kept.segments.items c.self.invariant.no_segment c.self.invariant.some
    (omega (arith, few, c.requires.some, c.requires.within)) in
    let r-there = is-there c.args.r _ (subst (λ (n : ℕ). 0 < n) there some) c.requires.there in
    let left = ap (λ (x : Live). remaining_length c.args.r x.progress.line.segments c.args.n) c.self.view_is in
    let s = c.sums_at-past.result.now in
    let t = c.sums_at-last.result.now in
    let s_long = c.self.invariant.kept.sums.each _ _ c.sums_at-past.ensures in
    let t_long = c.self.invariant.kept.sums.each _ _ c.sums_at-last.ensures in
    let progress = left-progress _ i.kept c.args.r c.args.n _ _ s t c.self.invariant.kept c.requires.some (omega (arith, few, c.requires.within))
    (omega (arith, there, r-there)) (omega (arith, c.first.ensures.value)) c.sums_at-past.ensures
    (omega (arith, c.next.ensures.value)) c.sums_at-last.ensures in
    let past = c.index-2.ensures ∙ get_or_default s.lengths.items c.args.r _ 0 (omega (arith, s_long.lengths, there, r-there)) in
    let all = c.index.ensures ∙ get_or_default t.lengths.items c.args.r _ 0 (omega (arith, t_long.lengths, there, r-there)) in
    omega (arith, progress, past, all, left)

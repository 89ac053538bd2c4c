-- What is known after boxes of n bytes stays known after more.
-- For the proofs of this crate; no public clause cites it.
use Rattle.std.proofs.Common.{ℕ, ℤ, ◌+◌, ◌≤◌, Option, Some, None, arith}
use Rattle.std.proofs.lemmas.Int.{ints}
use Rattle.hls_media.specs.declared.traf_runs.TrunVisitor.{TrunVisitor}
use Rattle.hls_media.specs.declared.traf_runs.RunSummary.{RunSummary}
use Rattle.hls_media.specs.declared.moof.MoofSummary.{MoofSummary}
use Rattle.hls_media.specs.declared.samples.SampleSummary.{SampleSummary}
use Rattle.hls_media.specs.RunPlacement.{IsNear}
use Rattle.hls_media.specs.Runs.{IsBoundedRuns, IsBrief}
use Rattle.hls_media.specs.MoofSummary.{IsBoundedSummary}

-- a position that is near enough for n bytes is near enough for more
pub near-more : (n m : ℕ) (z : ℤ) → n ≤ m → IsNear n z → IsNear m z
near-more n m z le near = (omega (arith, ints, near.0), omega (arith, ints, near.1))

-- a duration that is short enough for n bytes is short enough for more
pub brief-more : (n m : ℕ) (sample_summary : Option SampleSummary) → n ≤ m → IsBrief n sample_summary → IsBrief m sample_summary
brief-more n m None le brief = tt
brief-more n m (Some t) le brief = omega (arith, le, brief)

-- a summary of runs that is bounded for n bytes is bounded for more
pub runs-more : (k : TrunVisitor) (n m : ℕ) (s : RunSummary) → n ≤ m → IsBoundedRuns k n s → IsBoundedRuns k m s
runs-more k n m s le known = record {
  base = known.base;
  near = λ i base. near-more (i + n) (i + m) s.placement.end (omega (arith, le)) (known.near i base);
  brief = brief-more n m s.sample_summary le known.brief;
}

-- a summary of a `moof` that is bounded for n bytes is bounded for more
pub summary-more : (n m : ℕ) (s : MoofSummary) → n ≤ m → IsBoundedSummary n s → IsBoundedSummary m s
summary-more n m s le known = record { near = near-more n m s.placement.end le known.near; short = known.short }

-- a weight that is within n bytes is within more
pub le-more : (n m weight : ℕ) → n ≤ m → weight ≤ n → weight ≤ m
le-more n m weight le least = omega (arith, le, least)

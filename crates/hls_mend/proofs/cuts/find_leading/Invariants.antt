-- The samples before the index are cut: `leading` has their number, their end and their bytes, and cutting the others from there is cutting all.
use Rattle.std.proofs.Common.{◌≡◌, ◌+◌, ℕ, List, drop}
use Rattle.hls_mend_laws.specs.Fragments.{Fragment, total_size}
use Rattle.hls_mend_laws.specs.Cuts.{cut_from}
use Rattle.hls_mend.proofs.cuts.find_leading.Given as goal

abbrev pub invariant-loop-sample : goal.invariant-loop-sample
invariant-loop-sample l = record {
  counted : l.leading.count ≡ l.sample-index;
  room : l.leading.len + total_size (drop l.sample-index l.samples) ≡ total_size l.samples;
  same : (f : Fragment) (payload : List ℕ) → cut_from l.snap l.end f l.start l.samples payload ≡ cut_from l.snap l.end f l.leading.end (drop l.sample-index l.samples) (drop l.leading.len payload);
}

-- Before each round, the bytes so far and the rows of the remaining samples are the bytes before and the rows of all samples.
use Rattle.std.proofs.Common.{◌≡◌, ◌++◌, drop}
use Rattle.std.specs.List.{flat_map}
use Rattle.hls_mend_laws.specs.Bytes.{words}
use Rattle.hls_mend_laws.specs.Fragments.{row}
use Rattle.hls_mend.proofs.write.push_rows.Given as goal

abbrev pub invariant-loop-sample : goal.invariant-loop-sample
invariant-loop-sample l = l.out.items ++ words (flat_map row (drop l.sample-index l.samples)) ≡ l.initial.out.items ++ words (flat_map row l.samples)

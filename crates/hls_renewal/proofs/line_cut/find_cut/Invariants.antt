-- Before each round, no segment before n begins at a possible cut, so the first cut is found from n on. At most n marks precede segment n.
use Rattle.hls_renewal.proofs.CutSearch.{IsCutLeft}
use Rattle.hls_renewal.proofs.line_cut.find_cut.Given as goal

abbrev pub invariant-loop-n : goal.invariant-loop-n
invariant-loop-n l = IsCutLeft l.snapshot l.n l.marks

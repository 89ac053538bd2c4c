-- Before each round, none of the renditions so far is late.
use Rattle.hls_housekeeper.specs.Lags.{NoneLate}
use Rattle.hls_housekeeper.proofs.lag.find_first_late.Given as goal

abbrev pub invariant-loop-rendition : goal.invariant-loop-rendition
invariant-loop-rendition l = record { before : NoneLate l.target l.all_progress l.rendition }

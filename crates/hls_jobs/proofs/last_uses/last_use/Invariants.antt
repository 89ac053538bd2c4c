-- Before each round, none of the uses so far is of this job: the remaining ones give the same result as all.
use Rattle.std.proofs.Common.{◌≡◌, drop}
use Rattle.hls_jobs.specs.LastUses.{last_use}
use Rattle.hls_jobs.proofs.last_uses.last_use.Given as goal

-- the remaining uses give the same result
abbrev pub invariant-loop-found : goal.invariant-loop-found
invariant-loop-found l = last_use l.id (drop l.found-index l.uses) ≡ last_use l.id l.uses

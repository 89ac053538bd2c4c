-- Before a plan of the first turn each client has at most one, and an eviction leaves each client one.
use Rattle.hls_jobs.proofs.FairTurns.{first-fair}
use Rattle.hls_jobs.proofs.laws.first_turns_are_fair.Goals as goal

pub returns : goal.returns
returns c = first-fair

-- Before each round, of the places examined so far that have a price, none has a lower price than the bound, and none starts later.
use Rattle.hls_check_tables.specs.Certificates.{claim_data}
use Rattle.hls_check.specs.Rows.{IsLowerBound}
use Rattle.hls_check.proofs.rows.lower_bound_of.Given as goal

abbrev pub invariant-loop-p : goal.invariant-loop-p
invariant-loop-p l = IsLowerBound l.table (claim_data l.claim) l.first l.p l.lower_bound.price l.lower_bound.start

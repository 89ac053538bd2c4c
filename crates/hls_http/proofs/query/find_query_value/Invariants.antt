-- Before each round, no pair so far has the key: the first value among the remaining pairs is the first among all.
use Rattle.std.proofs.Common.{◌≡◌, drop, map}
use Rattle.hls_http.specs.Query.{first_pair_value, pair_bytes}
use Rattle.hls_http.proofs.query.find_query_value.Given as goal

abbrev pub invariant-loop-pair : goal.invariant-loop-pair
invariant-loop-pair l = first_pair_value l.key (map pair_bytes l.pairs) ≡ first_pair_value l.key (map pair_bytes (drop l.pair-index l.pairs))

-- Before each round, the decoded pairs so far, followed by the remaining ones once decoded, are all pairs of the query.
use Rattle.std.proofs.Common.{◌≡◌, ◌++◌, map}
use Rattle.form_urlencoded.specs.{Form.decode, Form.parse, Parse.raw_pairs_left}
use Rattle.hls_http.specs.Query.{pair_bytes}
use Rattle.hls_http.proofs.query.parse_query.Given as goal

abbrev pub invariant-loop-name : goal.invariant-loop-name
invariant-loop-name l = record {
  goes : (goal.iterator-loop-name).can_next l.name-iterator;
  finite : (goal.iterator-loop-name).is_finite l.name-iterator;
  same : parse l.query ≡ map pair_bytes l.pairs.items ++ map (λ (name, value). (decode name, decode value)) (raw_pairs_left l.name-iterator);
}

-- Before each round, the first Content-Length is a number, and all values so far equal it: the remaining ones decide.
use Rattle.std.{proofs.Common.{◌≡◌, ◌-◌, Some, length, codes}, specs.List.list_all}
use Rattle.hls_http.specs.{Fields.length_of, Framing.is_length, Values.values_from}
use Rattle.hls_http.proofs.fields.parse_equal_lengths.Given as goal

-- the values so far equal the first
abbrev pub invariant-loop-next : goal.invariant-loop-next
invariant-loop-next l = record {
  some : Some l.len ≡ length_of l.first;
  same : list_all (is_length l.len) (values_from l.text l.headers (codes "content-length") l.second) ≡ list_all (is_length l.len) (values_from l.text l.headers (codes "content-length") l.at);
}

abbrev pub decreases-loop-next : goal.decreases-loop-next
decreases-loop-next l = length l.headers - l.at

-- Before each round, no Connection field so far has the token `close`: the remaining ones decide. Each round passes at least one field.
use Rattle.std.{proofs.Common.{◌≡◌, ◌-◌, length, codes}, specs.List.list_any}
use Rattle.hls_http.specs.{Fields.has_word, Values.values_from}
use Rattle.hls_http.proofs.fields.closes_connection.Given as goal

abbrev pub invariant-loop-next : goal.invariant-loop-next
invariant-loop-next l =
    list_any (has_word (codes "close")) (values_from l.text l.headers (codes "connection") 0) ≡ list_any (has_word (codes "close")) (values_from l.text l.headers (codes "connection") l.at)

abbrev pub decreases-loop-next : goal.decreases-loop-next
decreases-loop-next l = length l.headers - l.at

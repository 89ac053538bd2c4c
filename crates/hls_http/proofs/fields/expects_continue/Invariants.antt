-- Before each round, no Expect field so far asks for 100 Continue: the remaining ones decide. Each round passes at least one field.
use Rattle.std.{proofs.Common.{◌≡◌, ◌-◌, length, codes}, specs.List.list_any}
use Rattle.hls_http.specs.{Fields.expects_continue, Values.values_from}
use Rattle.hls_http.proofs.fields.expects_continue.Given as goal

abbrev pub invariant-loop-next : goal.invariant-loop-next
invariant-loop-next l =
    list_any expects_continue (values_from l.text l.headers (codes "expect") 0) ≡ list_any expects_continue (values_from l.text l.headers (codes "expect") l.at)

abbrev pub decreases-loop-next : goal.decreases-loop-next
decreases-loop-next l = length l.headers - l.at

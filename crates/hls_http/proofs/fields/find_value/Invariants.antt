-- Before each round, no field so far has the name: the values from this field on are all values.
use Rattle.std.proofs.Common.{◌≡◌}
use Rattle.hls_http.specs.Values.{values_from}
use Rattle.hls_http.proofs.fields.find_value.Given as goal

abbrev pub invariant-loop-i : goal.invariant-loop-i
invariant-loop-i l = values_from l.text l.headers l.name l.at ≡ values_from l.text l.headers l.name l.i

-- Before each round, the number is the highest that the records so far name, or 0.
use Rattle.std.proofs.Common.{◌≡◌, take}
use Rattle.hls_journal.specs.Asides.{highest_ids}
use Rattle.hls_journal.proofs.asides.find_ids.Given as goal

abbrev pub invariant-loop-body : goal.invariant-loop-body
invariant-loop-body l = l.ids ≡ highest_ids (take l.body-index l.bodies)

-- The bytes that were read are never more than the unit's. Each round comes nearer to the unit's end.
use Rattle.std.proofs.Common.{◌-◌, ◌≤◌}
use Rattle.hls_journal_store.proofs.open_media.OpenMedia.read_spans.Given as goal

abbrev pub invariant-spans : goal.invariant-spans
invariant-spans l = l.done ≤ l.unit.len

abbrev pub decreases-spans : goal.decreases-spans
decreases-spans l = l.unit.len - l.done

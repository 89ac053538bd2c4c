-- The last place of the table isn't after the end of the recording, since all places of the table are places of the recording.
use Rattle.std.proofs.Common.{◌≤◌, length, subst, sym}
use Rattle.hls_check_tables.specs.Tables.{Table}
use Rattle.hls_playlists_laws.specs.SegmentLaws.{end_fragment}
use Rattle.hls_commands.proofs.Whole.{end_within}
use Rattle.hls_commands.proofs.list_least_plan.list_least_plan.Goals as goal

pub list_plan-requires-clause-ever : goal.list_plan-requires-clause-ever
list_plan-requires-clause-ever c =
    subst (λ (t : Table). end_fragment t 0 ≤ length c.args.recording.now.facts) (sym c.in_ok-table.ensures.value)
    (end_within c.args.goal c.args.recording.now c.args.places.now.items c.requires.places c.requires.count)

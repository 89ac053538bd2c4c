-- A stream that has ended without a refusal has one rendition that has begun, so it can be listed. The result is its listing, or the fault
-- of listing it.
use Rattle.std.proofs.Common.{rules, Ok, Err}
use Rattle.hls_commands.proofs.Begun.{ended_is_listed, ended_is_single}
use Rattle.hls_commands.proofs.RunLaws.{ends_listed, ends_unlisted}
use Rattle.hls_commands.proofs.cut.run.list_recorded.Goals as goal

pub list_channel-requires-clause-single : goal.list_channel-requires-clause-single
list_channel-requires-clause-single c = ended_is_single c.args.recorder.now c.snapshot.result.now (search rules) (search rules)

pub returns-in-Ok : goal.returns-in-Ok
returns-in-Ok c =
    ends_listed c.args.options.now _ c.snapshot.result.now c.in-Ok.listed (search rules)
    (ended_is_listed c.args.options.now c.args.recorder.now c.snapshot.result.now (Ok c.in-Ok.listed) (search rules) (search rules))

pub returns-in-Err : goal.returns-in-Err
returns-in-Err c =
    ends_unlisted c.args.options.now _ c.snapshot.result.now c.in-Err.fault (search rules) (search rules)
    (ended_is_listed c.args.options.now c.args.recorder.now c.snapshot.result.now (Err c.in-Err.fault) (search rules) (search rules))

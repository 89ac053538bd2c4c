-- If the whole stream was recorded, the result is its listing, and no failed read was counted; otherwise it is the fault of recording it.
use Rattle.hls_commands.proofs.RunLaws.{counts_listed, takes_err, takes_ok}
use Rattle.hls_commands.proofs.cut.run.list_stream.Goals as goal

pub returns-in-Ok-record_stream-clause-takes : goal.returns-in-Ok-record_stream-clause-takes
returns-in-Ok-record_stream-clause-takes g c = λ stream known.
    takes_ok c.args.options.now stream _ c.in-Ok.recorder c.record_stream.new.recorder c.list_recorded.result c.in-Ok.ensures (c.in-Ok-record_stream.ensures.records stream known) c.list_recorded.ensures

pub returns-in-Ok-record_stream-clause-counts : goal.returns-in-Ok-record_stream-clause-counts
returns-in-Ok-record_stream-clause-counts g c = counts_listed c.args.options.now c.record_stream.new.recorder _ _ c.list_recorded.result c.list_recorded.ensures c.in-Ok-record_stream.ensures.counts

pub returns-clause-takes : goal.returns-clause-takes
returns-clause-takes g c = λ stream known. takes_err c.args.options.now stream _ c.in-Ok.recorder c.record_stream.new.recorder c.in-Err.fault c.in-Ok.ensures (c.in-Err.ensures.records stream known)

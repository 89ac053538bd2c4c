-- A stream that ends after a whole part ends well; one that ends inside a part is truncated.
use Rattle.hls_core.proofs.FeedLaws.{ends_inside, ends_whole}
use Rattle.hls_core.proofs.ingest.finish_stream.Goals as goal

pub returns-in-Ok : goal.returns-in-Ok
returns-in-Ok c = λ content clean left. ends_whole content c.args.reader.now left c.in-Ok.ensures

pub returns-in-Err : goal.returns-in-Err
returns-in-Err c = λ content clean left. ends_inside content c.args.reader.now c.in-Err.fault clean left c.in-Err.ensures

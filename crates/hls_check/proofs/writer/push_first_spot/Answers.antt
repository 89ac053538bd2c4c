-- The five numbers of a place's first spot are appended, separated by spaces and without one before the first.
use Rattle.hls_check.proofs.Written.{first_spot_written}
use Rattle.hls_check.proofs.writer.push_first_spot.Goals as goal

pub returns : goal.returns
returns c =
    first_spot_written c.args.out.now.items c.args.spot c.push_number.new.out.items c.push_fields_after_fragment.new.out.items
    c.in_ok-push_number.ensures c.in_ok-push_fields_after_fragment.ensures

-- The five numbers of a spot are appended, each after a space.
use Rattle.hls_check.proofs.Written.{spot_written}
use Rattle.hls_check.proofs.writer.push_spot.Goals as goal

pub returns : goal.returns
returns c =
    spot_written c.args.out.now.items c.args.spot c.push_space_and_number.new.out.items c.push_fields_after_fragment.new.out.items
    c.in_ok-push_space_and_number.ensures c.in_ok-push_fields_after_fragment.ensures

-- The four numbers of a spot after its fragment number are appended, each after a space.
use Rattle.hls_check.proofs.Written.{after_fragment_written}
use Rattle.hls_check.proofs.writer.push_fields_after_fragment.Goals as goal

pub returns : goal.returns
returns c =
    after_fragment_written c.args.out.now.items c.args.spot c.push_space_and_number.new.out.items
    c.push_space_and_number-2.new.out.items c.push_space_and_number-3.new.out.items c.push_space_and_number-4.new.out.items
    c.in_ok-push_space_and_number.ensures c.in_ok-push_space_and_number-2.ensures c.in_ok-push_space_and_number-3.ensures c.in_ok-push_space_and_number-4.ensures

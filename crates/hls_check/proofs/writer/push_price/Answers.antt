-- The price line of the place is appended.
use Rattle.hls_check.proofs.Written.{price_written}
use Rattle.hls_check.proofs.writer.push_price.Goals as goal

pub returns : goal.returns
returns c =
    price_written c.args.out.now.items c.args.place c.args.price c.extend_from_slice.new.self.items
    c.push_number.new.out.items c.push_space_and_number.new.out.items c.push.new.self.items
    c.in_ok-extend_from_slice.ensures.items c.in_ok-push_number.ensures c.in_ok-push_space_and_number.ensures c.in_ok-push.ensures.items

-- A place that has a price gets its price line, and another place none.
use Rattle.hls_check.proofs.Written.{no_price_line, a_price_line}
use Rattle.hls_check.proofs.writer.push_optional_price.Goals as goal

pub returns-in_default : goal.returns-in_default
returns-in_default c = no_price_line c.args.out.now.items c.args.place c.args.price c.in_default.is

pub returns : goal.returns
returns c = a_price_line c.args.out.now.items c.push_price.new.out.items c.args.place c.in-Some.price c.args.price c.in-Some.is c.in_ok-push_price.ensures

-- A place in the closed set gets its line, and another place none.
use Rattle.hls_check.proofs.Written.{not_member, a_member}
use Rattle.hls_check.proofs.writer.push_closed_place.Goals as goal

pub returns-then-not-is_in : goal.returns-then-not-is_in
returns-then-not-is_in c = not_member c.args.out.now.items c.args.place c.args.is_in c.if-not-is_in.true

pub returns : goal.returns
returns c = a_member c.args.out.now.items c.push_number_line.new.out.items c.args.place c.args.is_in c.if-not-is_in.false c.in_ok-push_number_line.ensures

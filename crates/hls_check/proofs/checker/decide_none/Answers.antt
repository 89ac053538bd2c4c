-- If no step leaves the closed set, the certificate proves that there is no cut.
-- If the last place is in the set too, that is the first fault.
use Rattle.std.proofs.Common.{rules}
use Rattle.hls_check.proofs.ClosedPrices.{stays_in}
use Rattle.hls_check.proofs.checker.decide_none.Goals as goal

pub returns-then-is_closed : goal.returns-then-is_closed
returns-then-is_closed c = (
  c.requires.open.0,
  c.requires.open.1,
  λ p q. stays_in c.args.table.now c.args.closed.now p q (c.requires.keeps p q),
  search rules,
)

pub returns : goal.returns
returns c = record {
  sorted = c.requires.open.0;
  start = c.requires.open.1;
  keeps = λ p q. stays_in c.args.table.now c.args.closed.now p q (c.requires.keeps p q);
  without_end = search rules;
}

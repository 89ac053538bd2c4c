-- The body has at least 188 bytes, so its header can be taken from it.
use Rattle.std.proofs.Common.{sym, arith}
use Rattle.std.proofs.lemmas.List.{length-take-le}
use Rattle.hls_journal.proofs.channel.begins_with.Goals as goal

pub slice_bounds-front-end : goal.slice_bounds-front-end
slice_bounds-front-end c = sym (length-take-le 188 c.args.body.now (omega (arith, c.requires)))

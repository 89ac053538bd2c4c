-- A rendition is valid at its number if it is valid, may have its tolerance there, and no earlier one has its name.
use Rattle.hls_core.proofs.Names.{named_apart}
use Rattle.hls_core.proofs.config.is_rendition_at.Goals as goal

pub returns : goal.returns
returns c =
    rw (c.has_name.ensures, c.deref.ensures)
    (named_apart c.args.renditions.now c.args.n c.args.rendition.now (c.is_rendition.ensures.0 c.if-not-is_rendition.false)
    (c.may_tolerate.ensures.0 c.if-not-may_tolerate.false))

-- If no rendition was found to have the name, the list has none with it.
use Rattle.std.proofs.Common.{arith}
use Rattle.std.proofs.lemmas.Option.{slice_get_within}
use Rattle.hls_core.proofs.Names.{unlisted}
use Rattle.hls_core.proofs.config.has_name.Goals as goal

pub returns : goal.returns
returns c =
    unlisted c.args.renditions.now c.args.name.now
    (λ k r at. c.loop-rendition.invariant k r (omega (arith, c.loop-rendition-test.false, slice_get_within c.args.renditions.now k r at)) at)

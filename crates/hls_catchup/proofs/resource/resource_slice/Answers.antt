-- If the recording has no unit for a slice's number, the resource has no bytes under that number either.
use Rattle.std.proofs.Common.{None, arith}
use Rattle.hls_catchup.proofs.Slices.{unit_slice}
use Rattle.hls_catchup.proofs.resource.resource_slice.Goals as goal

pub returns-in-None-clause-bytes : goal.returns-in-None-clause-bytes
returns-in-None-clause-bytes c =
    unit_slice c.args.recording.now c.args.first c.args.end c.args.number None c.requires.kept (omega (arith, c.if-number-eq0.false))
    (omega (arith, c.if-saturating_sub-number.false, c.saturating_sub.ensures)) c.in-None.ensures

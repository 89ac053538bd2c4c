-- Each round counts the bytes of one more rendition. Once all renditions are counted, the counts are those of the base.
use Rattle.std.proofs.Common.{◌≡◌, ◌<◌, ℕ, length, arith, refl}
use Rattle.hls_core_laws.specs.State.{channel}
use Rattle.hls_renewal.proofs.CutCounts.{all_counted, one_counted}
use Rattle.hls_renewal.proofs.base.count_bytes.Goals as goal

pub loop-rendition-preserved : goal.loop-rendition-preserved
loop-rendition-preserved c =
    let s = c.args.snapshot.now in
    let r : ℕ = c.loop-rendition.rendition in
    let renditions = c.rendition_count-rendition-end.ensures in
    let within : r < length (channel s).lanes = omega (arith, renditions.lanes) in
    one_counted s (c.args.cut.now).place r c.count_bytes_of.result c.loop-rendition.bytes _ c.count_bytes_of.ensures.valid within
    (omega (arith, renditions.lanes, renditions.few)) c.loop-rendition.invariant c.count_bytes_of.ensures.value refl

pub returns : goal.returns
returns c =
    let s = c.args.snapshot.now in
    let all : c.loop-rendition.rendition ≡ length (channel s).lanes = omega (arith, c.rendition_count-rendition-end.ensures.lanes, c.loop-rendition.auto.rendition-end) in
    all_counted s (c.args.cut.now).segments (c.args.cut.now).place c.loop-rendition.rendition c.loop-rendition.bytes all c.loop-rendition.invariant

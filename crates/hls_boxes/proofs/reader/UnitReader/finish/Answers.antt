-- At the end, the fault is the earlier one; else the stream is truncated if bytes of a box are left, or a `moof` without its `mdat`.
-- Otherwise there is none.
use Rattle.std.proofs.Common.{arith}
use Rattle.hls_boxes.proofs.ReaderLaws.{cut_short, ends_with_fault, moof_held, nothing_held}
use Rattle.hls_boxes.proofs.reader.UnitReader.finish.Goals as goal

pub returns-in-Some : goal.returns-in-Some
returns-in-Some c =
    ends_with_fault c.self.inside.whole.items c.self.inside.pending c.args.self.now c.self.inside.fault c.in-Some.fault c.self.view_is c.in-Some.is c.self.invariant

pub returns-then-self-len : goal.returns-then-self-len
returns-then-self-len c =
    cut_short c.self.inside.whole.items c.self.inside.pending c.args.self.now c.self.inside.fault c.self.view_is c.in_default.is c.self.invariant
    (omega (arith, c.len.ensures, c.if-self-len.true, c.self.inside.pending.bytes.ok))

pub returns-then-self : goal.returns-then-self
returns-then-self c =
    moof_held c.self.inside.whole.items c.self.inside.pending c.args.self.now c.self.inside.fault c.self.view_is c.in_default.is c.self.invariant c.if-self.true

pub returns : goal.returns
returns c =
    nothing_held c.self.inside.whole.items c.self.inside.pending c.args.self.now c.self.inside.fault c.self.view_is c.in_default.is c.self.invariant
    (omega (arith, c.len.ensures, c.if-self-len.false, c.self.inside.pending.bytes.ok)) c.if-self.false

-- A piece is refused after an earlier fault, and if an allocation fails, which changes nothing. Otherwise it is appended, and the result is
-- its first fault, if it has one.
use Rattle.std.proofs.Common.{◌∙◌, ◌++◌, List, ℕ, None, ap, refl, subst}
use Rattle.hls_boxes.specs.Feed.{IsReaderState}
use Rattle.hls_boxes.proofs.IntakeLaws.{taken-back}
use Rattle.hls_boxes.proofs.ReaderLaws.{again, brings, fault_is, fed-same, fed_more, no_memory, nothing_more, settles-more}
use Rattle.hls_boxes.proofs.reader.UnitReader.feed.Goals as goal

pub returns-in-Some-clause-err : goal.returns-in-Some-clause-err
returns-in-Some-clause-err c =
    again c.self.inside.whole.items c.self.inside.pending c.args.self.now c.args.piece.now c.self.inside.fault c.in-Some.fault c.self.view_is c.in-Some.is c.self.invariant

pub returns-in-Some-clause-empty : goal.returns-in-Some-clause-empty
returns-in-Some-clause-empty c = λ empty is.
    no_memory c.self.inside.whole.items c.self.inside.pending c.self.inside.fault c.in-Some.fault c.in-Some.is c.self.invariant (cc)

pub returns-then-is_empty-clause-ok : goal.returns-then-is_empty-clause-ok
returns-then-is_empty-clause-ok c = (
  nothing_more c.args.self.now c.args.piece.now c.if-is_empty.ensures,
  fault_is c.self.inside.whole.items c.self.inside.pending c.args.self.now c.self.inside.fault None c.self.view_is c.in_default.is c.self.invariant,
)

pub returns-in_default-feed_piece-clause-err : goal.returns-in_default-feed_piece-clause-err
returns-in_default-feed_piece-clause-err c =
    let back = taken-back c.self.inside.pending c.feed_piece.new.pending c.self.inside.whole.items c.feed_piece.new.whole.items c.save-checkpoint.result.parts c.save-checkpoint.result.len
    c.save-checkpoint.ensures.parts c.save-checkpoint.ensures.len c.in_default-feed_piece.ensures.err in (
      fault_is c.self.inside.whole.items c.self.inside.pending c.args.self.now c.self.inside.fault None c.self.view_is c.in_default.is c.self.invariant,
      fed-same c.self.inside.pending c.restore.new.pending c.self.inside.whole.items c.restore.new.whole.items (c.restore.ensures.whole ∙ back.0) (c.restore.ensures.bytes ∙ back.1)
          ∙ c.self.view_is,
    )

pub invariant_of-self-in-Some-fault : goal.invariant_of-self-in-Some-fault
invariant_of-self-in-Some-fault c =
    settles-more c.self.inside.pending c.feed_piece.new.pending c.self.inside.whole.items c.feed_piece.new.whole.items c.args.piece.now c.in-Ok.fault c.self.inside.fault c.in-Ok.ensures.ok c.self.invariant

pub returns-in-Some-fault-clause-err : goal.returns-in-Some-fault-clause-err
returns-in-Some-fault-clause-err c =
    let more = settles-more c.self.inside.pending c.feed_piece.new.pending c.self.inside.whole.items c.feed_piece.new.whole.items c.args.piece.now c.in-Ok.fault c.self.inside.fault c.in-Ok.ensures.ok c.self.invariant in
    brings c.feed_piece.new.whole.items c.feed_piece.new.pending c.args.self.now c.args.piece.now c.in-Some-fault.found
    (fault_is c.self.inside.whole.items c.self.inside.pending c.args.self.now c.self.inside.fault None c.self.view_is c.in_default.is c.self.invariant)
    (fed_more c.self.inside.pending c.feed_piece.new.pending c.self.inside.whole.items c.feed_piece.new.whole.items c.args.piece.now c.in-Ok.fault c.in-Ok.ensures.ok
    ∙ ap (λ (xs : List ℕ). xs ++ c.args.piece.now) c.self.view_is)
    (subst (IsReaderState c.feed_piece.new.whole.items c.feed_piece.new.pending) c.in-Some-fault.is more)

pub invariant_of-self-2 : goal.invariant_of-self-2
invariant_of-self-2 c =
    settles-more c.self.inside.pending c.feed_piece.new.pending c.self.inside.whole.items c.feed_piece.new.whole.items c.args.piece.now c.in-Ok.fault c.self.inside.fault c.in-Ok.ensures.ok c.self.invariant

pub returns-clause-ok : goal.returns-clause-ok
returns-clause-ok c =
    let more = settles-more c.self.inside.pending c.feed_piece.new.pending c.self.inside.whole.items c.feed_piece.new.whole.items c.args.piece.now c.in-Ok.fault c.self.inside.fault c.in-Ok.ensures.ok c.self.invariant in (
      fed_more c.self.inside.pending c.feed_piece.new.pending c.self.inside.whole.items c.feed_piece.new.whole.items c.args.piece.now c.in-Ok.fault c.in-Ok.ensures.ok
          ∙ ap (λ (xs : List ℕ). xs ++ c.args.piece.now) c.self.view_is,
      fault_is c.feed_piece.new.whole.items c.feed_piece.new.pending _ c.in-Ok.fault None refl c.in_default-fault.is more,
    )

-- Without a complete part nothing is taken; after an allocation failure the part is put back.
use Rattle.std.proofs.Common.{◌∙◌, List, ap, arith, sym}
use Rattle.hls_boxes.specs.declared.complete_part.CompletePart.{CompletePart}
use Rattle.hls_boxes.specs.Feed.{reader_bytes}
use Rattle.hls_boxes.proofs.ReaderLaws.{fed-back, has_first, no_items, none_whole}
use Rattle.hls_boxes.proofs.reader.UnitReader.take.Goals as goal

pub returns-in_default-clause-ok : goal.returns-in_default-clause-ok
returns-in_default-clause-ok c = (
  ap (λ (ws : List CompletePart). reader_bytes ws c.self.inside.pending) (sym c.in_default.ensures.items) ∙ c.self.view_is,
  none_whole c.self.inside.whole.items c.self.inside.pending c.args.self.now c.self.inside.fault c.self.view_is
      (no_items c.self.inside.whole.items (omega (arith, c.in_default.ensures.cases.0, c.self.inside.whole.ok.0))) c.self.invariant,
)

pub returns-in-Err-clause-err : goal.returns-in-Err-clause-err
returns-in-Err-clause-err c = (
  fed-back c.self.inside.whole.items c.pop_front.new.self.items c.push_front_reserved.new.self.items c.in-Some.first c.in-Err.failed.value c.self.inside.pending
      c.in-Some.ensures.items c.push_front_reserved.ensures.items c.in-Err.ensures.err.1 ∙ c.self.view_is,
  has_first c.self.inside.whole.items c.pop_front.new.self.items c.in-Some.first c.self.inside.pending c.args.self.now c.self.inside.fault c.self.view_is c.in-Some.ensures.items c.self.invariant,
)

-- A new reader is in a valid state: it has no complete part and no fault, and its empty part in progress needs more bytes.
use Rattle.std.proofs.Common.{List, None, sym, subst}
use Rattle.hls_boxes.specs.declared.complete_part.CompletePart.{CompletePart}
use Rattle.hls_boxes.specs.Feed.{IsReaderState}
use Rattle.hls_boxes.proofs.IntakeLaws.{waits-start}
use Rattle.hls_boxes.proofs.reader.UnitReader.new.Goals as goal

pub invariant_of-result : goal.invariant_of-result
invariant_of-result c = subst (λ (ws : List CompletePart). IsReaderState ws c.empty.result None) (sym c.new.ensures.items)
    (record { each = tt; pending_is = waits-start c.empty.result c.empty.ensures.bytes c.empty.ensures.at c.empty.ensures.has_moof })

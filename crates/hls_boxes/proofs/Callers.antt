-- The lemmas that other crates cite. Declares nothing.
pub use Rattle.hls_boxes.proofs.CutLaws.{bytes_of-part_of, left_of-open, open-fault_left, refused}
pub use Rattle.hls_boxes.proofs.Headers.{header_at-append, header_at-front, header_at-read, header_at-within, Long, Short}
pub use Rattle.hls_boxes.proofs.KindTests.{ends_init, ends_unit, fills, has_unit, is_last}
pub use Rattle.hls_boxes.proofs.NextLaws.{next-ends, next-fault, next-joins, next-wait}
pub use Rattle.hls_boxes.proofs.TextLaws.{empty, in_order, stay}
pub use Rattle.hls_boxes.proofs.Steps.{Came, came, Fails, fault_of-fits, is_end, IsHeaderFault, Passes, Waits}
pub use Rattle.hls_boxes.proofs.Walk.{children-empty, children-step}
pub use Rattle.hls_boxes.proofs.WholeLaws.{init_part, init_whole, unit_part, unit_whole}

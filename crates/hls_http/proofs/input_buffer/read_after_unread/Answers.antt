-- A read appends bytes of the reader to the unread ones, which may have been moved to the front of the buffer before.
use Rattle.std.proofs.{Common.{◌∙◌, ◌++◌, ℕ, List, arith, take, drop, ap}, lemmas.List.length-take-le}
use Rattle.hls_http.proofs.Buffers.{held_more}
use Rattle.hls_http.proofs.input_buffer.read_after_unread.Goals as goal

pub returns-in-Ok-clause-appends : goal.returns-in-Ok-clause-appends
returns-in-Ok-clause-appends g c =
    let moved : List ℕ = c.make_room-start.new.buffer in
    let items : List ℕ = c.read_into_room.new.buffer in
    let start : ℕ = c.make_room-start.result.0 in
    let end : ℕ = c.make_room-start.result.1 in
    let read : ℕ = c.in-Ok.read in (
      take read (drop end items),
      length-take-le read (drop end items) c.in-Ok.ensures.bound,
      held_more moved items start end read c.make_room-start.ensures.ordered (omega arith) c.read_into_room.ensures.front ∙ ap (λ xs. xs ++ take read (drop end items)) c.make_room-start.ensures.same,
      c.in-Ok.ensures.bytes,
      c.in-Ok.ensures.end,
    )

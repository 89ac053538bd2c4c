-- The records of a text can be numbered in 64 bits. If a sync point after the last complete record names a later byte,
-- synced bytes are damaged.
use Rattle.std.proofs.Common.{refl, arith}
use Rattle.hls_journal_log.proofs.Opened.{damaged}
use Rattle.hls_journal_log.proofs.open.read_log.Goals as goal

pub read_records-requires : goal.read_records-requires
read_records-requires c = omega (arith, c.len-end.ensures.value, c.len-end.ensures.bound)

pub returns-then-has_sync_point_beyond : goal.returns-then-has_sync_point_beyond
returns-then-has_sync_point_beyond c =
    let beyond = c.if-has_sync_point_beyond.ensures in
    damaged c.args.text.now c.deref.result.now c.in_ok-content.content c.len-end.result c.in_ok-content.ensures.reads c.in_ok-content.ensures.len c.deref.ensures c.len-end.ensures.value
    (beyond.0 refl)

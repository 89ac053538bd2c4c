-- Length, mark, number and checksum are read at their places, so a text that passes the tests starts with a sync point.
use Rattle.std.proofs.Common.{◌≡◌, ◌∙◌, ◌-◌, length, take, drop, arith, rules}
use Rattle.byteorder.specs.Numbers.{little_from-take}
use Rattle.hls_journal_log.specs.Records.{body_len_in, checksum, checksum_in}
use Rattle.hls_journal_log.specs.SyncPoints.{sync_mark, number_in, synced_in}
use Rattle.hls_journal_log.proofs.Places.{sync_point_is}
use Rattle.hls_journal_log.proofs.sync_point.read_sync_point.Goals as goal

pub returns : goal.returns
returns c =
    let text = c.args.text.now in
    let len : body_len_in c.args.text.now ≡ 24 = search rules in
    let mark : take 8 (drop 12 c.args.text.now) ≡ sync_mark = search rules in
    let number : c.read_u64-number.result ≡ number_in c.args.text.now =
    c.read_u64-number.ensures ∙ little_from-take 0 8 (length text - 20) (drop 20 text) (omega (arith, c.if-text.false)) in
    let sum : checksum_in c.args.text.now ≡ checksum c.read_u64-number.result (take 24 (drop 12 c.args.text.now)) = search rules in
    let synced : c.read_u64.result ≡ synced_in c.args.text.now =
    c.read_u64.ensures ∙ little_from-take 0 8 (length text - 28) (drop 28 text) (omega (arith, c.if-text.false)) in
    (sync_point_is text c.read_u64-number.result (omega (arith, c.if-text.false)) len mark number sum, synced)

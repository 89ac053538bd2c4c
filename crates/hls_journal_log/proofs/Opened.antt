-- What opening a log leaves.
use Rattle.std.proofs.Common.{◌≡◌, ◌∙◌, ℕ, ◌-◌, ◌≤◌, List, [], ◌∷◌, length, take, drop, sym, ap, subst, arith, length-append, length-drop}
use Rattle.std.proofs.lemmas.List.{take_at, take_all, append-nil}
use Rattle.sqlite_disk.specs.Disk.{Only}
use Rattle.hls_journal_log.specs.declared.read.LogContent.{LogContent}
use Rattle.hls_journal_log.specs.Records.{log_bytes, record_bytes}
use Rattle.hls_journal_log.specs.Reading.{Reads}
use Rattle.hls_journal_log.specs.SyncPoints.{sync_point_body, HasSyncPointBeyond}
use Rattle.hls_journal_log.specs.Opening.{IsRead, IsDamaged, Opens}

-- the first bytes of a text that was read are its records
front_is : (text : List ℕ) (content : LogContent) → IsRead text content → take content.len text ≡ log_bytes 0 content.bodies.items
front_is text content read =
    let rest = (read.reads).rest in
    ap (λ t. take content.len t) (read.reads).is ∙ take_at (log_bytes 0 content.bodies.items) rest content.len (sym read.len)

-- if a text is read, the rest is cut off, and a crash can leave only the result, the log is open
pub opened : (old new text : List ℕ) (outcomes : List ℕ → Type 0) (content : LogContent) → IsRead text content → text ≡ old → new ≡ take content.len old → Only new outcomes → Opens old new outcomes content
opened old new text outcomes content read same cut durable =
    record {
      read = subst (λ (t : List ℕ). IsRead t content) same read;
      cut = cut ∙ ap (λ t. take content.len t) (sym same) ∙ front_is text content read;
      durable = durable;
    }

-- the records that are read are no longer than the text
pub read_within : (text : List ℕ) (content : LogContent) → IsRead text content → content.len ≤ length text
read_within text content read =
    omega (arith, read.len, ap length (read.reads).is, length-append (log_bytes 0 content.bodies.items) (read.reads).rest)

-- a log of one sync point is the bytes of its record
pub one_sync_point : (number synced : ℕ) (body : List ℕ) → body ≡ sync_point_body number synced → log_bytes number (body ∷ []) ≡ record_bytes number (sync_point_body number synced)
one_sync_point number synced body is = append-nil (record_bytes number body) ∙ ap (λ b. record_bytes number b) is

-- if a sync point after the records that are read names a later byte than their end, the text is damaged there
pub damaged : (text seen : List ℕ) (content : LogContent) (end : ℕ) → Reads 0 text content.bodies.items content.ending → content.len ≡ length (log_bytes 0 content.bodies.items)
    → seen ≡ text → end ≡ length text → HasSyncPointBeyond content.len (take (end - content.len) (drop content.len seen)) → IsDamaged text content.len
damaged text seen content end reads len same end_is beyond =
    let rest : take (end - content.len) (drop content.len seen) ≡ drop content.len text =
    ap (λ t. take (end - content.len) (drop content.len t)) same ∙ take_all (end - content.len) (drop content.len text) (omega (arith, end_is, length-drop content.len text)) in
    record {
      bodies = content.bodies.items;
      ending = content.ending;
      reads = reads;
      place = len;
      beyond = subst (λ (t : List ℕ). HasSyncPointBeyond content.len t) rest beyond;
    }

-- Sync points, and the search for them.
use Rattle.std.proofs.Common.{◌≡◌, ◌∙◌, ℕ, ◌+◌, ◌-◌, ◌<◌, ◌≤◌, ◌^◌, List, ◌++◌, length, take, drop, refl, sym, ap, subst, inl, inr, arith, append_assoc, length-append, length-drop}
use Rattle.std.proofs.lemmas.Bool.{cases_lt}
use Rattle.std.proofs.lemmas.List.{take_at, drop_at, drop-drop}
use Rattle.byteorder.specs.Endian.{little_bytes, little_number}
use Rattle.byteorder.specs.Numbers.{little_number-reads_back, length-bytes_low_first}
use Rattle.hls_journal_log.specs.Records.{record_bytes, log_bytes, body_len_in, checksum, checksum_in}
use Rattle.hls_journal_log.specs.SyncPoints.{sync_mark, sync_point_body, number_in, synced_in, IsSyncPoint, HasSyncPointBeyond}
use Rattle.hls_journal_log.specs.Laws.{SyncPointsAreFound, SyncedBytesAreRead}
use Rattle.hls_journal_log.proofs.Headers.{StartsWith, starts_with, behind_header}

-- the body of a sync point has 24 bytes
pub length_sync_point : (number synced : ℕ) → length (sync_point_body number synced) ≡ 24
length_sync_point number synced =
    let all = length-append (sync_mark ++ little_bytes 8 number) (little_bytes 8 synced) in
    let head = length-append sync_mark (little_bytes 8 number) in
    let one : length (little_bytes 8 number) ≡ 8 = length-bytes_low_first 0 8 number in
    let two : length (little_bytes 8 synced) ≡ 8 = length-bytes_low_first 0 8 synced in
    omega (arith, all, head, one, two)

-- the body of a sync point and what follows it are the mark, the number, the synced length, and what follows
parts : (number synced : ℕ) (behind : List ℕ) → sync_point_body number synced ++ behind ≡ sync_mark ++ (little_bytes 8 number ++ (little_bytes 8 synced ++ behind))
parts number synced behind =
    append_assoc (sync_mark ++ little_bytes 8 number) (little_bytes 8 synced) behind
    ∙ append_assoc sync_mark (little_bytes 8 number) (little_bytes 8 synced ++ behind)

-- after its mark, a sync point has its number, its synced length, and what follows the record
behind_mark : (number synced : ℕ) (behind : List ℕ) → drop 20 (record_bytes number (sync_point_body number synced) ++ behind) ≡ little_bytes 8 number ++ (little_bytes 8 synced ++ behind)
behind_mark number synced behind =
    sym (drop-drop 8 12 (record_bytes number (sync_point_body number synced) ++ behind))
    ∙ ap (λ t. drop 8 t) (behind_header number (sync_point_body number synced) behind ∙ parts number synced behind)
    ∙ drop_at sync_mark (little_bytes 8 number ++ (little_bytes 8 synced ++ behind)) 8 refl

-- the number that is read from a sync point is its own
number_read : (number synced : ℕ) (behind : List ℕ) → number < 2 ^ 64 → number_in (record_bytes number (sync_point_body number synced) ++ behind) ≡ number
number_read number synced behind small =
    ap (λ t. little_number 8 t) (behind_mark number synced behind)
    ∙ little_number-reads_back 8 number (little_bytes 8 synced ++ behind) (omega (arith, small))

-- the synced length that is read from a sync point is its own
synced_read : (number synced : ℕ) (behind : List ℕ) → synced < 2 ^ 64 → synced_in (record_bytes number (sync_point_body number synced) ++ behind) ≡ synced
synced_read number synced behind small =
    ap (λ t. little_number 8 t)
    (sym (drop-drop 8 20 (record_bytes number (sync_point_body number synced) ++ behind))
    ∙ ap (λ t. drop 8 t) (behind_mark number synced behind)
    ∙ drop_at (little_bytes 8 number) (little_bytes 8 synced ++ behind) 8 (length-bytes_low_first 0 8 number))
    ∙ little_number-reads_back 8 synced behind (omega (arith, small))

-- a sync point that is written is recognized, with its synced length, whatever follows it
pub sync-points-are-found : SyncPointsAreFound
sync-points-are-found number synced behind number_small synced_small =
    let len = length_sync_point number synced in
    let at : StartsWith number (sync_point_body number synced) (record_bytes number (sync_point_body number synced) ++ behind) =
    starts_with number (sync_point_body number synced) behind (omega (arith, len)) in
    let body : take 24 (drop 12 (record_bytes number (sync_point_body number synced) ++ behind)) ≡ sync_point_body number synced =
    ap (λ t. take 24 t) (behind_header number (sync_point_body number synced) behind) ∙ take_at (sync_point_body number synced) behind 24 len in
    let mark : take 8 (drop 12 (record_bytes number (sync_point_body number synced) ++ behind)) ≡ sync_mark =
    ap (λ t. take 8 t) (behind_header number (sync_point_body number synced) behind ∙ parts number synced behind)
    ∙ take_at sync_mark (little_bytes 8 number ++ (little_bytes 8 synced ++ behind)) 8 refl in
    let same = number_read number synced behind number_small in (
      record {
        complete = omega (arith, at.long, len);
        len = at.len ∙ len;
        mark = mark;
        sum = at.sum ∙ ap (λ k. checksum k (sync_point_body number synced)) (sym same) ∙ ap (λ b. checksum (number_in (record_bytes number (sync_point_body number synced) ++ behind)) b) (sym body);
      },
      synced_read number synced behind synced_small,
    )

-- a log that isn't damaged is read at least up to the place that a sync point in it names, if that is before it
pub synced-bytes-are-read : SyncedBytesAreRead
synced-bytes-are-read text rest number bodies at is undamaged point before =
    elim (cases_lt at (length (log_bytes number bodies))) [
      | inl inside ↦ omega (arith, inside, before)
      | inr past ↦
          (let there : drop at text ≡ drop (at - length (log_bytes number bodies)) rest =
          ap (λ k. drop k text) (omega (arith, past)) ∙ sym (drop-drop (at - length (log_bytes number bodies)) (length (log_bytes number bodies)) text)
          ∙ ap (λ t. drop (at - length (log_bytes number bodies)) t) (ap (λ t. drop (length (log_bytes number bodies)) t) is ∙ drop_at (log_bytes number bodies) rest (length (log_bytes number bodies)) refl) in
          elim (cases_lt (length (log_bytes number bodies)) (synced_in (drop at text))) [
            | inl beyond ↦ absurd (undamaged (at - length (log_bytes number bodies), subst IsSyncPoint there point, subst (λ (t : List ℕ). length (log_bytes number bodies) < synced_in t) there beyond))
            | inr low ↦ low
          ])
    ]

-- no sync point before byte `at` of a text names a byte after this place
abbrev pub NoneSoFar : ℕ → List ℕ → ℕ → Type 0
NoneSoFar place text at = (k : ℕ) → k < at → IsSyncPoint (drop k text) → synced_in (drop k text) ≤ place

-- if none does before a byte, and the one at that byte doesn't either, none does before the next byte
pub one_more_place : (place at : ℕ) (text : List ℕ) → NoneSoFar place text at → (IsSyncPoint (drop at text) → synced_in (drop at text) ≤ place) → NoneSoFar place text (at + 1)
one_more_place place at text none here k before point =
    elim (cases_lt k at) [
      | inl below ↦ none k below point
      | inr past ↦
          (let same : at ≡ k = omega (arith, before, past) in
          subst (λ (n : ℕ). IsSyncPoint (drop n text) → synced_in (drop n text) ≤ place) same here point)
    ]

-- if none does before the end of the text, the text has no sync point that names a byte after the place
pub none_at_all : (place at : ℕ) (text : List ℕ) → NoneSoFar place text at → length text ≤ at → HasSyncPointBeyond place text → ⊥
none_at_all place at text none past has =
    elim (cases_lt has.0 at) [
      | inl below ↦ omega (arith, none has.0 below has.1, has.2)
      | inr behind ↦
          (let gone : length (drop has.0 text) ≡ 0 = omega (arith, length-drop has.0 text, behind, past) in
          omega (arith, gone, has.1.complete))
    ]

-- a text whose length, mark and checksum are those of a sync point of its number starts with a sync point
pub sync_point_is : (text : List ℕ) (number : ℕ) → 36 ≤ length text → body_len_in text ≡ 24 → take 8 (drop 12 text) ≡ sync_mark → number ≡ number_in text
    → checksum_in text ≡ checksum number (take 24 (drop 12 text)) → IsSyncPoint text
sync_point_is text number complete len mark number_is sum =
    record {
      complete = complete;
      len = len;
      mark = mark;
      sum = sum ∙ ap (λ k. checksum k (take 24 (drop 12 text))) number_is;
    }

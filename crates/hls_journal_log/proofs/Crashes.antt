-- A write at the end leaves what is before it.
use Rattle.std.proofs.Common.{◌≡◌, ◌∙◌, ℕ, ◌+◌, ◌-◌, ◌<◌, ◌≤◌, List, [], ◌∷◌, ◌++◌, length, take, drop, get_or, sym, ap, subst, inl, inr, arith, length-append}
use Rattle.std.proofs.lemmas.List.{length-take-le, take-append-drop, ext_get_or, get_or-take, get_or_append_left, get_or-append_right, append-nil}
use Rattle.std.proofs.lemmas.Bool.{cases_lt}
use Rattle.sqlite_disk.specs.Disk.{Torn, Cut, Holds, Follows, Only}
use Rattle.hls_journal_log.specs.Records.{log_bytes}
use Rattle.hls_journal_log.specs.Reading.{Reads}
use Rattle.hls_journal_log.specs.Crashes.{Survive, SurvivorsAreRead}
use Rattle.hls_journal_log.proofs.Headers.{all_read}

-- a write that starts at or after the end of a text leaves the text, even if it is torn
torn_keeps : (text behind c : List ℕ) (at n : ℕ) → length text ≤ at → Torn at n (text ++ behind) c → c ≡ text ++ drop (length text) c
torn_keeps text behind c at n low torn =
    let long : length text ≤ length c = omega (arith, torn.no_shorter, length-append text behind) in
    let front : take (length text) c ≡ text =
    ext_get_or 0 (take (length text) c) text (length-take-le (length text) c long)
    (λ i within.
    let inside : i < length text = omega (arith, within, length-take-le (length text) c long) in
    get_or-take (length text) c i 0 inside
    ∙ torn.below i (omega (arith, inside, length-append text behind)) (omega (arith, inside, low))
    ∙ get_or_append_left text behind 0 i inside) in
    sym (take-append-drop (length text) c) ∙ ap (λ xs. xs ++ drop (length text) c) front

-- a write that starts at or after the end of records leaves them in whatever a crash leaves
pub survive_write : (kept : List (List ℕ)) (at n : ℕ) (old new : List ℕ → Type 0) → length (log_bytes 0 kept) ≤ at → Follows (Torn at n) old new → Survive kept old → Survive kept new
survive_write kept at n old new low follows survive c left =
    let before = follows c left in
    let all = survive before.0 before.1 in
    let torn : Torn at n (log_bytes 0 kept ++ all.0) c = subst (λ (d : List ℕ). Torn at n d c) all.1 before.2 in
    (drop (length (log_bytes 0 kept)) c, torn_keeps (log_bytes 0 kept) all.0 c at n low torn)

-- if a crash can leave only the file, and the file is these records, they survive
pub survive_sync : (kept : List (List ℕ)) (file : List ℕ) (outcomes : List ℕ → Type 0) → Only file outcomes → file ≡ log_bytes 0 kept → Survive kept outcomes
survive_sync kept file outcomes only is c left = ([], only c left ∙ is ∙ sym (append-nil (log_bytes 0 kept)))

-- records that survive a crash are read after it, first and in order
pub survivors-are-read : (outcomes : List ℕ → Type 0) → SurvivorsAreRead outcomes
survivors-are-read outcomes kept c found ending small survive left reads =
    let all = survive c left in
    let read = all_read 0 kept all.0 found ending small (subst (λ (t : List ℕ). Reads 0 t found ending) all.1 reads) in
    (read.0, read.1)

-- after a write at a file's end, the file has the bytes after what it had
appended : (old bytes new : List ℕ) (at : ℕ) → length old ≡ at → Holds new at bytes → Torn at (length bytes) old new → new ≡ old ++ bytes
appended old bytes new at end holds torn =
    let long : length new ≡ length (old ++ bytes) = omega (arith, holds.within, torn.no_longer, length-append old bytes, end) in
    ext_get_or 0 new (old ++ bytes) long
    (λ i within. elim (cases_lt i (length old)) [
      | inl below ↦ torn.below i below (omega (arith, below, end)) ∙ sym (get_or_append_left old bytes 0 i below)
      | inr past ↦
          (let there : at + (i - at) ≡ i = omega (arith, past, end) in
          let inside : i - at < length bytes = omega (arith, within, long, length-append old bytes, past, end) in
          ap (λ k. get_or new k 0) (sym there) ∙ holds.each (i - at) inside ∙ sym (get_or-append_right old bytes at i 0 end (omega (arith, past, end))))
    ])

-- after a write of no bytes, the file is as it was
appended_nothing : (old new : List ℕ) (at : ℕ) → length old ≡ at → Torn at 0 old new → new ≡ old ++ []
appended_nothing old new at end torn =
    let long : length new ≡ length old = omega (arith, torn.no_longer, torn.no_shorter, end) in
    ext_get_or 0 new old long (λ i within. torn.below i (omega (arith, within, long)) (omega (arith, within, long, end))) ∙ sym (append-nil old)

-- after a write at a file's end, empty or not, the file has the bytes after what it had
pub file_after_write : (old bytes new : List ℕ) (at : ℕ) → length old ≡ at → (0 < length bytes → Holds new at bytes) → Torn at (length bytes) old new → new ≡ old ++ bytes
file_after_write old [] new at end holds torn = appended_nothing old new at end torn
file_after_write old (b ∷ bytes) new at end holds torn = appended old (b ∷ bytes) new at end (holds (omega arith)) torn

-- a file that is cut to n bytes has the first n of those that it had
pub file_after_cut : (old new : List ℕ) (n : ℕ) → n ≤ length old → length new ≡ n → Cut n old new → new ≡ take n old
file_after_cut old new n low len cut =
    let long : length new ≡ length (take n old) = omega (arith, len, length-take-le n old low) in
    ext_get_or 0 new (take n old) long
    (λ i within.
    let inside : i < n = omega (arith, within, len) in
    cut.below i (omega (arith, inside, low)) inside ∙ sym (get_or-take n old i 0 inside))

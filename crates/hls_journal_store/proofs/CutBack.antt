-- A cut at the end of a log leaves the records before it.
use Rattle.std.proofs.Common.{◌≡◌, ◌∙◌, ℕ, ◌<◌, ◌≤◌, List, ◌++◌, length, take, drop, sym, ap, subst, arith, length-append}
use Rattle.std.proofs.lemmas.List.{length-take-le, take-append-drop, ext_get_or, get_or-take, get_or_append_left}
use Rattle.sqlite_disk.specs.Disk.{Cut, Follows}
use Rattle.hls_journal_log.specs.Records.{log_bytes}
use Rattle.hls_journal_log.specs.Crashes.{Survive}

-- a cut at or after the end of a text leaves the text, whatever a crash leaves of it
cut_keeps : (text behind c : List ℕ) (n : ℕ) → length text ≤ n → Cut n (text ++ behind) c → c ≡ text ++ drop (length text) c
cut_keeps text behind c n low cut =
    let all = length-append text behind in
    let long : length text ≤ length c = omega (arith, cut.no_shorter, all, low) in
    let front : take (length text) c ≡ text =
    ext_get_or 0 (take (length text) c) text (length-take-le (length text) c long)
    (λ i within.
    let inside : i < length text = omega (arith, within, length-take-le (length text) c long) in
    get_or-take (length text) c i 0 inside
    ∙ cut.below i (omega (arith, inside, all)) (omega (arith, inside, low))
    ∙ get_or_append_left text behind 0 i inside) in
    sym (take-append-drop (length text) c) ∙ ap (λ (xs : List ℕ). xs ++ drop (length text) c) front

-- a cut at or after the end of records leaves them in whatever a crash leaves
pub survive_cut : (kept : List (List ℕ)) (n : ℕ) (old new : List ℕ → Type 0) → length (log_bytes 0 kept) ≤ n → Follows (Cut n) old new → Survive kept old → Survive kept new
survive_cut kept n old new low follows survive c left =
    let before = follows c left in
    let all = survive before.0 before.1 in
    let cut : Cut n (log_bytes 0 kept ++ all.0) c = subst (λ (d : List ℕ). Cut n d c) all.1 before.2 in
    (drop (length (log_bytes 0 kept)) c, cut_keeps (log_bytes 0 kept) all.0 c n low cut)

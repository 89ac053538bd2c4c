-- The contents of a buffer after bytes are taken and after more are read.
use Rattle.std.proofs.Common.{◌≡◌, ◌∙◌, ℕ, ◌+◌, ◌-◌, ◌≤◌, List, ◌++◌, length, take, drop, slice_range, take-add, length-take, sym, ap, subst, arith}
use Rattle.std.proofs.lemmas.List.{drop-append-le, drop-drop, drop-take, take-take}
use Rattle.hls_http.specs.Buffers.{BufferTexts, texts_after_consume}

-- a range of a buffer is what is left of its first `end` bytes after the first `start`
as_drop : (buffer : List ℕ) (start end : ℕ) → start ≤ end → slice_range buffer start end ≡ drop start (take end buffer)
as_drop buffer start end h =
    let whole : start + (end - start) ≡ end = omega arith in sym (drop-take start (end - start) buffer) ∙ ap (λ k. drop start (take k buffer)) whole

-- a range that begins `len` bytes later is the range without its first `len` bytes
held_drop : (buffer : List ℕ) (start end len : ℕ) → start + len ≤ end → slice_range buffer (start + len) end ≡ drop len (slice_range buffer start end)
held_drop buffer start end len h =
    as_drop buffer (start + len) end h ∙ sym (drop-drop len start (take end buffer)) ∙ ap (drop len) (sym (as_drop buffer start end (omega arith)))

-- a range that ends `len` bytes after its start is the first `len` bytes of the longer range
held_take : (buffer : List ℕ) (start end len : ℕ) → start + len ≤ end → slice_range buffer start (start + len) ≡ take len (slice_range buffer start end)
held_take buffer start end len h =
    let size : (start + len) - start ≡ len = omega arith in
    ap (λ k. take k (drop start buffer)) size ∙ sym (take-take len (end - start) (drop start buffer) (omega (arith, h)))

-- if the bytes before `end` stay the same, a range that ends `read` bytes later has those bytes appended
pub held_more : (old new : List ℕ) (start end read : ℕ) → start ≤ end → end ≤ length new → take end new ≡ take end old
    → slice_range new start (end + read) ≡ slice_range old start end ++ take read (drop end new)
held_more old new start end read h within front =
    as_drop new start (end + read) (omega arith) ∙ ap (drop start) (take-add end read new)
    ∙ drop-append-le start (take end new) (take read (drop end new)) (omega (arith, length-take end new))
    ∙ ap (λ xs. xs ++ take read (drop end new)) (ap (drop start) front ∙ sym (as_drop old start end h))

-- a length that fits into the unread bytes ends before their end
fits : (buffer : List ℕ) (start end len : ℕ) → start ≤ end → len ≤ length (slice_range buffer start end) → start + len ≤ end
fits buffer start end len h few = omega (arith, length-take (end - start) (drop start buffer), few)

-- taking `len` unread bytes moves the buffer's start by `len`: the taken and the unread range are the texts after it
pub takes : (buffer : List ℕ) (from start end len room : ℕ) (texts : BufferTexts) → start ≤ end
    → record { taken = slice_range buffer from start; unread = slice_range buffer start end; room = room } ≡ texts → len ≤ length texts.unread
    → record { taken = slice_range buffer start (start + len); unread = slice_range buffer (start + len) end; room = room } ≡ texts_after_consume texts len
takes buffer from start end len room texts ordered are few =
    let within = fits buffer start end len ordered (subst (λ (t : BufferTexts). len ≤ length t.unread) (sym are) few) in
    (λ i. record { taken = held_take buffer start end len within i; unread = held_drop buffer start end len within i; room = room })
    ∙ ap (λ t. texts_after_consume t len) are

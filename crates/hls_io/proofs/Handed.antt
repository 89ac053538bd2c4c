-- Bytes that are taken from the front.
use Rattle.std.proofs.Common.{◌≡◌, ◌∙◌, ℕ, ◌+◌, ◌-◌, ◌≤◌, List, [], ◌∷◌, ◌++◌, Option, Some, length, take, drop, refl, sym, ap, arith, append_assoc, length-drop}
use Rattle.std.{specs.Prelude.unwrap_or, proofs.{lemmas.List.take-append-drop, Math.Seq.drop-append-add}}
use Rattle.hls_io.specs.SentBytes.{sent_bytes, waiting_bytes, SentAndWaitingAreAll}

-- no byte is lost: what is sent and what waits are all bytes
pub none_lost : SentAndWaitingAreAll
none_lost bytes [] = refl
none_lost bytes (count ∷ counts) =
    append_assoc (take count bytes) (sent_bytes (drop count bytes) counts) (waiting_bytes (drop count bytes) counts)
    ∙ ap (λ xs. take count bytes ++ xs) (none_lost (drop count bytes) counts) ∙ take-append-drop count bytes

-- dropping more bytes than are left of a text that precedes some media drops the difference from the media
pub past_text : (text media : List ℕ) (sent count : ℕ) → length text - sent ≤ count → drop count (drop sent text ++ media) ≡ drop (count - (length text - sent)) media
past_text text media sent count past =
    let long : length (drop sent text) ≡ length text - sent = length-drop sent text in
    let sum : count ≡ length (drop sent text) + (count - (length text - sent)) = omega (arith, past, long) in
    ap (λ n. drop n (drop sent text ++ media)) sum ∙ drop-append-add (drop sent text) media (count - (length text - sent))

-- if the rest of a text was sent and then part of the media, what is left is the whole without the bytes that were sent
pub media_left : (text shown media left whole : List ℕ) (held : Option (List ℕ)) (sent count : ℕ) → shown ≡ text → held ≡ Some media → drop sent text ++ unwrap_or held [] ≡ whole
    → length shown - sent ≤ count → left ≡ drop (count - (length shown - sent)) media → left ≡ drop count whole
media_left text shown media left whole held sent count same is sees past went =
    went ∙ ap (λ (xs : List ℕ). drop (count - (length xs - sent)) media) same ∙ sym (past_text text media sent count (omega (arith, past, ap length same)))
    ∙ ap (λ (o : Option (List ℕ)). drop count (drop sent text ++ unwrap_or o [])) (sym is) ∙ ap (drop count) sees

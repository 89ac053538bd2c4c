-- Output that is written in parts.
use Rattle.std.proofs.Common.{◌≡◌, ◌∙◌, ℕ, List, [], ◌++◌, Option, Some, Bool, true, length, drop, refl, sym, ap, append_assoc, append-nil}
use Rattle.std.proofs.lemmas.List.{take-append-drop}
use Rattle.bytes.specs.Unread.{IsChunkOf}
use Rattle.hls_io.specs.Writing.{Writes}

-- if a text was written completely, the writer's contents are the held bytes and the text
pub writes_whole : (held text : List ℕ) (contents : Option (List ℕ)) → Writes held text contents true → contents ≡ Some (held ++ text)
writes_whole held text contents w =
    w.contents_are ∙ ap (λ xs. Some (held ++ xs)) (sym (w.split ∙ ap (λ xs. w.written ++ xs) (w.whole refl) ∙ append-nil w.written))

-- if a text was written completely and equals another, the writer's contents are the held bytes and the other
pub writes_as : (held text other : List ℕ) (contents : Option (List ℕ)) → text ≡ other → Writes held text contents true → contents ≡ Some (held ++ other)
writes_as held text other contents is w = writes_whole held text contents w ∙ ap (λ xs. Some (held ++ xs)) is

-- a front of the text was written after the held bytes, and the rest waits
pub record Sent (held text waiting : List ℕ) (contents : Option (List ℕ)) : Type 0 where
  pub written : List ℕ
  pub split : text ≡ written ++ waiting
  pub contents_are : contents ≡ Some (held ++ written)

-- if some of the next chunk is written after the front, the rest of that chunk and what follows it still wait
pub chunk_sent : (held text waiting chunk : List ℕ) (old new : Option (List ℕ)) (done : Bool) (s : Sent held text waiting old) → IsChunkOf chunk waiting
    → (w : Writes (held ++ s.written) chunk new done) → Sent held text (w.left ++ drop (length chunk) waiting) new
chunk_sent held text waiting chunk old new done s is w =
    let later : List ℕ = drop (length chunk) waiting in
    let front : waiting ≡ (w.written ++ w.left) ++ later = sym (take-append-drop (length chunk) waiting) ∙ ap (λ xs. xs ++ later) (is.front ∙ w.split) in record {
      written = s.written ++ w.written;
      split = s.split ∙ ap (λ xs. s.written ++ xs) (front ∙ append_assoc w.written w.left later) ∙ sym (append_assoc s.written w.written (w.left ++ later));
      contents_are = w.contents_are ∙ ap Some (append_assoc held s.written w.written);
    }

-- if nothing waits when the writing reports success, the text was written, completely or up to a place
pub sent : (held text waiting : List ℕ) (contents : Option (List ℕ)) (done : Bool) → Sent held text waiting contents → (done ≡ true → waiting ≡ []) → Writes held text contents done
sent held text waiting contents done s whole = record { written = s.written; left = waiting; split = s.split; contents_are = s.contents_are; whole = whole }

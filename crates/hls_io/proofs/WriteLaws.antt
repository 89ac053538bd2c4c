-- A text written by several calls.
use Rattle.std.proofs.Common.{◌≡◌, ◌∙◌, ◌≤◌, ◌-◌, ℕ, List, [], ◌∷◌, ◌++◌, Option, Some, None, true, false, take, drop, length, refl, sym, ap, append_assoc, append-nil, arith, length-drop}
use Rattle.std.{specs.Io.KnownBytes.{Appends, Keeps}, proofs.lemmas.List.{take-append-drop, take_all}}
use Rattle.hls_io.specs.Writing.{Writes}

-- the part of a text before `rest` was written after the earlier output
pub record Writing (held text rest : List ℕ) (contents : Option (List ℕ)) : Type 0 where
  pub written : List ℕ
  pub split : text ≡ written ++ rest
  pub contents_are : contents ≡ Some (held ++ written)

-- before the first call nothing of the text was written
pub writing_none : (held text : List ℕ) (contents : Option (List ℕ)) → contents ≡ Some held → Writing held text text contents
writing_none held text contents is = record { written = []; split = refl; contents_are = is ∙ ap Some (sym (append-nil held)) }

-- if the output was known and a call appends bytes, the output after it is known
appended : (held : List ℕ) (old new : Option (List ℕ)) (bytes : List ℕ) → old ≡ Some held → Appends old new bytes → new ≡ Some (held ++ bytes)
appended held None new bytes is more = cc
appended held (Some xs) None bytes is more = absurd more
appended held (Some xs) (Some ys) bytes is more = let same : xs ≡ held = cc in ap Some (more ∙ ap (λ zs. zs ++ bytes) same)

-- if the output was known and a call keeps it, it is still known
kept : (held : List ℕ) (old new : Option (List ℕ)) → old ≡ Some held → Keeps old new → new ≡ Some held
kept held None new is keeps = cc
kept held (Some xs) None is keeps = absurd keeps
kept held (Some xs) (Some ys) is keeps = cc

-- after a call that appends the first bytes of the rest, `rest` begins after them
pub writing_more : (held text rest : List ℕ) (n k : ℕ) (old new : Option (List ℕ)) → Writing held text rest old → Appends old new (take n rest) → length rest - n ≤ k → Writing held text (take k (drop n rest)) new
writing_more held text rest n k old new h more room =
    let all : take k (drop n rest) ≡ drop n rest = take_all k (drop n rest) (omega (arith, length-drop n rest)) in record {
      written = h.written ++ take n rest;
      split = h.split ∙ ap (λ xs. h.written ++ xs) (sym (take-append-drop n rest)) ∙ sym (append_assoc h.written (take n rest) (drop n rest)) ∙ ap (λ xs. (h.written ++ take n rest) ++ xs) (sym all);
      contents_are = appended (held ++ h.written) old new (take n rest) h.contents_are more ∙ ap Some (append_assoc held h.written (take n rest));
    }

-- when no rest is left, the text was written as a whole
pub writes_whole : (held text rest : List ℕ) (contents : Option (List ℕ)) → Writing held text rest contents → rest ≡ [] → Writes held text contents true
writes_whole held text rest contents h none = record { written = h.written; left = rest; split = h.split; contents_are = h.contents_are; whole = λ e. none }

-- if a call fails and keeps the output, part of the text was written
pub writes_part : (held text rest : List ℕ) (old new : Option (List ℕ)) → Writing held text rest old → Keeps old new → Writes held text new false
writes_part held text rest old new h keeps = record { written = h.written; left = rest; split = h.split; contents_are = kept (held ++ h.written) old new h.contents_are keeps; whole = λ e. cc }

-- What writing a reply does, and whether the session continues after it.
use Rattle.std.specs.Prelude.{◌≡◌, ℕ, ◌⊎◌, Bool, true, false, List, ◌++◌, Option, Some, Result, Ok, Err}
use Rattle.hls_io.specs.{Failures.FailuresRose, Writing.Writes}
use Rattle.hls_http.specs.{declared.end.SessionEnd.SessionEnd, declared.response_parts.ResponseParts.ResponseParts}
use Rattle.hls_http.specs.declared.end.SessionEnd.TheVariants.{Closed, Refused, CutShort, ReadFailed, WriteFailed}
use Rattle.hls_http.specs.ResponseText.{is_success, out_of_memory_response, response_text}

-- the reply was written after the held bytes, or, out of memory, the reply that needs no allocation, or a prefix of either; a reply
-- that ends the session is a success or a refusal
abbrev pub WritesResponse : ResponseParts → List ℕ → Bool → List ℕ → Option (List ℕ) → Result (Unit {0}) SessionEnd → Type 0
WritesResponse head body to_head held contents (Ok done) = (head.closing ≡ false) × (contents ≡ Some (held ++ response_text head body to_head))
WritesResponse head body to_head held contents (Err Closed) =
    (head.closing ≡ true) × (is_success head.status ≡ true) × (contents ≡ Some (held ++ response_text head body to_head))
WritesResponse head body to_head held contents (Err Refused) =
    ((head.closing ≡ true) × (is_success head.status ≡ false) × (contents ≡ Some (held ++ response_text head body to_head)))
    ⊎ (contents ≡ Some (held ++ out_of_memory_response to_head))
WritesResponse head body to_head held contents (Err WriteFailed) =
    Writes held (response_text head body to_head) contents false ⊎ Writes held (out_of_memory_response to_head) contents false
WritesResponse head body to_head held contents (Err end) = ⊥

-- a reply ends a session with neither CutShort nor ReadFailed; only WriteFailed raises the number of failures
abbrev pub CountsResponse : Result (Unit {0}) SessionEnd → ℕ → ℕ → Type 0
CountsResponse (Err CutShort) old new = ⊥
CountsResponse (Err ReadFailed) old new = ⊥
CountsResponse (Err WriteFailed) old new = FailuresRose old new
CountsResponse _ old new = new ≡ old

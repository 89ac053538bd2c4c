-- The token at the front of a body's held bytes, and the pieces of a body that a reader yields.
use Rattle.std.specs.Prelude.{◌≡◌, ℕ, ◌<◌, ◌≤◌, List, [], length, take, drop, Option, Some, Result, Ok, Err}
use Rattle.hls_io.specs.Failures.{FailuresRose}
use Rattle.hls_http.specs.{declared.framing.BodyFraming.BodyFraming, declared.framing.BodyFraming.TheVariants.Length, declared.end.BodyEnd.BodyEnd}
use Rattle.hls_http.specs.{declared.body_tokens.BodyToken.BodyToken, declared.body_tokens.TokenFault.TokenFault, declared.body_tokens.BodyRead.BodyRead}
use Rattle.hls_http.specs.{Bodies.{Steps, IsBroken, IsOpen, RunsOnReader}, declared.body_tokens.BodyRead.TheVariants.{Piece, End}}
use Rattle.hls_http.specs.declared.body_tokens.TokenFault.TheVariants.{Incomplete, Invalid}
use Rattle.hls_http.specs.declared.end.BodyEnd.TheVariants.{BadFraming, CutShort, ReadFailed}
use Rattle.hls_http.specs.declared.body_tokens.BodyToken.TheVariants as tokens

-- the last byte of a body by length is a piece of its own; no other piece ends a body, since in a chunked body the last chunk's line
-- and the trailers are still to come
abbrev pub IsLastAlone : BodyFraming → BodyFraming → Type 0
IsLastAlone b next = next ≡ Length 0 → b ≡ Length 1

-- the token is at the front of the held bytes, with this length and this framing of the rest of the body
abbrev pub IsToken : BodyFraming → List ℕ → BodyToken → Type 0
IsToken b held (tokens.Piece len next) = (0 < len) × (len ≤ length held) × Steps b held (take len held) next (drop len held) × IsLastAlone b next
IsToken b held (tokens.Frame len next) = (0 < len) × (len ≤ length held) × Steps b held [] next (drop len held)

-- the token at the front of the held bytes; or more bytes are needed; or the body is broken
abbrev pub FindsToken : BodyFraming → List ℕ → Result BodyToken TokenFault → Type 0
FindsToken b held (Ok found) = IsToken b held found
FindsToken b held (Err Incomplete) = (length held < 16384) × IsOpen b held
FindsToken b held (Err Invalid) = IsBroken b held

-- why no more of a body can be read
abbrev pub IsBodyEnd : BodyFraming → List ℕ → Option (List ℕ) → BodyEnd → Type 0
IsBodyEnd last held left BadFraming = IsBroken last held
IsBodyEnd last held left CutShort = (left ≡ Some []) × IsOpen last held
IsBodyEnd last held left ReadFailed = IsOpen last held

-- a piece that isn't empty, or the end of the body, or why there is neither
abbrev pub ReadsPiece : BodyFraming → List ℕ → BodyFraming → List ℕ → List ℕ → Option (List ℕ) → Result BodyRead BodyEnd → Type 0
ReadsPiece b input last taken held left (Ok Piece) = (0 < length taken) × RunsOnReader b input taken last held left × IsLastAlone b last
ReadsPiece b input last taken held left (Ok End) = (last ≡ Length 0) × RunsOnReader b input [] last held left
ReadsPiece b input last taken held left (Err end) = RunsOnReader b input [] last held left × IsBodyEnd last held left end

-- a body that ends with ReadFailed raises the number of failures; any other outcome leaves it
abbrev pub CountsBody : Result BodyRead BodyEnd → ℕ → ℕ → Type 0
CountsBody (Err ReadFailed) old new = FailuresRose old new
CountsBody _ old new = new ≡ old

-- The limits of requests.
use Rattle.std.specs.Prelude.{ℕ, ◌^◌}

-- the most bytes of a head, with the empty lines before it and the empty line at its end; of a chunk's size line with its
-- CR LF; and of trailers with the empty line at their end
abbrev pub head_limit : ℕ
head_limit = 16384

-- the most fields of a head, or of trailers
abbrev pub field_limit : ℕ
field_limit = 64

-- the most bytes of a body that is discarded
abbrev pub discard_limit : ℕ
discard_limit = 65536

-- the most digits of a Content-Length, and of the seconds of a Prefer field
abbrev pub length_digits : ℕ
length_digits = 15

-- the largest number in a Range; a larger one is capped at this
abbrev pub range_limit : ℕ
range_limit = 2 ^ 53

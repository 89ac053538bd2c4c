-- The address of a server: `a.b.c.d:port` in decimal, without leading zeros.
use Rattle.std.specs.Prelude.{ℕ, List, Option, Some, None, cond, option_and_then}
use Rattle.hls_text.specs.Digits.{has_no_leading_zero, number_of_digits}
use Rattle.hls_settings.specs.declared.listen_address.ListenAddress.{ListenAddress}
use Rattle.hls_settings.specs.Numbers.{cut_at, in_range}

-- the number that a text spells, from 0 to a bound and without a leading zero
abbrev pub small_of : ℕ → List ℕ → Option ℕ
small_of most text = cond (has_no_leading_zero text) (option_and_then (in_range 0 most) (number_of_digits 16 text)) None

-- a number together with the text after it, if there is a number
abbrev pub numbered_by : Option ℕ → List ℕ → Option (ℕ × List ℕ)
numbered_by None rest = None
numbered_by (Some n) rest = Some (n, rest)

-- the number before a delimiter, from 0 to a bound, and the text after the delimiter
abbrev pub numbered : ℕ → Option (List ℕ × List ℕ) → Option (ℕ × List ℕ)
numbered most None = None
numbered most (Some parts) = numbered_by (small_of most parts.0) parts.1

-- the number from 0 to 255 before the first dot, and the text after that dot
abbrev pub octet_of : List ℕ → Option (ℕ × List ℕ)
octet_of text = numbered 255 (cut_at 46 text)

-- the number from 0 to 255 before the first colon, and the text after that colon
abbrev pub last_octet_of : List ℕ → Option (ℕ × List ℕ)
last_octet_of text = numbered 255 (cut_at 58 text)

-- the address of these four octets and this port, if there is a port
abbrev pub address_with : ℕ → ℕ → ℕ → ℕ → Option ℕ → Option ListenAddress
address_with a b c d None = None
address_with a b c d (Some port) = Some (record { a = a; b = b; c = c; d = d; port = port })

-- the address that a text spells: four octets with dots between them, a colon, and a port up to 65535
abbrev pub address_of : List ℕ → Option ListenAddress
address_of text =
    option_and_then (λ a. option_and_then (λ b. option_and_then (λ c. option_and_then (λ d. address_with a.0 b.0 c.0 d.0 (small_of 65535 d.1))
    (last_octet_of c.1)) (octet_of b.1)) (octet_of a.1)) (octet_of text)

-- The length of a request's body, from its head (RFC 9112, section 6.3); an ambiguous length is refused.
use Rattle.std.specs.Prelude.{ℕ, Bool, true, false, ◌&&◌, cond, nat_eq, List, [], ◌∷◌, Option, Some, None, Result, Ok, Err, codes}
use Rattle.std.specs.{List.list_all, Str.str_eq_ignore_ascii_case}
use Rattle.hls_http.specs.declared.{framing.BodyFraming.{BodyFraming, TheVariants.{Length, Size}}, fault.HttpFault.HttpFault}
use Rattle.hls_http.specs.{declared.fault.HttpFault.TheVariants.{BadHead, BadFraming}, Fields.{Fields, values, length_of}}

-- an optional number is this number
abbrev pub is_number : ℕ → Option ℕ → Bool
is_number n None = false
is_number n (Some m) = nat_eq m n

-- a Content-Length value is this number
abbrev pub is_length : ℕ → List ℕ → Bool
is_length n value = is_number n (length_of value)

-- the framing by the first Content-Length and the others; equal lengths count as one
abbrev pub framing_of_lengths : Option ℕ → List (List ℕ) → Result BodyFraming HttpFault
framing_of_lengths None more = Err BadFraming
framing_of_lengths (Some n) more = cond (list_all (is_length n) more) (Ok (Length n)) (Err BadFraming)

-- a transfer coding is `chunked`, in any case, and the request is HTTP/1.1
abbrev pub is_chunked : ℕ → List ℕ → Bool
is_chunked minor coding = nat_eq minor 1 && str_eq_ignore_ascii_case coding (codes "chunked")

-- the framing by the values of Content-Length and of Transfer-Encoding
abbrev pub framing_by_values : ℕ → List (List ℕ) → List (List ℕ) → Result BodyFraming HttpFault
framing_by_values minor [] [] = Ok (Length 0)
framing_by_values minor (value ∷ more) [] = framing_of_lengths (length_of value) more
framing_by_values minor [] (coding ∷ []) = cond (is_chunked minor coding) (Ok Size) (Err BadFraming)
framing_by_values minor lengths codings = Err BadFraming

-- the framing of a request's body by its Content-Length and Transfer-Encoding fields
abbrev pub framing_of : ℕ → Fields → Result BodyFraming HttpFault
framing_of minor fields = framing_by_values minor (values (codes "content-length") fields) (values (codes "transfer-encoding") fields)

-- a list of exactly one element
abbrev pub has_one : {A : Type 0} → List A → Bool
has_one [] = false
has_one (x ∷ []) = true
has_one (x ∷ y ∷ xs) = false

-- HTTP/1.1 has exactly one Host (RFC 9112, section 3.2); HTTP/1.0 may have any number
abbrev pub has_host : ℕ → Fields → Bool
has_host minor fields = cond (nat_eq minor 0) true (has_one (values (codes "host") fields))

-- the framing of a request's body, or the first fault of its fields
abbrev pub checked_framing : ℕ → Fields → Result BodyFraming HttpFault
checked_framing minor fields = cond (has_host minor fields) (framing_of minor fields) (Err BadHead)

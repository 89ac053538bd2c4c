-- What the header fields say, as a function of their names and values.
use Rattle.std.specs.Prelude.{ℕ, ◌+◌, ◌*◌, ◌%◌, ◌^◌, Bool, ◌&&◌, ◌||◌, cond, ◌==◌, nat_eq, ◌-◌, List, [], ◌∷◌, length, take, drop, Option, None, codes, bytes_eq}
use Rattle.std.specs.{List.{fold, list_any, prefix_len, slice_split, suffix_len}, Char.is_ascii_whitespace, Str.str_eq_ignore_ascii_case}
use Rattle.hls_text.specs.Digits.{number_of_digits}
use Rattle.hls_http.specs.Limits.{length_digits}

-- the names and values of a head's fields
abbrev pub Fields : Type 0
Fields = List (List ℕ × List ℕ)

-- a field has this name, in any case (RFC 9110, section 5.1)
abbrev pub has_name : List ℕ → List ℕ × List ℕ → Bool
has_name name field = str_eq_ignore_ascii_case field.0 name

-- the values of the fields of this name, in order
unfoldable pub values : List ℕ → Fields → List (List ℕ)
values name [] = []
values name (field ∷ fields) = cond (has_name name field) (field.1 ∷ values name fields) (values name fields)

-- the number that a Content-Length gives
abbrev pub length_of : List ℕ → Option ℕ
length_of value = number_of_digits length_digits value

-- the pieces of a list between its commas
abbrev pub between_commas : List ℕ → List (List ℕ)
between_commas bytes = slice_split (λ b. b == 44) bytes

-- a text without the blanks at its start
abbrev pub trim_front : List ℕ → List ℕ
trim_front text = drop (prefix_len is_ascii_whitespace text) text

-- a text without the blanks at both ends
abbrev pub trim : List ℕ → List ℕ
trim text = take (length (trim_front text) - suffix_len is_ascii_whitespace (trim_front text)) (trim_front text)

-- a piece is this token, in any case, with or without blanks around it
abbrev pub is_word : List ℕ → List ℕ → Bool
is_word word piece = str_eq_ignore_ascii_case (trim piece) word

-- a list of tokens (RFC 9110, section 5.6.1) contains this one
unfoldable pub has_word : List ℕ → List ℕ → Bool
has_word word value = list_any (is_word word) (between_commas value)

-- the connection ends after this request: HTTP/1.0, or `Connection` contains `close` (RFC 9112, section 9.6)
abbrev pub closes_connection : ℕ → Fields → Bool
closes_connection minor fields = nat_eq minor 0 || list_any (has_word (codes "close")) (values (codes "connection") fields)

-- a value of Expect: the client waits for 100 Continue (RFC 9110, section 10.1.1)
abbrev pub expects_continue : List ℕ → Bool
expects_continue value = str_eq_ignore_ascii_case value (codes "100-continue")

-- an HTTP/1.1 client waits for 100 Continue before it sends the body
abbrev pub expects : ℕ → Fields → Bool
expects minor fields = nat_eq minor 1 && list_any expects_continue (values (codes "expect") fields)

-- how many seconds a value lets the response wait (RFC 7240, section 4.3): `wait=` and digits; any other form is ignored
unfoldable pub wait_of_value : List ℕ → Option ℕ
wait_of_value value = cond (bytes_eq (take 5 value) (codes "wait=")) (number_of_digits length_digits (drop 5 value)) None

-- the seconds that the Prefer fields let the response wait; several fields are ignored
abbrev pub wait_of_values : List (List ℕ) → Option ℕ
wait_of_values [] = None
wait_of_values (value ∷ []) = wait_of_value value
wait_of_values (value ∷ other ∷ more) = None

-- the number of a client's name, byte by byte
abbrev pub client_of_value : List ℕ → ℕ
client_of_value name = fold (λ number byte. (number * 1099511628211 % 2 ^ 64 + byte) % 2 ^ 64) 0 name

-- the number of the client that the X-Client fields name; 0 without the field, and several fields are ignored
abbrev pub client_of_values : List (List ℕ) → ℕ
client_of_values [] = 0
client_of_values (name ∷ []) = client_of_value name
client_of_values (name ∷ other ∷ more) = 0

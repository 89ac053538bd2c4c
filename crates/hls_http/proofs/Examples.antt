-- The definitions, computed on rows that no test covers.
use Rattle.std.proofs.Common.{◌≡◌, true, false, [], ◌∷◌, Err, refl, codes}
use Rattle.hls_http.specs.{declared.fault.HttpFault.TheVariants.BadFraming, Framing.checked_framing}
use Rattle.hls_http.specs.{Fields.{values, has_word, closes_connection}, Range.{range_of_value, range_selection}}
use Rattle.hls_text.specs.Digits.{number_of_digits}
use Rattle.hls_http.specs.declared.range_spec.RangeSelection.TheVariants as parts

-- a Content-Length of sixteen digits is refused
sixteen_digits : checked_framing 1 ((codes "HOST", codes "a") ∷ (codes "Content-Length", codes "0000000000000005") ∷ []) ≡ Err BadFraming
unfolding values number_of_digits
sixteen_digits = refl

-- `Close` in a list of tokens, in any case, ends the connection
close_in_a_list : closes_connection 1 ((codes "Connection", codes "keep-alive ,  Close") ∷ []) ≡ true
unfolding values has_word
close_in_a_list = refl

-- `closed` isn't the token `close`: the connection stays open
stays : closes_connection 1 ((codes "Connection", codes "closed") ∷ []) ≡ false
unfolding values has_word
stays = refl

-- `bytes=0-` selects the whole resource as a range
from_the_front : range_selection (range_of_value (codes "bytes=0-")) 3600 ≡ parts.Slice 0 3600
unfolding range_of_value
from_the_front = refl

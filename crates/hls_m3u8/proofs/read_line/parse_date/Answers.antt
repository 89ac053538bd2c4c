-- The value of EXT-X-PROGRAM-DATE-TIME is read as its instant, rounded down to whole milliseconds; the multiplication by 1000 doesn't overflow.
use Rattle.std.proofs.Common.{◌≡◌, ℕ, List, Some, option_map, sym, ap, ◌∙◌, rules}
use Rattle.std.specs.Borrow.{Bor}
use Rattle.hls_instants.specs.Instants.{instant_of}
use Rattle.hls_m3u8.specs.ReadLines.{in_milliseconds, date_value}
use Rattle.hls_m3u8.proofs.Dates.{rounded}
use Rattle.hls_m3u8.proofs.read_line.parse_date.Goals as goal

pub overflow_mul-result : goal.overflow_mul-result
overflow_mul-result c = (rounded c.in_ok-us.us c.div_euclid.result c.in_ok-us.ensures.bounds c.div_euclid.ensures).0

pub returns : goal.returns
returns c =
    let given : option_map (λ (v : Bor (List ℕ)). v.now) c.args.value ≡ Some c.in_ok-value.field-0.now = search rules in
    let read : instant_of c.in_ok-value.field-0.now ≡ Some c.in_ok-us.us = ap instant_of (sym c.as_bytes.ensures.value) ∙ sym c.in_ok-us.ensures.is in
    ap Some (rounded c.in_ok-us.us c.div_euclid.result c.in_ok-us.ensures.bounds c.div_euclid.ensures).1
    ∙ sym (ap date_value given ∙ ap in_milliseconds read)

-- A text without the shape, or one that the library refuses, is the text of no instant. Any other is the text of the library's instant,
-- rounded down to whole microseconds, which is within the bounds.
use Rattle.std.proofs.Common.{◌≡◌, ℕ, ℤ, pos, List, Some, sym, ap, ◌∙◌, arith, FitsSigned, w64, to_z, of_z}
use Rattle.std.proofs.lemmas.Int.{to_z-of_z}
use Rattle.std.specs.Int.{int_div_euclid, w128}
use Rattle.jiff_core.specs.Timestamp.{IsTimestampNanos}
use Rattle.jiff_core.proofs.SignedLemmas.{signed_arith}
use Rattle.hls_instants.specs.Instants.{instant_of}
use Rattle.hls_instants.proofs.Moments.{unshaped, unread, well_read, none_named, some_named, in_bounds}
use Rattle.hls_instants.proofs.read.parse_instant.Goals as goal

-- if an instant in whole microseconds is the text's, so it is after the casts from 128 to 64 bits
as_read : (text : List ℕ) (n q : ℤ) → IsTimestampNanos n → q ≡ int_div_euclid (to_z w128 (of_z w128 n)) (pos 1000)
    → Some (int_div_euclid n (pos 1000)) ≡ instant_of text → Some (to_z w64 (of_z w64 (to_z w128 (of_z w128 q)))) ≡ instant_of text
as_read text n q range is i =
    let f : FitsSigned w128 n = omega (arith, signed_arith, range) in
    let same : q ≡ int_div_euclid n (pos 1000) = is ∙ ap (λ m. int_div_euclid m (pos 1000)) (to_z-of_z w128 n f) in
    let g : FitsSigned w128 q = omega (arith, signed_arith, range, same) in
    let h : FitsSigned w64 q = omega (arith, signed_arith, range, same) in
    simp to_z-of_z (ap Some same ∙ i)

pub returns-then-not-has_shape-clause-is : goal.returns-then-not-has_shape-clause-is
returns-then-not-has_shape-clause-is c = unshaped c.args.text.now (sym c.has_shape.ensures ∙ c.if-not-has_shape.true)

pub returns-then-not-has_shape-clause-value : goal.returns-then-not-has_shape-clause-value
returns-then-not-has_shape-clause-value c = none_named c.args.text.now (returns-then-not-has_shape-clause-is c)

pub returns-in-Err-clause-is : goal.returns-in-Err-clause-is
returns-in-Err-clause-is c = unread c.args.text.now c.in-Err.field-0 (sym c.has_shape.ensures ∙ c.if-not-has_shape.false) c.in-Err.ensures

pub returns-in-Err-clause-value : goal.returns-in-Err-clause-value
returns-in-Err-clause-value c = none_named c.args.text.now (returns-in-Err-clause-is c)

pub returns-in-Ok-clause-is : goal.returns-in-Ok-clause-is
returns-in-Ok-clause-is c =
    as_read c.args.text.now c.in-Ok.moment.nanosecond c.div_euclid.result c.in-Ok.moment.in_range c.div_euclid.ensures
    (well_read c.args.text.now c.in-Ok.moment.nanosecond (sym c.has_shape.ensures ∙ c.if-not-has_shape.false) c.in-Ok.ensures)

pub returns-in-Ok-clause-value : goal.returns-in-Ok-clause-value
returns-in-Ok-clause-value c = some_named c.args.text.now _ (returns-in-Ok-clause-is c)

pub returns-in-Ok-clause-bounds : goal.returns-in-Ok-clause-bounds
returns-in-Ok-clause-bounds c = in_bounds c.args.text.now _ (returns-in-Ok-clause-value c)

-- The library prints 24 bytes: the text of the instant, which is one of the grammar.
use Rattle.std.proofs.Common.{◌≡◌, ℤ, pos, ◌*ℤ◌, ◌≤ℤ◌, sym, ap, ◌∙◌, subst, arith, rules, FitsSigned, w64, to_z, of_z, length}
use Rattle.std.proofs.lemmas.Int.{to_z-of_z}
use Rattle.std.specs.Int.{w128}
use Rattle.jiff_core.proofs.SignedLemmas.{signed_arith}
use Rattle.hls_instants.specs.Instants.{IsInstantText, last_written_us}
use Rattle.hls_instants.proofs.Dates.{is_moment_text, moment_text_length, printed_text}
use Rattle.hls_instants.proofs.write.format_instant.Goals as goal

-- an instant that can be written, cast to 128 bits, is multiplied by 1000 without overflow
in_nanoseconds : (us : ℤ) → FitsSigned w64 us → pos 0 ≤ℤ us → us ≤ℤ last_written_us
    → to_z w128 (of_z w128 (to_z w128 (of_z w128 (to_z w64 (of_z w64 us))) *ℤ pos 1000)) ≡ us *ℤ pos 1000
in_nanoseconds us f low high =
    let g : FitsSigned w128 us = omega (arith, signed_arith) in
    let h : FitsSigned w128 (us *ℤ pos 1000) = omega (arith, signed_arith) in
    simp to_z-of_z

pub copy_from_slice-requires : goal.copy_from_slice-requires
copy_from_slice-requires c =
    let only : c.in-Ok.moment.nanosecond ≡ c.args.us *ℤ pos 1000 = c.in-Ok.ensures.value ∙ in_nanoseconds c.args.us c.ranges.us c.requires.0 c.requires.1 in
    let all = printed_text c.precision.result c.in-Ok.moment c.timestamp_text-text.result.bytes c.args.us (search rules) c.timestamp_text-text.ensures only c.requires in
    let bytes : c.as_bytes.result.now ≡ c.timestamp_text-text.result.bytes = c.as_bytes.ensures.value ∙ c.as_str.ensures.value in
    omega (arith, ap length bytes, ap length all, moment_text_length c.args.us)

pub returns-in-Ok-clause-is : goal.returns-in-Ok-clause-is
returns-in-Ok-clause-is c =
    let only : c.in-Ok.moment.nanosecond ≡ c.args.us *ℤ pos 1000 = c.in-Ok.ensures.value ∙ in_nanoseconds c.args.us c.ranges.us c.requires.0 c.requires.1 in
    let all = printed_text c.precision.result c.in-Ok.moment c.timestamp_text-text.result.bytes c.args.us (search rules) c.timestamp_text-text.ensures only c.requires in
    c.copy_from_slice.ensures.after ∙ c.as_bytes.ensures.value ∙ c.as_str.ensures.value ∙ all

pub returns-in-Ok-clause-text : goal.returns-in-Ok-clause-text
returns-in-Ok-clause-text c = subst (λ text. IsInstantText c.args.us text) (sym (returns-in-Ok-clause-is c)) (is_moment_text c.args.us c.requires)

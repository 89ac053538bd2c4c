-- The unit is within the limit if the sum of its parts' lengths is: the sum is the length of the bytes that will be written.
use Rattle.std.proofs.Common.{◌≡◌, ◌∙◌, ℕ, ◌+◌, ◌*◌, nat_le, length, ap, arith}
use Rattle.hls_mend_laws.specs.Fragments.{fragment_bytes}
use Rattle.hls_mend_laws.proofs.Callers.{fragment-len}
use Rattle.hls_mend.specs.Views.{parts_view}
use Rattle.hls_mend.proofs.write.is_within_limit.Goals as goal

pub returns-clause-value : goal.returns-clause-value
returns-clause-value c =
    let long : length c.args.parts.front.now + (88 + length c.args.parts.head.now + 16 * length c.args.parts.samples.now) + length c.args.parts.payload.now ≡ length (fragment_bytes (parts_view c.args.parts)) =
    omega (arith, fragment-len (parts_view c.args.parts)) in
    ap (λ (n : ℕ). nat_le n c.from.result) long ∙ ap (λ (n : ℕ). nat_le (length (fragment_bytes (parts_view c.args.parts))) n) c.from.ensures

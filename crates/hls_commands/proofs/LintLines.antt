-- The parts of the line about a playlist.
use Rattle.std.proofs.Common.{◌≡◌, ◌∙◌, ℕ, ◌+◌, ◌-◌, ◌^◌, List, [], ◌++◌, ◌⊎◌, inl, inr, sym, ap, append_assoc, append-nil, arith}
use Rattle.std.specs.Prelude.{min}
use Rattle.hls_m3u8.specs.declared.fault.ListFault.{ListFault}
use Rattle.hls_m3u8.specs.declared.fault.ListFault.TheVariants.{NotM3u, Utf8, MissingTag, TooLong, Memory}
use Rattle.hls_text.specs.Numbers.{spaced_numbers}
use Rattle.hls_commands.specs.LintAnswer.{fault_line_numbers, longest_us}

-- adding one more segment's length to the total, capped, leaves the capped total of all segments as it is
pub next_total : (total us rest whole new : ℕ) → new ≡ min (min (total + us) (2 ^ 64 - 1)) longest_us → min (total + (us + rest)) longest_us ≡ whole → min (new + rest) longest_us ≡ whole
next_total total us rest whole new is before = omega (arith, is, before)

-- a fault other than BadTag names no line
no_line : (f : ListFault) → (f ≡ NotM3u) ⊎ ((f ≡ Utf8) ⊎ ((f ≡ MissingTag) ⊎ ((f ≡ TooLong) ⊎ (f ≡ Memory)))) → fault_line_numbers f ≡ []
no_line f (inl e) = ap fault_line_numbers e
no_line f (inr (inl e)) = ap fault_line_numbers e
no_line f (inr (inr (inl e))) = ap fault_line_numbers e
no_line f (inr (inr (inr (inl e)))) = ap fault_line_numbers e
no_line f (inr (inr (inr (inr e)))) = ap fault_line_numbers e

-- a line about a fault other than BadTag has no number after the fault's name
pub no_lines : (line : List ℕ) (f : ListFault) → (f ≡ NotM3u) ⊎ ((f ≡ Utf8) ⊎ ((f ≡ MissingTag) ⊎ ((f ≡ TooLong) ⊎ (f ≡ Memory)))) → line ≡ line ++ spaced_numbers (fault_line_numbers f)
unfolding spaced_numbers
no_lines line f is = sym (ap (λ ns. line ++ spaced_numbers ns) (no_line f is) ∙ append-nil line)

-- two texts that were added one after the other are their joined text
two_written : (o p q xs ys : List ℕ) → p ≡ o ++ xs → q ≡ p ++ ys → q ≡ o ++ (xs ++ ys)
two_written o p q xs ys first second = second ∙ ap (λ t. t ++ ys) first ∙ append_assoc o xs ys

-- three texts that were added one after another are their joined text
pub three_written : (o p q r xs ys zs : List ℕ) → p ≡ o ++ xs → q ≡ p ++ ys → r ≡ q ++ zs → r ≡ o ++ ((xs ++ ys) ++ zs)
three_written o p q r xs ys zs first second third = two_written o q r (xs ++ ys) zs (two_written o p q xs ys first second) third

-- the four parts of a playlist's line, and its line feed, added one after another make up the line
pub whole_line : (o p q r s t extent numbers kind end last : List ℕ) → o ≡ [] → p ≡ o ++ extent → q ≡ p ++ numbers → r ≡ q ++ kind → s ≡ r ++ end → t ≡ s ++ last →
    t ≡ ((extent ++ numbers) ++ (kind ++ end)) ++ last
whole_line o p q r s t extent numbers kind end last empty first second third fourth fifth =
    let front = two_written o p q extent numbers first second in
    let back = two_written q r s kind end third fourth in
    let all = two_written o q s (extent ++ numbers) (kind ++ end) front back in
    two_written o s t ((extent ++ numbers) ++ (kind ++ end)) last all fifth ∙ ap (λ xs. xs ++ (((extent ++ numbers) ++ (kind ++ end)) ++ last)) empty

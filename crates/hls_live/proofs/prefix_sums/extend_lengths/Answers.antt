-- Each step appends the sum for one more rendition (`one-more`), until each rendition of the segment has one.
use Rattle.std.proofs.Common.{◌≡◌, ℕ, ◌+◌, ◌<◌, ◌⊎◌, List, [], ◌∷◌, ◌++◌, length, get_or, arith, ap, inl, inr, ◌∙◌}
use Rattle.std.proofs.lemmas.List.{get_or_append_left, get_or_push}
use Rattle.hls_places_laws.specs.Line.Lengths.{length_in}
use Rattle.hls_live.proofs.prefix_sums.extend_lengths.Goals as goal

-- if each value of a list is as wanted, and so is one more, each value is as wanted when that one is appended
one-more : (lengths : List ℕ) (wanted : ℕ → ℕ) (r length_here : ℕ) → length lengths ≡ r →
    ((k : ℕ) → k < r → get_or lengths k 0 ≡ wanted k) → length_here ≡ wanted r → (k : ℕ) → k < r + 1 →
    get_or (lengths ++ length_here ∷ []) k 0 ≡ wanted k
one-more lengths wanted r length_here count before here k within =
    let either : (k < r) ⊎ (k ≡ r) = grind arith in
    elim either [
      | inl less ↦ get_or_append_left lengths (length_here ∷ []) 0 k (omega (arith, count, less)) ∙ before k less
      | inr same ↦ rw same (get_or_push lengths length_here 0 r count ∙ here)
    ]

pub overflow_add-length_at : goal.overflow_add-length_at
overflow_add-length_at c = omega (arith, c.requires.small c.loop-r.r, c.length_at.ensures, c.length_between.ensures)

pub loop-r-preserved : goal.loop-r-preserved
loop-r-preserved c = record {
  count = omega (arith, c.in_ok-push.ensures.len, c.loop-r.invariant.count);
  each = λ k within. ap (λ (lengths : List ℕ). get_or lengths k 0) c.in_ok-push.ensures.items
      ∙ one-more c.loop-r.lengths.items (λ (r : ℕ). get_or c.args.before.now r 0 + length_in r c.args.segment.now) c.loop-r.r _
      c.loop-r.invariant.count c.loop-r.invariant.each (omega (arith, c.length_at.ensures, c.length_between.ensures)) k within;
}

pub returns : goal.returns
returns c =
    let all : c.loop-r.r ≡ length c.args.segment.now.from.spots = omega (arith, c.loop-r-test.false, c.loop-r.auto.r-end, c.len-renditions.ensures) in
    record {
      count = c.loop-r.invariant.count ∙ all;
      each = λ r within. c.loop-r.invariant.each r (omega (arith, all, within));
    }

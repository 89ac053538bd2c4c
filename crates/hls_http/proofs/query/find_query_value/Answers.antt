-- If the next pair has the key, its value is the first with this key; otherwise the pairs after it decide.
use Rattle.std.proofs.Common.{◌≡◌, ◌∙◌, ℕ, zero, suc, ◌+◌, ◌<◌, List, [], ◌∷◌, Some, true, false, bytes_eq, cond, drop, get_or, length, map, refl, sym, ap, arith, Vec, Global}
use Rattle.std.proofs.lemmas.List.{drop_all}
use native.Mathlib.Numerals.{unary_clauses}
use Rattle.hls_http.specs.Query.{first_pair_value, pair_bytes}
use Rattle.hls_http.proofs.query.find_query_value.Goals as goal

-- the pair that was read is the first of those that are left
first_left : (key : List ℕ) (pairs : List (Vec ℕ Global × Vec ℕ Global)) (k : ℕ) (pair : Vec ℕ Global × Vec ℕ Global) → k < length pairs → pair ≡ get_or pairs k pair
    → first_pair_value key (map pair_bytes (drop k pairs)) ≡ cond (bytes_eq pair.0.items key) (Some pair.1.items) (first_pair_value key (map pair_bytes (drop (suc k) pairs)))
unfolding first_pair_value
first_left key [] k pair within is = absurd (omega arith)
first_left key (first ∷ pairs) zero pair within is =
    ap (λ (p : Vec ℕ Global × Vec ℕ Global). cond (bytes_eq p.0.items key) (Some p.1.items) (first_pair_value key (map pair_bytes pairs))) (sym is)
first_left key (first ∷ pairs) (suc k) pair within is = first_left key pairs k pair (omega arith) is

-- the value of a key among the pairs from k on is that of pair k if it has the key, and otherwise that among the later pairs
looked_at : (key : List ℕ) (pairs : List (Vec ℕ Global × Vec ℕ Global)) (k : ℕ) (pair : Vec ℕ Global × Vec ℕ Global) → k < length pairs → pair ≡ get_or pairs k pair
    → first_pair_value key (map pair_bytes (drop k pairs)) ≡ cond (bytes_eq pair.0.items key) (Some pair.1.items) (first_pair_value key (map pair_bytes (drop (k + 1) pairs)))
looked_at key pairs k pair within is = simp unary_clauses (first_left key pairs k pair within is)

pub returns-then-eq : goal.returns-then-eq
returns-then-eq c =
    let same : bytes_eq c.pair-item.result.0.items c.args.key.now ≡ true =
    ap (λ xs. bytes_eq xs c.args.key.now) (sym c.as_slice.ensures.value) ∙ sym c.eq.ensures ∙ c.if-eq.true in
    sym (c.loop-pair.invariant
    ∙ looked_at c.args.key.now c.args.pairs.now c.loop-pair.pair-index c.pair-item.result c.loop-pair-test.true c.pair-item.is
    ∙ rw same (ap Some (sym c.as_slice-then-eq.ensures.value)))

pub loop-pair-preserved : goal.loop-pair-preserved
loop-pair-preserved c =
    let other : bytes_eq c.pair-item.result.0.items c.args.key.now ≡ false =
    ap (λ xs. bytes_eq xs c.args.key.now) (sym c.as_slice.ensures.value) ∙ sym c.eq.ensures ∙ c.if-eq.false in
    c.loop-pair.invariant
    ∙ looked_at c.args.key.now c.args.pairs.now c.loop-pair.pair-index c.pair-item.result c.loop-pair-test.true c.pair-item.is
    ∙ rw other refl

pub returns : goal.returns
unfolding first_pair_value
returns c =
    sym (c.loop-pair.invariant
    ∙ ap (λ pairs. first_pair_value c.args.key.now (map pair_bytes pairs)) (drop_all c.loop-pair.pair-index c.args.pairs.now (omega (arith, c.loop-pair-test.false))))

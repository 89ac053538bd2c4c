-- The pairs read so far and those left in the iterator are all pairs of the query.
use Rattle.std.proofs.Common.{◌≡◌, ◌∙◌, ℕ, List, [], ◌∷◌, ◌++◌, map, refl, sym, ap, append-nil, Vec, Global}
use Rattle.hls_http.specs.Query.{pair_bytes}
use Rattle.hls_http.proofs.query.parse_query.Goals as goal

-- a remaining pair is one of those that will be read
one_more : (read : List (Vec ℕ Global × Vec ℕ Global)) (pair : Vec ℕ Global × Vec ℕ Global) (left : List (List ℕ × List ℕ))
    → map pair_bytes read ++ pair_bytes pair ∷ left ≡ map pair_bytes (read ++ pair ∷ []) ++ left
one_more [] pair left = refl
one_more (first ∷ read) pair left = ap (λ pairs. pair_bytes first ∷ pairs) (one_more read pair left)

pub loop-name-preserved : goal.loop-name-preserved
loop-name-preserved c =
    let read : Vec ℕ Global × Vec ℕ Global = (c.in_ok-decoded_name.decoded_name, c.in_ok-decoded_value.decoded_value) in
    record {
      goes = tt;
      finite = tt;
      same = c.loop-name.invariant.same
          ∙ rw (c.in-Some.ensures.steps, ← c.in_ok-decoded_name.ensures, ← c.in_ok-decoded_value.ensures, c.in_ok-push.ensures.items) (one_more c.loop-name.pairs.items read _);
    }

pub returns : goal.returns
returns c = sym (c.loop-name.invariant.same ∙ rw c.in-None.ensures.steps.0 (append-nil _))

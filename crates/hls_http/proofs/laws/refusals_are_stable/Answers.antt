-- What is refused is refused whatever follows: a bad head, one that is too large, one with a bad Host or framing,
-- and a body that breaks the grammar.
use Rattle.hls_http.proofs.StayLaws.{bad_fields_stay, bad_heads_stay, broken_bodies_stay, large_heads_stay}
use Rattle.hls_http.proofs.laws.refusals_are_stable.Goals as goal

pub returns : goal.returns
returns c = record { heads = bad_heads_stay; sizes = large_heads_stay; fields = bad_fields_stay; bodies = broken_bodies_stay }

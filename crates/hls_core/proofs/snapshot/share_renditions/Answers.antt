-- The copied list has the same rendition states.
use Rattle.hls_core.proofs.Moved.{when_ok, same_values}
use Rattle.hls_core.proofs.snapshot.share_renditions.Goals as goal

pub returns : goal.returns
returns c = when_ok c.to_vec.result (λ v same. same_values c.args.rendition_states.now v.items same) c.to_vec.ensures.ok

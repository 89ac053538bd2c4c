-- The row of a sample is appended: its duration, its size, its flags and its offset.
use Rattle.std.proofs.Common.{[], ◌∷◌}
use Rattle.hls_mend_laws.specs.Bytes.{words}
use Rattle.hls_mend.proofs.Joined.{appended-two}
use Rattle.hls_mend.proofs.write.push_row.Goals as goal

pub returns : goal.returns
returns c =
    appended-two c.args.out.now.items (words (c.args.sample.duration ∷ c.args.sample.size ∷ [])) (words (c.args.sample.flags ∷ c.args.sample.offset ∷ []))
    _ _ c.in_ok-push_two.ensures c.in_ok-push_two-2.ensures

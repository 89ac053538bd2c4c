-- Before each round, the bytes from the position on are the same as at the start: a slice that is skipped is taken off the offset.
use Rattle.std.{proofs.Common.{◌≡◌, ◌-◌, ◌<◌, ◌≤◌, ◌^◌, [], length, drop, get_or}, specs.List.concat}
use Rattle.hls_io.specs.Slices.{rest_at}
use Rattle.hls_io.proofs.resource_range.locate_byte.Given as goal

abbrev pub invariant-loop-len : goal.invariant-loop-len
invariant-loop-len g l = record {
  rest : rest_at (g.R.Resource.slices l.resource) l.number l.within ≡ rest_at (g.R.Resource.slices l.resource) l.fn.number l.fn.within;
  enough : l.within < length (concat (drop l.number (g.R.Resource.slices l.resource)));
  slice_len : l.len ≡ length (get_or (g.R.Resource.slices l.resource) l.number []);
  few : length (g.R.Resource.slices l.resource) < 2 ^ 64;
  back : l.within ≤ l.fn.within;
}

abbrev pub decreases-loop-len : goal.decreases-loop-len
decreases-loop-len g l = length (g.R.Resource.slices l.resource) - l.number

-- Before each round, the names are those of the lines so far, each followed by a line feed.
use Rattle.std.proofs.Common.{◌≡◌, flat_map, map}
use Rattle.hls_commands.specs.Explanations.{name_row}
use Rattle.hls_commands.proofs.explanations.list_names.Given as goal

abbrev pub invariant-loop-line : goal.invariant-loop-line
invariant-loop-line l = l.names.items ≡ flat_map name_row (map (λ line. line.now) l.yielded)

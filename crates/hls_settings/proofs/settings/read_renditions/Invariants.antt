-- Before each round, the arguments so far are read as the renditions so far, one for each.
use Rattle.std.proofs.Common.{◌≡◌, length, map, take}
use Rattle.hls_settings.specs.ReadSettings.{ParsesTo}
use Rattle.hls_settings.proofs.settings.read_renditions.Given as goal

abbrev pub invariant-loop-argument : goal.invariant-loop-argument
invariant-loop-argument l = record {
  all : length l.renditions.items ≡ l.argument-index;
  said : ParsesTo (take l.argument-index (map (λ w. w.now) l.arguments)) l.renditions.items;
}

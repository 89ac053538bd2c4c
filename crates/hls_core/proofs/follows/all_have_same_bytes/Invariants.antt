-- Before each round, what both states keep of the renditions so far has the same bytes in both.
use Rattle.std.proofs.Common.{◌≡◌, ℕ, ◌<◌, Some}
use Rattle.std.specs.Prelude.{slice_get}
use Rattle.hls_core_laws.specs.Channel.{lane}
use Rattle.hls_core_laws.specs.State.{HeldBytes, channel}
use Rattle.hls_core_laws.specs.Follows.{HaveSameBytes}
use Rattle.hls_core.proofs.follows.all_have_same_bytes.Given as goal

abbrev pub invariant-loop-rendition : goal.invariant-loop-rendition
invariant-loop-rendition l =
    (r : ℕ) (ha hb : HeldBytes) → r < l.rendition → slice_get l.a.bytes r ≡ Some ha → slice_get l.b.bytes r ≡ Some hb → HaveSameBytes (lane (channel l.a) r) (lane (channel l.b) r) ha hb

-- How the kept segments change. For the proofs of this crate; no public clause cites it.
use Rattle.std.specs.Prelude.{◌≡◌, ℕ, ◌+◌, ◌-◌, length, slice_get}
use Rattle.hls_blocks.specs.Numbered.{with_item, from_number}
use Rattle.hls_places_laws.specs.declared.line.live_segment.LiveSegment.{LiveSegment}
use Rattle.hls_live.specs.declared.kept_segments.KeptSegments.{KeptSegments}
use Rattle.hls_live.specs.declared.prefix_sums.PrefixSums.{PrefixSums}
use Rattle.hls_live.specs.PrefixSums.{marks_of, IsSumsAfter}

-- each segment has sums under its number
pub record AreAligned (k : KeptSegments) : Type 0 where
  pub first : k.sums.first ≡ k.segments.first
  pub count : length k.sums.items ≡ length k.segments.items

-- the kept segments without the first n, whose marks are counted as removed
pub record HasDroppedSegments (n : ℕ) (before after : KeptSegments) : Type 0 where
  pub segments : after.segments ≡ from_number before.segments (before.segments.first + n)
  pub sums : after.sums ≡ from_number before.sums (before.segments.first + n)
  pub breaks : after.breaks ≡ marks_of 0 (slice_get before.sums.items (n - 1))

-- the kept segments with one more, and its sums
pub record HasPushedSegment (segment : LiveSegment) (before after : KeptSegments) : Type 0 where
  pub next : PrefixSums
  pub is : IsSumsAfter before.breaks before.sums.items segment next
  pub segments : after.segments ≡ with_item before.segments segment
  pub sums : after.sums ≡ with_item before.sums next
  pub breaks : after.breaks ≡ before.breaks

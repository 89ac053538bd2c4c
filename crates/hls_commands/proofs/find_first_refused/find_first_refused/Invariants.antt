-- Each place before the present one reaches the next; the walk has the places after the present one.
use Rattle.std.proofs.Common.{◌≡◌, ℕ, ◌+◌, ◌<◌, length, drop}
use Rattle.hls_check_tables.specs.Tables.{place_at}
use Rattle.hls_places_laws.specs.Order.{spots_of}
use Rattle.hls_commands.specs.Each.{ReachesNext}
use Rattle.hls_commands.proofs.find_first_refused.find_first_refused.Given as goal

abbrev pub invariant-loop-to : goal.invariant-loop-to
invariant-loop-to l = record {
  count : l.place + 1 + length l.walk ≡ length l.places.items;
  here : place_at (spots_of l.places.items) l.place ≡ l.from.spots;
  left : drop (l.place + 1) (spots_of l.places.items) ≡ spots_of l.walk;
  before : (k : ℕ) → k < l.place → ReachesNext l.target (spots_of l.places.items) k;
}

abbrev pub decreases-loop-to : goal.decreases-loop-to
decreases-loop-to l = length l.walk

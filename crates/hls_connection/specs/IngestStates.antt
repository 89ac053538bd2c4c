-- How far a body was ingested.
use Rattle.std.specs.Prelude.{◌≡◌, ℕ, Option, Some, Result, Ok, Err, slice_get}
use Rattle.hls_media_laws.specs.InitData.{InitData}
use Rattle.hls_core_laws.specs.{Channel.Lane, IsState.IsState, declared.refusal.Refusal.Refusal, State.{State, channel}}
use Rattle.hls_core_laws.specs.declared.refusal.Refusal.TheVariants.{NoInit, Memory}
use Rattle.hls_core.specs.{declared.feed_fault.StreamFault.TheVariants.Core, declared.feed_fault.FeedFault.FeedFault}
use Rattle.hls_api.specs.{Acts.{AtMostOne, IsLook, Knowledge}, Ingest.{Progress, FindsInit, IsTooEarly}}
use Rattle.hls_connection.specs.declared.ingest_sink.IngestState.{IngestState}
use Rattle.hls_core.specs.declared.feed_fault.FeedFault.TheVariants as feed_faults

-- the progress of a body, from its state in the code
abbrev pub progress_of : IngestState → Progress
progress_of taken = record { acts = taken.acts; init = taken.init; counts = taken.counts }

-- a refused event as a fault of the body; an allocation failure isn't a refusal
abbrev pub feed_fault_of : Refusal → FeedFault
feed_fault_of Memory = feed_faults.Memory
feed_fault_of refusal = feed_faults.Refused (Core refusal)

-- in the state s, rendition r has this init section
pub record HasInit (s : State) (r : ℕ) (init : InitData) : Type 0 where
  pub lane : Lane
  pub at : slice_get (channel s).lanes r ≡ Some lane
  pub init_is : lane.init ≡ Some init

-- the state that was seen is valid, and in it the rendition has the init section that was found, if one was
pub record IsUsable (r : ℕ) (known : Knowledge) (found : Option InitData) : Type 0 where
  pub valid : IsState known.seen
  pub has : (init : InitData) → found ≡ Some init → HasInit known.seen r init

-- the rendition's init section is found, with the acts for that; or there is none; or an allocation failed
abbrev pub FindsInitOrFails : ℕ → Progress → Progress → Result (Unit {0}) FeedFault → Type 0
FindsInitOrFails r x y (Ok done) = (y.counts ≡ x.counts) × ((init : InitData) × (y.init ≡ Some init) × FindsInit r x init y.acts)
FindsInitOrFails r x y (Err (feed_faults.Refused fault)) = (y.counts ≡ x.counts) × (fault ≡ Core NoInit) × IsTooEarly r x NoInit y.acts
FindsInitOrFails r x y (Err feed_faults.Memory) = AtMostOne IsLook x.acts y.acts

-- A segment of the live line may span exactly what a step of a catch-up recording may: each test implies the other.
use Rattle.hls_places_laws.proofs.LineLemmas.Tests.{step-from_allowed, allowed-from_step}
use Rattle.hls_places_laws.proofs.line.laws.segment_test_is_step_test.Goals as goal

pub returns : goal.returns
returns c line_goal o q = (step-from_allowed line_goal o q, allowed-from_step line_goal o q)

-- If two origins are fed by the same encoders, equal media sequence numbers have equal discontinuity sequence numbers.
use Rattle.hls_places_laws.proofs.LineLemmas.Origins.{marks-agree}
use Rattle.hls_places_laws.proofs.line.laws.discontinuities_agree.Goals as goal

pub returns : goal.returns
returns c = marks-agree

-- Two origins that the same encoders feed list the same segments under equal media sequence numbers, and have equal discontinuity sequence
-- numbers with them.
use Rattle.hls_playlists_laws.proofs.Origins.{live-lists-agree}
use Rattle.hls_playlists_laws.proofs.live.live_lists_agree.Goals as goal

pub returns : goal.returns
returns c = live-lists-agree

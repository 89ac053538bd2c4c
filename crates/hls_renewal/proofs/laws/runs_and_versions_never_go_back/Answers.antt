-- Neither in a state that follows another nor in a renewed channel does the run change or the version fall.
use Rattle.hls_renewal.proofs.NeverBack.{never_back}
use Rattle.hls_renewal.proofs.laws.runs_and_versions_never_go_back.Goals as goal

pub returns : goal.returns
returns c = never_back

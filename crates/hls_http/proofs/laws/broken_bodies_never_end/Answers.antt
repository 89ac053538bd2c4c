-- A body that breaks the grammar never ends, nor does one within which the text ends.
-- A body has at least as many bytes as were taken of it and its next size line announces.
use Rattle.hls_http.proofs.StayLaws.{broken_bodies, open_bodies, sizes_count}
use Rattle.hls_http.proofs.laws.broken_bodies_never_end.Goals as goal

pub returns : goal.returns
returns c = record { broken = broken_bodies; within = open_bodies; sizes = sizes_count }

-- If a content shows a further part, or a fault of a box, one of its prefixes is the shortest that shows it.
use Rattle.hls_core.proofs.ShortestLaws.{shortest_part, shortest_fault}
use Rattle.hls_core.proofs.feed_laws.shortest_prefixes_exist.Goals as goal

pub returns : goal.returns
returns c = record { part = shortest_part; fault = shortest_fault }

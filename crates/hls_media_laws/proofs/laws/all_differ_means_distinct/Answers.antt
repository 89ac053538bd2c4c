-- The test for distinct track numbers is equivalent to its definition.
use Rattle.hls_media_laws.proofs.DifferLaws.{differ_is_distinct}
use Rattle.hls_media_laws.proofs.laws.all_differ_means_distinct.Goals as goal

pub returns : goal.returns
returns c = differ_is_distinct

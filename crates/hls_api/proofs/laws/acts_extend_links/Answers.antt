-- Acts that continue from earlier acts of the same connection are linked to them, whatever others did between.
use Rattle.hls_api.proofs.Linking.{linked_acted}
use Rattle.hls_api.proofs.laws.acts_extend_links.Goals as goal

pub returns-clause-link : goal.returns-clause-link
returns-clause-link c = linked_acted

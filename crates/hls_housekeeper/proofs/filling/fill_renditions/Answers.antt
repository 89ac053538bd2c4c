-- One rendition after the other is filled: the pass keeps its turn, and all that it does is to look at states and to submit needed fillers or
-- what upkeep yields.
use Rattle.hls_housekeeper.proofs.Keeping.{kept_further, kept_still}
use Rattle.hls_housekeeper.proofs.filling.fill_renditions.Goals as goal

pub loop-rendition-init : goal.loop-rendition-init
loop-rendition-init g c = record { ours = c.requires; keeps = λ window keep. kept_still _ window keep _ }

pub fill_rendition-requires : goal.fill_rendition-requires
fill_rendition-requires g c = c.loop-rendition.invariant.ours

pub loop-rendition-preserved : goal.loop-rendition-preserved
loop-rendition-preserved g c = record {
  ours = c.fill_rendition.ensures.ours;
  keeps = λ window keep. kept_further _ window keep _ _ _ (c.loop-rendition.invariant.keeps window keep) (c.fill_rendition.ensures.keeps window keep);
}

pub returns-clause-ours : goal.returns-clause-ours
returns-clause-ours g c = c.loop-rendition.invariant.ours

pub returns-clause-keeps : goal.returns-clause-keeps
returns-clause-keeps g c = c.loop-rendition.invariant.keeps

-- In each round the pass looks at the state and submits a filler that is needed there; whether it ends early or not, it did nothing else. It
-- keeps its turn.
use Rattle.hls_housekeeper.proofs.Keeping.{kept_filling, kept_looking, kept_still}
use Rattle.hls_housekeeper.proofs.filling.fill_rendition.Goals as goal

pub loop-count-init : goal.loop-count-init
loop-count-init g c = record { ours = c.requires; keeps = λ window keep. kept_still _ window keep _ }

pub next_filler-requires : goal.next_filler-requires
next_filler-requires g c = c.loop-count.invariant.ours

pub returns-in_err-event-clause-keeps : goal.returns-in_err-event-clause-keeps
returns-in_err-event-clause-keeps g c = λ window keep. kept_looking _ window keep _ _ _ (c.loop-count.invariant.keeps window keep) c.next_filler.ensures.looked

pub returns-in_default-clause-keeps : goal.returns-in_default-clause-keeps
returns-in_default-clause-keeps g c = λ window keep. kept_looking _ window keep _ _ _ (c.loop-count.invariant.keeps window keep) c.next_filler.ensures.looked

pub returns-in_err-submit_filler-clause-keeps : goal.returns-in_err-submit_filler-clause-keeps
returns-in_err-submit_filler-clause-keeps g c =
    λ window keep. kept_filling _ window keep _ _ _ (kept_looking _ window keep _ _ _ (c.loop-count.invariant.keeps window keep) c.next_filler.ensures.looked) c.submit_filler.ensures.submits

pub loop-count-preserved : goal.loop-count-preserved
loop-count-preserved g c = record {
  ours = c.submit_filler.ensures.ours;
  keeps = λ window keep. kept_filling _ window keep _ _ _ (kept_looking _ window keep _ _ _ (c.loop-count.invariant.keeps window keep) c.next_filler.ensures.looked) c.submit_filler.ensures.submits;
}

pub returns-clause-ours : goal.returns-clause-ours
returns-clause-ours g c = c.loop-count.invariant.ours

pub returns-clause-keeps : goal.returns-clause-keeps
returns-clause-keeps g c = c.loop-count.invariant.keeps

-- In each round the pass looks at the state and submits the event that upkeep yields there. Whether it ends up to date, holds back a trim or is
-- refused, it did nothing else.
use Rattle.hls_housekeeper.proofs.Keeping.{kept_bringing, kept_looking, kept_still}
use Rattle.hls_housekeeper.proofs.housekeeper.run_upkeep.Goals as goal

pub loop-init : goal.loop-init
loop-init g c = record { can_next = tt; is_finite = tt; ours = c.requires; keeps = λ m. kept_still m _ _ _ }

pub loop-preserved : goal.loop-preserved
loop-preserved g c = record {
  can_next = tt;
  is_finite = tt;
  ours = c.submit_upkeep.ensures.ours;
  keeps = λ m. kept_bringing m _ _ _ _ _ (kept_looking m _ _ _ _ _ (c.loop.invariant.keeps m) c.next_event.ensures.looked) c.submit_upkeep.ensures.submits;
}

pub returns-in_err-event-clause-keeps : goal.returns-in_err-event-clause-keeps
returns-in_err-event-clause-keeps g c = λ m. kept_looking m _ _ _ _ _ (c.loop.invariant.keeps m) c.next_event.ensures.looked

pub returns-in_default-clause-keeps : goal.returns-in_default-clause-keeps
returns-in_default-clause-keeps g c = λ m. kept_looking m _ _ _ _ _ (c.loop.invariant.keeps m) c.next_event.ensures.looked

pub returns-then-holds_back-clause-keeps : goal.returns-then-holds_back-clause-keeps
returns-then-holds_back-clause-keeps g c = λ m. kept_looking m _ _ _ _ _ (c.loop.invariant.keeps m) c.next_event.ensures.looked

pub returns-in_err-submit_upkeep-clause-keeps : goal.returns-in_err-submit_upkeep-clause-keeps
returns-in_err-submit_upkeep-clause-keeps g c =
    λ m. kept_bringing m _ _ _ _ _ (kept_looking m _ _ _ _ _ (c.loop.invariant.keeps m) c.next_event.ensures.looked) c.submit_upkeep.ensures.submits

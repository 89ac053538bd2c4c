-- Each round looks at the state, fills renditions and runs upkeep. So, until the server closes, the pass submits only what upkeep yields and
-- needed fillers.
use Rattle.hls_housekeeper.proofs.Keeping.{kept_further, kept_looking, kept_still}
use Rattle.hls_housekeeper.proofs.housekeeper.run_housekeeper.Goals as goal

pub loop-init : goal.loop-init
loop-init g c = record { can_next = tt; is_finite = tt; ours = c.requires; keeps = kept_still _ _ _ _ }

pub loop-preserved : goal.loop-preserved
loop-preserved g c = record {
  can_next = tt;
  is_finite = tt;
  ours = c.run_upkeep-round.ensures.ours;
  keeps = kept_further _ _ _ _ _ _
      (kept_further _ _ _ _ _ _ (kept_looking _ _ _ _ _ _ c.loop.invariant.keeps c.look.ensures.looked) (c.run_filling-filled.ensures.keeps _ _))
      (c.run_upkeep-round.ensures.keeps _);
}

pub returns-then-is_closed-clause-keeps : goal.returns-then-is_closed-clause-keeps
returns-then-is_closed-clause-keeps g c =
    kept_further _ _ _ _ _ _
    (kept_further _ _ _ _ _ _ (kept_looking _ _ _ _ _ _ c.loop.invariant.keeps c.look.ensures.looked) (c.run_filling-filled.ensures.keeps _ _))
    (c.run_upkeep-round.ensures.keeps _)

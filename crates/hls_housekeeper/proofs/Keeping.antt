-- The housekeeper's actions on its pass, in sequence.
use Rattle.std.proofs.Common.{ℕ, Option, List, [], ◌∷◌, ◌++◌, inl, inr, refl, sym, subst}
use Rattle.hls_core_laws.specs.PassView.{PassView, MaySeeLater}
use Rattle.hls_mend_laws.specs.declared.settings.MendSettings.{MendSettings}
use Rattle.hls_housekeeper.specs.Housekeeping.{SubmitsFiller, SubmitsUpkeep, RunsUpkeepThrough, RunsUpkeep}

-- no action at all is a run of the housekeeper's actions
pub kept_still : (m : Option MendSettings) (window keep : ℕ) (a : PassView) → RunsUpkeep m window keep a a
unfolding RunsUpkeepThrough
kept_still m window keep a = record { through = []; steps = refl }

-- a run of the housekeeper's actions and then a look at the state are one run
pub kept_looking : (m : Option MendSettings) (window keep : ℕ) (a b c : PassView) → RunsUpkeep m window keep a b → MaySeeLater b c → RunsUpkeep m window keep a c
unfolding RunsUpkeepThrough
kept_looking m window keep a b c kept looked = record { through = b ∷ kept.through; steps = (kept.steps, inl looked) }

-- a run of the housekeeper's actions and then the submission of the event that upkeep yields are one run
pub kept_bringing : (m : Option MendSettings) (window keep : ℕ) (a b c : PassView) → RunsUpkeep m window keep a b → SubmitsUpkeep window keep b c → RunsUpkeep m window keep a c
unfolding RunsUpkeepThrough
kept_bringing m window keep a b c kept submits = record { through = b ∷ kept.through; steps = (kept.steps, inr (inl submits)) }

-- a run of the housekeeper's actions and then the submission of a filler that is needed are one run
pub kept_filling : (m : Option MendSettings) (window keep : ℕ) (a b c : PassView) → RunsUpkeep m window keep a b → SubmitsFiller m b c → RunsUpkeep m window keep a c
unfolding RunsUpkeepThrough
kept_filling m window keep a b c kept submits = record { through = b ∷ kept.through; steps = (kept.steps, inr (inr submits)) }

-- two sequences of actions, one after the other, are one sequence
through_further : (m : Option MendSettings) (window keep : ℕ) (a b c : PassView) (first then : List PassView) → RunsUpkeepThrough m window keep a first b
    → RunsUpkeepThrough m window keep b then c → RunsUpkeepThrough m window keep a (then ++ first) c
unfolding RunsUpkeepThrough
through_further m window keep a b c first [] before after = subst (λ (k : PassView). RunsUpkeepThrough m window keep a first k) (sym after) before
through_further m window keep a b c first (last ∷ then) before after = (through_further m window keep a b last first then before after.0, after.1)

-- two runs of the housekeeper's actions, one after the other, are one run
pub kept_further : (m : Option MendSettings) (window keep : ℕ) (a b c : PassView) → RunsUpkeep m window keep a b → RunsUpkeep m window keep b c → RunsUpkeep m window keep a c
kept_further m window keep a b c kept further = record {
  through = further.through ++ kept.through;
  steps = through_further m window keep a b c kept.through further.through kept.steps further.steps;
}

-- The parts of `Renews` are the results of the steps: the first cut, its base, the events, and
-- their replay. A fault is that of the step that failed.
use Rattle.std.proofs.Common.{◌≡◌, ◌∙◌, ℕ, Some, List, sym, ap, subst}
use Rattle.hls_core_laws.specs.declared.event.Event.{Event}
use Rattle.hls_core_laws.specs.Base.{BaseData, IsBase}
use Rattle.hls_core_laws.specs.Config.{ConfigData}
use Rattle.hls_core_laws.specs.Runs.{first_state, replayed_state}
use Rattle.hls_core.specs.Bases.{config_after}
use Rattle.hls_playlists_laws.specs.CutBases.{base_of_cut}
use Rattle.hls_renewal.specs.Cuts.{first_cut}
use Rattle.hls_renewal.specs.Renewals.{renewal_events, renewal_start}
use Rattle.hls_renewal.proofs.LineCuts.{is_line_cut}
use Rattle.hls_renewal.proofs.RenewalFits.{renewal_fits}
use Rattle.hls_renewal.proofs.renewal.renew.Goals as goal

pub make_base-requires : goal.make_base-requires
make_base-requires c =
    let s = c.args.snapshot.now in
    let first : first_cut s ≡ Some c.in-Some.cut = sym c.in_ok-cut.ensures.cut ∙ c.in-Some.is in
    is_line_cut s c.in-Some.cut c.find_cut.ensures.valid first

pub replay-requires : goal.replay-requires
replay-requires c =
    renewal_fits c.args.snapshot.now c.in-Some.cut c.deref.result.now c.with_base-config.result c.find_cut.ensures.valid (c.deref.ensures.value ∙ c.in_ok-events.ensures)

pub returns-clause-renewed : goal.returns-clause-renewed
returns-clause-renewed c =
    let s = c.args.snapshot.now in
    let cut = c.in-Some.cut in
    let first : first_cut s ≡ Some cut = sym c.in_ok-cut.ensures.cut ∙ c.in-Some.is in
    let based : c.in-Some-make_base.base ≡ base_of_cut s cut.segments cut.place = c.in-Some-make_base.ensures in
    let base : IsBase (base_of_cut s cut.segments cut.place) = subst (λ (b : BaseData). IsBase b) based c.segments.ensures.valid in
    let config : c.with_base-config.result ≡ config_after s.config (base_of_cut s cut.segments cut.place) =
    c.with_base-config.ensures ∙ ap (λ (x : ConfigData). config_after x c.in-Some-make_base.base) (c.in_ok-share.ensures ∙ c.config.ensures.value)
    ∙ ap (λ (b : BaseData). config_after s.config b) based in
    let events : c.deref.result.now ≡ renewal_events s cut = c.deref.ensures.value ∙ c.in_ok-events.ensures in
    record {
      cut = cut;
      first = first;
      base = base;
      new = c.renewals_are_new.ensures s cut c.find_cut.ensures.valid first base;
      is = c.in_ok-replay.ensures ∙ ap (λ (x : ConfigData). replayed_state (first_state x) c.deref.result.now) config
          ∙ ap (λ (es : List (ℕ × Event)). replayed_state (renewal_start s cut) es) events;
    }

-- Run and version never go back.
use Rattle.std.proofs.Common.{◌≡◌, ◌∙◌, ℕ, ◌+◌, ◌≤◌, List, length, ap, arith, length-append}
use Rattle.hls_core_laws.specs.Base.{BaseData}
use Rattle.hls_core_laws.specs.Config.{ConfigData}
use Rattle.hls_core_laws.specs.State.{State}
use Rattle.hls_core_laws.specs.IsState.{IsState}
use Rattle.hls_core_laws.specs.Follows.{Follows}
use Rattle.hls_core_laws.proofs.Callers.{continues_of}
use Rattle.hls_renewal.specs.Laws.{NeverGoesBack, RunsAndVersionsNeverGoBack}
use Rattle.hls_renewal.specs.Renewals.{Renews}
use Rattle.hls_renewal.proofs.RenewedLanes.{renewed_channels_are_handed_over}

-- a state that follows another one has its run, and no lower version
by_following : (a b : State) → Follows a b → NeverGoesBack a b
by_following a b follows =
    let on = continues_of a b follows in
    record {
      run = ap (λ (c : ConfigData). c.base.run) on.config;
      version = omega (arith, ap (λ (c : ConfigData). c.base.version) on.config, ap length on.log, length-append a.log on.rest);
    }

-- a renewed channel has the run of the old one, and no lower version
by_renewal : (a b : State) → Renews a b → IsState a → NeverGoesBack a b
by_renewal a b renews state =
    let over = renewed_channels_are_handed_over a b renews state in
    record { run = ap (λ (base : BaseData). base.run) over.1; version = over.2 }

-- run and version never go back, neither in a state that follows nor in a renewed channel
pub never_back : RunsAndVersionsNeverGoBack
never_back = (by_following, by_renewal)

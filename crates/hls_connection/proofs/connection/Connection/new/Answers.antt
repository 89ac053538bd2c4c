-- A new connection is consistent, has an empty history, and suits its keeper.
use Rattle.std.proofs.Common.{ap}
use Rattle.hls_api.specs.declared.route.ServedChannel.{ServedChannel}
use Rattle.hls_connection.proofs.TraceLaws.{nothing_channel, nothing_history, nothing_holds, nothing_suits}
use Rattle.hls_connection.proofs.connection.Connection.new.Goals as goal

pub invariant_of-result : goal.invariant_of-result
invariant_of-result g c = record { holds = ∣ nothing_holds c.new.result _ c.new.ensures ∣₁ }

pub returns-clause-history : goal.returns-clause-history
returns-clause-history g c = nothing_history c.new.result _ c.new.ensures

pub returns-clause-suits : goal.returns-clause-suits
returns-clause-suits g c = nothing_suits c.new.result _ c.new.ensures c.rendition_count.ensures.valid c.rendition_count.ensures.count

pub returns-clause-mending : goal.returns-clause-mending
returns-clause-mending g c = ap (λ (s : ServedChannel). s.mending) (nothing_channel c.new.result _ c.new.ensures)

-- All passes of a turn that was just opened are of that turn.
use Rattle.std.proofs.Common.{◌≡◌, All, List, sym, subst}
use Rattle.hls_turn.{specs.Passes.PassData, proofs.Openings.all_opening}
use Rattle.hls_server.proofs.server.run_server.Goals as goal

pub run_listening-requires-after_bounds : goal.run_listening-requires-after_bounds
run_listening-requires-after_bounds g c κs within =
    subst (λ (l : List PassData). All (λ (p : PassData). p.turn ≡ c.in_ok-turn.turn) l) (sym c.in_ok-turn.ensures) (all_opening c.in_ok-turn.turn _ _)

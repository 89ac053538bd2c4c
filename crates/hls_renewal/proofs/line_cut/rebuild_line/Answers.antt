-- After n steps the line is that of the first n places.
use Rattle.std.proofs.Common.{◌∙◌, arith, ap, length}
use Rattle.hls_places_laws.specs.Line.Live.{Live, fresh}
use Rattle.hls_core_laws.specs.Config.{ConfigData}
use Rattle.hls_core_laws.specs.Line.{line_goal_of}
use Rattle.hls_core_laws.specs.Places.{places}
use Rattle.hls_renewal.proofs.RebuiltLines.{line_begins, line_continues, line_fits, places_few, some_spots}
use Rattle.hls_renewal.proofs.line_cut.rebuild_line.Goals as goal

pub loop-n-init : goal.loop-n-init
loop-n-init c =
    let s = c.args.snapshot.now in
    let target = c.target.ensures.value ∙ ap (λ (x : ConfigData). x.target) c.config-config.ensures.value in
    let preferred = c.preferred.ensures.value ∙ ap (λ (x : ConfigData). x.preferred) c.config-config.ensures.value in
    c.fresh-whole.ensures ∙ (λ k. fresh (record { target = target k; preferred = preferred k })) ∙ line_begins (line_goal_of s.config) (places s)

pub with_place-requires-clause-some : goal.with_place-requires-clause-some
with_place-requires-clause-some c = some_spots c.args.snapshot.now c.config-config.ensures.valid c.loop-n.n c.get_place.result.now c.get_place.ensures

pub with_place-requires-clause-room : goal.with_place-requires-clause-room
with_place-requires-clause-room c =
    let s = c.args.snapshot.now in
    omega (
      arith,
      c.loop-n-test.true,
      c.count_places-n-end.ensures.value,
      ap (λ (l : Live). l.removed) c.loop-n.invariant,
      ap (λ (l : Live). length l.progress.line.segments) c.loop-n.invariant,
      line_fits (line_goal_of s.config) (places s) c.loop-n.n,
      places_few s c.config-config.ensures.valid,
    )

pub loop-n-preserved : goal.loop-n-preserved
loop-n-preserved c =
    line_continues (line_goal_of (c.args.snapshot.now).config) (places c.args.snapshot.now) c.loop-n.n c.get_place.result.now c.loop-n.whole c.in_ok-whole.whole
    c.get_place.ensures c.loop-n.invariant c.in_ok-whole.ensures

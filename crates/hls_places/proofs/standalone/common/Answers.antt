-- There is a rendition for each recording, so the cursor at the start fits them; their common places are in order.
use Rattle.std.proofs.Common.{length, map, refl, sym, ap, arith, ◌∙◌}
use Rattle.hls_places_laws.specs.Sources.{sources_of}
use Rattle.hls_places.proofs.Cited.{length-sides}
use Rattle.hls_places.proofs.Walks.{first-cursor}
use Rattle.hls_places.proofs.Lines.{places-in_order}
use Rattle.hls_places.proofs.standalone.common.Goals as goal

pub new-requires : goal.new-requires
new-requires c =
    let count = length-sides (λ r. r.now.facts) c.args.recordings.now c.args.tolerances.now c.args.finished.now
    c.requires.tolerances c.requires.finished c.in_ok-sources.sources.items (sym c.in_ok-sources.ensures) in
    omega (arith, ap length c.deref.ensures.value, count, c.requires.few)

pub advance-requires-clause-some : goal.advance-requires-clause-some
advance-requires-clause-some c =
    let count = length-sides (λ r. r.now.facts) c.args.recordings.now c.args.tolerances.now c.args.finished.now
    c.requires.tolerances c.requires.finished c.in_ok-sources.sources.items (sym c.in_ok-sources.ensures) in
    omega (arith, ap length c.deref-2.ensures.value, count, c.requires.some)

pub advance-requires-clause-few : goal.advance-requires-clause-few
advance-requires-clause-few c =
    let count = length-sides (λ r. r.now.facts) c.args.recordings.now c.args.tolerances.now c.args.finished.now
    c.requires.tolerances c.requires.finished c.in_ok-sources.sources.items (sym c.in_ok-sources.ensures) in
    omega (arith, ap length c.deref-2.ensures.value, count, c.requires.few)

pub advance-requires-clause-cursor : goal.advance-requires-clause-cursor
advance-requires-clause-cursor c =
    rw (c.in_ok-start.ensures, c.deref-2.ensures.value, c.in_ok-sources.ensures)
    (first-cursor (length c.args.recordings.now)
    (sources_of (map (λ r. r.now.facts) c.args.recordings.now) c.args.tolerances.now c.args.finished.now)
    (sym (length-sides (λ r. r.now.facts) c.args.recordings.now c.args.tolerances.now c.args.finished.now
    c.requires.tolerances c.requires.finished _ refl)))

pub returns-clause-order : goal.returns-clause-order
returns-clause-order c =
    rw (c.in_ok-advance.ensures.places, c.in_ok-start.ensures, c.deref-2.ensures.value, c.in_ok-sources.ensures)
    (places-in_order (λ r. r.now.facts) c.args.recordings.now c.args.tolerances.now c.args.finished.now
    c.requires.some c.requires.few c.requires.tolerances c.requires.finished c.requires.exact
    (rw (c.new.ensures, c.deref.ensures.value, c.in_ok-sources.ensures) at c.look_at_order.ensures))

-- If each rendition has begun, the cursor is advanced over all of them; otherwise there is no further common place.
use Rattle.std.proofs.Common.{◌∙◌, ap, length, map, sym, subst, arith, List}
use Rattle.std.proofs.lemmas.List.{length-map}
use Rattle.hls_places_laws.specs.declared.place.Place.{Place}
use Rattle.hls_core.specs.LineState.{HasRoomFor}
use Rattle.hls_core.proofs.Moved.{one_each, when_ok, placed_without, same_placed}
use Rattle.hls_core.proofs.line_state.advance_line_state.Goals as goal

pub returns-in-None : goal.returns-in-None
returns-in-None c =
    when_ok c.try_clone.result
    (λ p is. placed_without c.args.config.now (map (λ a. a.value) c.args.rendition_states.now) c.args.line_state.now.value p.value
    (c.requires.count ∙ sym (length-map c.args.rendition_states.now (λ a. a.value))) (c.in_ok-gathered.ensures.lacks c.in-None.is) c.requires.cursor
    (same_placed c.args.line_state.now.value p.value is))
    c.try_clone.ensures

pub advance-requires-clause-some : goal.advance-requires-clause-some
advance-requires-clause-some c =
    let are = rw c.in-Some.is at c.in_ok-gathered.ensures.gathers in
    let count = one_each c.args.config.now c.args.rendition_states.now c.deref-in-Some.result.now c.requires.count (c.deref-in-Some.ensures.value ∙ are) in
    omega (arith, count, c.requires.some)

pub advance-requires-clause-few : goal.advance-requires-clause-few
advance-requires-clause-few c =
    let are = rw c.in-Some.is at c.in_ok-gathered.ensures.gathers in
    let count = one_each c.args.config.now c.args.rendition_states.now c.deref-in-Some.result.now c.requires.count (c.deref-in-Some.ensures.value ∙ are) in
    omega (arith, count, c.requires.few)

pub advance-requires-clause-cursor : goal.advance-requires-clause-cursor
advance-requires-clause-cursor c =
    let are = rw c.in-Some.is at c.in_ok-gathered.ensures.gathers in
    rw (c.deref.ensures, c.deref-old.ensures, c.deref-in-Some.ensures.value, are) c.requires.cursor

pub with_advance-requires-clause-room : goal.with_advance-requires-clause-room
with_advance-requires-clause-room c =
    let are = rw c.in-Some.is at c.in_ok-gathered.ensures.gathers in
    let on = rw (c.deref.ensures, c.deref-old.ensures, c.deref-in-Some.ensures.value, are) at c.in_ok-advance-in-Some.ensures in
    rw c.deref-old.ensures (omega (arith, ap length on.places, c.requires.room))

pub with_advance-requires-clause-progress : goal.with_advance-requires-clause-progress
with_advance-requires-clause-progress c =
    let are = rw c.in-Some.is at c.in_ok-gathered.ensures.gathers in
    let on = rw (c.deref.ensures, c.deref-old.ensures, c.deref-in-Some.ensures.value, are) at c.in_ok-advance-in-Some.ensures in
    rw c.deref-old.ensures (subst (λ (ps : List Place). HasRoomFor c.args.line_state.now.value.line.value ps) (sym on.places) c.requires.progress)

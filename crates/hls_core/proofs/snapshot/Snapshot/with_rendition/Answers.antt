-- The new parts are the old ones with an entry, a replaced rendition state and the places advanced, and so they are sound.
use Rattle.std.proofs.Common.{◌∙◌, refl, map, arith}
use Rattle.std.proofs.lemmas.List.{length-map}
use Rattle.hls_core.proofs.Taken.{seen_put, kept_put, ahead, side_within}
use Rattle.hls_core.proofs.snapshot.Snapshot.with_rendition.Goals as goal

pub replace_rendition-requires : goal.replace_rendition-requires
replace_rendition-requires c = rw c.deref.ensures.value (side_within c.self.inside c.args.self.now c.args.rendition c.self.view_is c.requires.there)

pub advance_line_state-requires : goal.advance_line_state-requires
advance_line_state-requires c =
    let rendition_states = rw c.deref.ensures.value at c.in_ok-rendition_states.ensures in
    let a = ahead c.self.inside c.args.self.now c.args.entry c.args.rendition c.args.rendition_state.value c.self.inside.config
    (map (λ a. a.value) c.deref-2.result.now) c.self.view_is c.self.invariant c.requires.take refl (rw c.deref-2.ensures.value rendition_states) in
    let count = length-map c.deref-2.result.now (λ a. a.value) in
    record {
      some = omega (arith, a.some, count);
      few = omega (arith, a.few, count);
      count = a.count ∙ count;
      cursor = a.cursor;
      room = a.room;
      progress = a.progress;
    }

pub with_entry-requires-clause-kept : goal.with_entry-requires-clause-kept
with_entry-requires-clause-kept c =
    let rendition_states = rw c.deref.ensures.value at c.in_ok-rendition_states.ensures in
    let line_state = rw c.deref-2.ensures.value at c.in_ok-line_state.ensures in
    kept_put c.self.inside c.args.self.now c.args.entry c.args.rendition c.args.rendition_state.value c.in_ok-rendition_states.rendition_states c.in_ok-line_state.line_state
    c.self.view_is c.self.invariant c.requires.take rendition_states line_state

pub returns : goal.returns
returns c =
    let rendition_states = rw c.deref.ensures.value at c.in_ok-rendition_states.ensures in
    let is = seen_put c.self.inside c.args.self.now c.args.entry c.args.rendition c.args.rendition_state.value c.in_ok-rendition_states.rendition_states c.in_ok-line_state.line_state
    c.self.view_is c.self.invariant rendition_states in
    rw is at c.with_entry.ensures

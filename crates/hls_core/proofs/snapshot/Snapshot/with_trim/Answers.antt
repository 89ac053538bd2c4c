-- After a trim one rendition is replaced and the line is unchanged, so the snapshot stays consistent with its log.
use Rattle.hls_core.proofs.Moved.{same_placed}
use Rattle.hls_core.proofs.Taken.{kept_trim, seen_put, side_within}
use Rattle.hls_core.proofs.snapshot.Snapshot.with_trim.Goals as goal

pub replace_rendition-requires : goal.replace_rendition-requires
replace_rendition-requires c = rw c.deref.ensures.value (side_within c.self.inside c.args.self.now c.args.rendition c.self.view_is c.requires.there)

pub with_entry-requires-clause-kept : goal.with_entry-requires-clause-kept
with_entry-requires-clause-kept c =
    let rendition_states = rw c.deref.ensures.value at c.in_ok-rendition_states.ensures in
    kept_trim c.self.inside c.args.self.now c.args.entry c.args.rendition c.args.rendition_state.value c.in_ok-rendition_states.rendition_states c.in_ok-line_state.line_state
    c.self.view_is c.self.invariant c.requires.trim rendition_states (same_placed c.self.inside.line_state.value c.in_ok-line_state.line_state.value c.in_ok-line_state.ensures)

pub returns : goal.returns
returns c =
    let rendition_states = rw c.deref.ensures.value at c.in_ok-rendition_states.ensures in
    let is = seen_put c.self.inside c.args.self.now c.args.entry c.args.rendition c.args.rendition_state.value c.in_ok-rendition_states.rendition_states c.in_ok-line_state.line_state
    c.self.view_is c.self.invariant rendition_states in
    rw is at c.with_entry.ensures

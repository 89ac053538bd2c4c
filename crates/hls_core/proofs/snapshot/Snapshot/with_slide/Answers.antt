-- After a slide the renditions are unchanged and the line is the one that slid, so the snapshot stays consistent with its log.
use Rattle.hls_core.proofs.Taken.{kept_slide, seen_slide}
use Rattle.hls_core.proofs.snapshot.Snapshot.with_slide.Goals as goal

pub with_entry-requires-clause-kept : goal.with_entry-requires-clause-kept
with_entry-requires-clause-kept c =
    let rendition_states = rw c.deref-2.ensures.value at c.in_ok-rendition_states.ensures in
    let line_state = rw (c.deref.ensures, c.requires.slid) at c.in_ok-line_state.ensures in
    kept_slide c.self.inside c.args.self.now c.args.by c.args.count c.in_ok-rendition_states.rendition_states c.in_ok-line_state.line_state
    c.self.view_is c.self.invariant c.requires.new rendition_states line_state

pub returns : goal.returns
returns c =
    let rendition_states = rw c.deref-2.ensures.value at c.in_ok-rendition_states.ensures in
    let is = seen_slide c.self.inside c.args.self.now c.args.by c.args.count c.in_ok-rendition_states.rendition_states c.in_ok-line_state.line_state c.self.view_is rendition_states in
    rw is at c.with_entry.ensures

-- The snapshot with an empty log and no rendition begun is consistent, and it is the first state of its configuration.
use Rattle.std.proofs.Common.{◌∙◌, ap, refl, map}
use Rattle.hls_core.specs.RenditionStates.{fresh_rendition_state}
use Rattle.hls_core.proofs.Taken.{seen_first, kept_first}
use Rattle.hls_core.proofs.snapshot.Snapshot.first.Goals as goal

pub invariant_of-result : goal.invariant_of-result
invariant_of-result c =
    kept_first (record { config = c.args.config; log = c.empty.result; rendition_states = c.in_ok-rendition_states.rendition_states; line_state = c.in_ok-line_state.line_state })
    c.args.config c.renditions.ensures.valid refl c.empty.ensures
    (c.in_ok-rendition_states.ensures ∙ ap (map fresh_rendition_state) c.renditions.ensures.value) c.in_ok-line_state.ensures

pub returns : goal.returns
returns c =
    seen_first (record { config = c.args.config; log = c.empty.result; rendition_states = c.in_ok-rendition_states.rendition_states; line_state = c.in_ok-line_state.line_state })
    c.args.config refl c.empty.ensures (c.in_ok-rendition_states.ensures ∙ ap (map fresh_rendition_state) c.renditions.ensures.value)

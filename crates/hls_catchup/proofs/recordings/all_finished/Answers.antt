-- By whether the next rendition is finished, or none is left.
use Rattle.std.proofs.Common.{◌≡◌, ◌+◌, drop, true, false, ◌&&◌, arith, rules, ap, sym, ◌∙◌}
use Rattle.std.specs.List.{list_all}
use Rattle.std.proofs.lemmas.List.{at_drop_all}
use Rattle.hls_core_laws.specs.State.{channel}
use Rattle.hls_core_laws.specs.Places.{is_finished}
use Rattle.hls_catchup.proofs.States.{all_finished_from}
use Rattle.hls_catchup.proofs.recordings.all_finished.Goals as goal

pub returns-then-not-is_finished : goal.returns-then-not-is_finished
returns-then-not-is_finished c =
    let s = c.args.snapshot.now in
    let more = all_finished_from s c.loop-rendition.rendition (omega (arith, c.rendition_count-rendition-end.ensures.lanes)) in
    let over : c.is_finished.result ≡ false = search rules in
    let rest = list_all is_finished (drop (c.loop-rendition.rendition + 1) (channel s).lanes) in
    sym (sym c.loop-rendition.invariant ∙ more ∙ ap (λ b. b && rest) (sym c.is_finished.ensures ∙ over))

pub loop-rendition-preserved : goal.loop-rendition-preserved
loop-rendition-preserved c =
    let s = c.args.snapshot.now in
    let more = all_finished_from s c.loop-rendition.rendition (omega (arith, c.rendition_count-rendition-end.ensures.lanes)) in
    let over : c.is_finished.result ≡ true = search rules in
    let rest = list_all is_finished (drop (c.loop-rendition.rendition + 1) (channel s).lanes) in
    sym (ap (λ b. b && rest) (sym c.is_finished.ensures ∙ over)) ∙ sym more ∙ c.loop-rendition.invariant

pub returns : goal.returns
returns c =
    let lanes = (channel c.args.snapshot.now).lanes in
    sym (at_drop_all (list_all is_finished) lanes c.loop-rendition.rendition (omega (arith, c.rendition_count-rendition-end.ensures.lanes)))
    ∙ c.loop-rendition.invariant

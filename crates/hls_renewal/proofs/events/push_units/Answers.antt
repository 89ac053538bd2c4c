-- A unit that isn't recorded, or whose bytes aren't kept, ends the list of the units from the cut on. Any other unit is the next event.
use Rattle.std.proofs.Common.{◌∙◌, ◌-◌, ◌<◌, ℕ, List, [], ◌∷◌, ◌++◌, length, sym, ap, inl, inr, arith}
use Rattle.hls_core_laws.specs.declared.event.Event.TheVariants.{Accept}
use Rattle.hls_renewal.proofs.RenewalEvents.{unit_missing, unit_pushed}
use Rattle.hls_renewal.proofs.events.push_units.Goals as goal

pub returns-in_default : goal.returns-in_default
returns-in_default c =
    let rec = c.args.recording.now in
    unit_missing c.args.rendition rec c.loop-n.n (length rec.facts - c.loop-n.n) _ c.loop-n.events.items (inr (sym (rw c.in_default.is-1 at c.unit.ensures))) c.loop-n.invariant

pub returns-in_default-2 : goal.returns-in_default-2
returns-in_default-2 c =
    let rec = c.args.recording.now in
    unit_missing c.args.rendition rec c.loop-n.n (length rec.facts - c.loop-n.n) _ c.loop-n.events.items (inl (sym c.facts.ensures ∙ c.in_default.is-0)) c.loop-n.invariant

pub loop-n-preserved : goal.loop-n-preserved
loop-n-preserved c =
    let rec = c.args.recording.now in
    let within : c.loop-n.n < length rec.facts = omega (arith, c.loop-n-test.true, c.count-n-end.ensures.value) in
    let pushed = c.in_ok-push.ensures.items ∙ ap (λ (b : List ℕ). c.loop-n.events.items ++ (0, Accept c.args.rendition c.in-Some-Some.facts b) ∷ []) c.in_ok-bytes.ensures.cases in
    unit_pushed c.args.rendition rec c.loop-n.n c.in-Some-Some.facts c.in-Some-Some.unit.now _ c.loop-n.events.items c.push.new.self.items within
    (sym c.facts.ensures ∙ c.in-Some-Some.is-0) (sym (rw c.in-Some-Some.is-1 at c.unit.ensures)) pushed c.loop-n.invariant

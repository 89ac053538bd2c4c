-- The fillers made and those that may follow are all (`made-more`), until the gap is filled, a filler can't be made, or there are 64.
use Rattle.std.proofs.Common.{rules, ◌≡◌, ◌∙◌, ℕ, ◌+◌, ◌-◌, ◌<◌, Some, None, List, [], ◌∷◌, ◌++◌, sym, ap, arith}
use Rattle.std.proofs.lemmas.List.Elements.{All-push, All-same}
use Rattle.hls_media_laws.specs.IsInitOrUnit.{IsUnit}
use Rattle.hls_mend.specs.declared.mended.ReadUnit.{ReadUnit}
use Rattle.hls_mend.specs.MendedUnits.{FillerSource, source_view, filler, filler_ticks, fillers_from}
use Rattle.hls_mend.proofs.FillerSteps.{made-more, made-all, made-over, made-most}
use Rattle.hls_mend.proofs.gap.make_fillers.Goals as goal

pub returns-then-next-end-clause-value : goal.returns-then-next-end-clause-value
returns-then-next-end-clause-value c =
    made-over c.fillers.fillers.items c.fillers.left c.fillers.next c.args.end c.args.init.now (source_view c.args.source) c.args.len _ (omega arith) c.fillers.invariant.same

pub returns-in_default-clause-value : goal.returns-in_default-clause-value
returns-in_default-clause-value c =
    let s : FillerSource = source_view c.args.source in
    let within : c.fillers.next < c.args.end = omega arith in
    let none : filler c.args.init.now s c.fillers.next (filler_ticks c.args.len (c.args.end - c.fillers.next)) ≡ None =
    ap (filler c.args.init.now s c.fillers.next) (sym c.filler_ticks-ticks.ensures.value) ∙ sym c.in_ok-filler.ensures.value ∙ c.in_default.is in
    made-all c.fillers.fillers.items c.fillers.left c.fillers.next c.args.end c.args.init.now s c.args.len _ within none c.fillers.invariant.same

pub fillers-preserved : goal.fillers-preserved
fillers-preserved c =
    let s : FillerSource = source_view c.args.source in
    let u : ReadUnit = c.in-Some.filler in
    let some : 0 < c.fillers.left = omega arith in
    let within : c.fillers.next < c.args.end = omega arith in
    let made : filler c.args.init.now s c.fillers.next (filler_ticks c.args.len (c.args.end - c.fillers.next)) ≡ Some u =
    ap (filler c.args.init.now s c.fillers.next) (sym c.filler_ticks-ticks.ensures.value) ∙ sym c.in_ok-filler.ensures.value ∙ c.in-Some.is in
    let pushed : c.push.new.self.items ≡ c.fillers.fillers.items ++ u ∷ [] = search rules in
    let unit_is : IsUnit c.args.init.now u.bytes u.facts = search rules in
    record {
      same = ap (λ (xs : List ReadUnit). xs ++ fillers_from (c.fillers.left - 1) c.args.init.now s c.args.len (c.fillers.next + c.filler_ticks-ticks.result) c.args.end) pushed
          ∙ made-more c.fillers.fillers.items c.fillers.left c.fillers.next c.args.end (c.fillers.next + c.filler_ticks-ticks.result) c.args.init.now s c.args.len u _ some within made
          (ap (λ (n : ℕ). c.fillers.next + n) c.filler_ticks-ticks.ensures.value) c.fillers.invariant.same;
      valid = All-same (λ (x : ReadUnit). IsUnit c.args.init.now x.bytes x.facts) _ _ pushed
          (All-push (λ (x : ReadUnit). IsUnit c.args.init.now x.bytes x.facts) c.fillers.fillers.items u c.fillers.invariant.valid unit_is);
    }

pub returns-clause-value : goal.returns-clause-value
returns-clause-value c =
    made-most c.fillers.fillers.items c.fillers.left c.fillers.next c.args.end c.args.init.now (source_view c.args.source) c.args.len _ (omega arith) c.fillers.invariant.same

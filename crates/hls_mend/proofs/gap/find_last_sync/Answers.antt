-- The search among the units that are left finds what the whole search does (`sync-next`), until one is found or none are left.
use Rattle.std.proofs.Common.{rules, ◌≡◌, ◌∙◌, ℕ, ◌-◌, ◌<◌, true, false, sym, ap, arith}
use Rattle.std.specs.Prelude.{slice_index_or}
use Rattle.hls_media_laws.specs.FactLists.{no_facts}
use Rattle.hls_mend.specs.MendedUnits.{last_sync}
use Rattle.hls_mend.proofs.SyncSteps.{sync-next, sync-found, sync-none, sync-over}
use Rattle.hls_mend.proofs.gap.find_last_sync.Goals as goal

pub returns-then-count-eq0-clause-value : goal.returns-then-count-eq0-clause-value
returns-then-count-eq0-clause-value c =
    let none : c.units.count ≡ 0 = omega arith in
    sym (sym c.units.invariant.same ∙ ap (λ (n : ℕ). last_sync c.units.left c.args.recording.now.facts n) none ∙ sync-none c.units.left c.args.recording.now.facts)

pub returns-then-is_sync-clause-value : goal.returns-then-is_sync-clause-value
returns-then-is_sync-clause-value c =
    let some : 0 < c.units.left = omega arith in
    let more : 0 < c.units.count = omega arith in
    let found : (slice_index_or c.args.recording.now.facts (c.units.count - 1) no_facts).sync ≡ true = search rules in
    sym (sym c.units.invariant.same ∙ sync-found c.units.left c.units.count c.args.recording.now.facts some more found)

pub units-preserved : goal.units-preserved
units-preserved c =
    let some : 0 < c.units.left = omega arith in
    let more : 0 < c.units.count = omega arith in
    let other : (slice_index_or c.args.recording.now.facts (c.units.count - 1) no_facts).sync ≡ false = search rules in
    record {
      within = omega (arith, c.units.invariant.within);
      same = sym (sync-next c.units.left c.units.count c.args.recording.now.facts some more other) ∙ c.units.invariant.same;
    }

pub returns-clause-value : goal.returns-clause-value
returns-clause-value c =
    let none : c.units.left ≡ 0 = omega arith in
    sym (sym c.units.invariant.same ∙ ap (λ (n : ℕ). last_sync n c.args.recording.now.facts c.units.count) none ∙ sync-over c.args.recording.now.facts c.units.count)

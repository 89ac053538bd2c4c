-- Upkeep of a line that continues slides it by as many segments as it can; if none, it trims the units before the trim place, if there is one.
use Rattle.std.proofs.Common.{◌≡◌, ℕ, false, arith, refl, sym, ap, subst, ◌∙◌}
use Rattle.hls_places_laws.specs.Line.Live.{Live, has_ended}
use Rattle.hls_places_laws.specs.Line.Upkeep.{IsMostSlide, Slides}
use Rattle.hls_core_laws.specs.Line.{line}
use Rattle.hls_core.proofs.Upkeeps.{slides-on, uncut-idle, trimmed-by, upkeep-accepted}
use Rattle.hls_core.proofs.upkeep.upkeep.Goals as goal

pub returns-then-count-gt0-clause-is : goal.returns-then-count-gt0-clause-is
returns-then-count-gt0-clause-is c =
    let on : has_ended (line c.args.snapshot.now) ≡ false = sym (ap has_ended c.line.ensures.value) ∙ (sym c.ended.ensures ∙ c.if-ended.false) in
    let most = subst (λ (l : Live). IsMostSlide l c.args.window c.max_slide-count.result) c.line-2.ensures.value c.max_slide-count.ensures in
    record {
      upkeep = Slides c.max_slide-count.result;
      is = slides-on c.args.snapshot.now c.args.window c.args.keep c.max_slide-count.result on most (omega arith);
      event_is = refl;
    }

pub returns-in-Some-clause-is : goal.returns-in-Some-clause-is
returns-in-Some-clause-is c =
    let on : has_ended (line c.args.snapshot.now) ≡ false = sym (ap has_ended c.line.ensures.value) ∙ (sym c.ended.ensures ∙ c.if-ended.false) in
    let most = subst (λ (l : Live). IsMostSlide l c.args.window c.max_slide-count.result) c.line-2.ensures.value c.max_slide-count.ensures in
    let none : c.max_slide-count.result ≡ 0 = omega arith in
    let stays = subst (λ (n : ℕ). IsMostSlide (line c.args.snapshot.now) c.args.window n) none most in
    trimmed-by c.args.snapshot.now c.args.window c.args.keep c.in-Some.cut.now c.find_trim.result on stays c.in-Some.ensures.some c.find_trim.ensures.some c.find_trim.ensures.none

pub returns-in-Some-clause-accepted : goal.returns-in-Some-clause-accepted
returns-in-Some-clause-accepted c =
    upkeep-accepted c.args.snapshot.now c.line.ensures.valid c.args.window c.args.keep c.find_trim.result (returns-in-Some-clause-is c)

pub returns-in-None-clause-is : goal.returns-in-None-clause-is
returns-in-None-clause-is c =
    let most = subst (λ (l : Live). IsMostSlide l c.args.window c.max_slide-count.result) c.line-2.ensures.value c.max_slide-count.ensures in
    let none : c.max_slide-count.result ≡ 0 = omega arith in
    let stays = subst (λ (n : ℕ). IsMostSlide (line c.args.snapshot.now) c.args.window n) none most in
    uncut-idle c.args.snapshot.now c.args.window c.args.keep stays c.in-None.ensures.none

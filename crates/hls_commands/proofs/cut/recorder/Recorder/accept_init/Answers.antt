-- An init section that can be read begins the rendition; one that can't is refused with the fault of reading it.
use Rattle.std.proofs.Common.{◌≡◌, rules, List, ℕ, Ok, Err, subst}
use Rattle.hls_media_laws.specs.Inits.{init_of}
use Rattle.hls_core.specs.declared.feed_fault.StreamFault.TheVariants.{Media}
use Rattle.hls_commands.specs.MemoryCases.{IsReadOrMemory}
use Rattle.hls_commands.specs.OrRefused.{or_refused_as}
use Rattle.hls_commands.proofs.AcceptLaws.{accepts_init, refuses_init}
use Rattle.hls_commands.proofs.cut.recorder.Recorder.accept_init.Goals as goal

pub returns-in-Err : goal.returns-in-Err
returns-in-Err c =
    let same : c.deref.result.now ≡ c.args.bytes = search rules in
    refuses_init c.args.self.now c.args.self.now c.args.bytes c.in-Err.fault
    (subst (λ (bytes : List ℕ). IsReadOrMemory (or_refused_as Media (init_of bytes)) (Err c.in-Err.fault)) same c.in-Err.ensures)

pub returns : goal.returns
returns c =
    let same : c.deref.result.now ≡ c.args.bytes = search rules in
    accepts_init c.args.self.now c.apply_event.new.self c.args.bytes c.in-Ok.init c.apply_event.result
    (subst (λ (bytes : List ℕ). IsReadOrMemory (or_refused_as Media (init_of bytes)) (Ok c.in-Ok.init)) same c.in-Ok.ensures) c.apply_event.ensures

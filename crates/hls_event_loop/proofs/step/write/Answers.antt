-- A write takes the first bytes that wait, or keeps the output if it fails.
use Rattle.std.proofs.{Common.{◌≡◌, ◌∙◌, List, ℕ, ap, sym, subst, take, length}, lemmas.List.take-take, KnownBytes.Keeps-refl}
use Rattle.std.specs.Io.KnownBytes.{Appends}
use Rattle.hls_event_loop.proofs.Moving.{moves_quiet, moves_sent}
use Rattle.hls_event_loop.proofs.step.write.Goals as goal

pub returns-then-not-socket-clause-moves : goal.returns-then-not-socket-clause-moves
returns-then-not-socket-clause-moves g c = λ h. moves_quiet (g.met.H.Handler.unchanged h _) (Keeps-refl _) (Keeps-refl _)

pub returns-in-Ok-clause-moves : goal.returns-in-Ok-clause-moves
returns-in-Ok-clause-moves g c = λ h.
    let count = c.in-Ok.count in
    let waits = g.H.Handler.pending c.args.connection.now in
    let same : take count c.output.result.now ≡ take count waits =
    sym (ap (λ (l : List ℕ). take count l) c.output.ensures.first) ∙ take-take count (length c.output.result.now) waits c.in-Ok.ensures.fits in
    let taken : Appends (g.W.Write.contents c.args.socket.now.output.writer) (g.W.Write.contents c.send.new.self.writer) (take count waits) =
    subst (λ (l : List ℕ). Appends (g.W.Write.contents c.args.socket.now.output.writer) (g.W.Write.contents c.send.new.self.writer) l) same c.in-Ok.ensures.taken in
    moves_sent (g.R.Read.remaining c.args.socket.now.input.reader) (take count waits) (c.mark_sent.ensures.becomes h) taken

pub returns-in-Err-clause-moves : goal.returns-in-Err-clause-moves
returns-in-Err-clause-moves g c = λ h. moves_quiet (g.met.H.Handler.unchanged h _) (Keeps-refl _) c.in-Err.ensures.kept

-- The bytes that were read are appended to those that the connection received, and the end of its input is noted.
use Rattle.std.proofs.{Common.{◌≡◌, ◌∙◌, ◌++◌, ℕ, List, drop, flat_map, ap}, Math.Seq.drop-append_seam}
use Rattle.hls_http.specs.Buffers.{BufferTexts}
use Rattle.hls_connection.{specs.Traces.trace_at, proofs.HoldLaws.flat_push}
use Rattle.hls_connection.proofs.machine.ConnectionMachine.note_read.Goals as goal

pub returns : goal.returns
returns c = λ unread more len is.
    let t = c.args.self.now in
    let act_note = ap (λ (xs : List (BufferTexts × ℕ)). flat_map (λ r. drop r.1 r.0.unread) xs) c.and-self.ensures
    ∙ flat_push (λ r. drop r.1 r.0.unread) t.notes.reads.items (c.args.input.now, c.args.before) in
    let read : drop c.args.before c.args.input.now.unread ≡ more = rw (len, is) (drop-append_seam unread more) in
    let received = act_note ∙ ap (λ (x : List ℕ). (trace_at t unread).past.received ++ x) read in
    λ i. record (trace_at t unread) { past = record (trace_at t unread).past { ended = c.args.ended; unread = is i; received = received i } }

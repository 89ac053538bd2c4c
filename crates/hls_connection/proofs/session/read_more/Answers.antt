-- A read appends its bytes, or the end of the input, to what the session received; one that fails ends the session.
use Rattle.std.proofs.Common.{ℕ, List, length, true, false, ap}
use Rattle.hls_http.specs.BufferedReader.{unread_of}
use Rattle.hls_connection.proofs.SessionLaws.{ended_unread, led_hears}
use Rattle.hls_connection.proofs.session.read_more.Goals as goal

pub returns-in-Data : goal.returns-in-Data
returns-in-Data g c = λ m known first led.
    let r = c.in-Data.ensures.reads in
    let exchange = c.note_read.ensures (unread_of c.args.session.now.source) r.bytes (ap (λ (x : List ℕ). length x) c.unread-before.ensures.unread) r.following in
    led_hears r.bytes false exchange c.requires.wants.2 r.consumes (λ never. absurd (cc)) c.in-Data.ensures.counts led

pub returns-in-Eof : goal.returns-in-Eof
returns-in-Eof g c = λ m known first led.
    let r = c.in-Eof.ensures.reads in
    let exchange = c.note_read-in-Eof.ensures (unread_of c.args.session.now.source) r.bytes (ap (λ (x : List ℕ). length x) c.unread-before.ensures.unread) r.following in
    led_hears r.bytes true exchange c.requires.wants.2 r.consumes (λ ended. r.outcome_is.1) c.in-Eof.ensures.counts led

pub returns-in-Failed : goal.returns-in-Failed
returns-in-Failed g c = λ m known first led. ended_unread c.requires.wants c.in-Failed.ensures.counts led

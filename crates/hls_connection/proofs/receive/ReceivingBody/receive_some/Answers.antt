-- A token of the body is a piece, framing, its end or a fault; each is a lemma of WithinLaws.
use Rattle.std.proofs.Common.{◌≡◌, rules}
use Rattle.hls_http.specs.declared.framing.BodyFraming.TheVariants.{Length}
use Rattle.hls_connection.proofs.WithinLaws.{receive_broken, receive_frame, receive_over, receive_piece, receive_too_large, receive_untaken}
use Rattle.hls_connection.proofs.receive.ReceivingBody.receive_some.Goals as goal

pub returns-then-eq-clause-receives : goal.returns-then-eq-clause-receives
returns-then-eq-clause-receives g c = let over : c.args.self.now.body ≡ Length 0 = search rules in λ channel stream first x. receive_over x c.finish.result over c.finish.ensures

pub returns-in-Ok-clause-receives : goal.returns-in-Ok-clause-receives
returns-in-Ok-clause-receives g c = λ channel stream first x.
    let found = rw (c.in-Ok-Piece.field-0-is, c.unread.ensures.unread) at c.in-Ok-Piece.ensures in
    let takes = rw (c.unread-in-Ok-Piece.ensures.unread, c.in-Ok.is) at c.take_piece-received.ensures.takes in
    rw c.consume.ensures (receive_piece x c.take_piece-received.new.self c.take_piece-received.new.taken c.in-Ok-Piece.next c.in-Ok-Piece.len found takes)

pub returns-in-Err-clause-receives : goal.returns-in-Err-clause-receives
returns-in-Err-clause-receives g c = λ channel stream first x.
    let found = rw (c.in-Ok-Piece.field-0-is, c.unread.ensures.unread) at c.in-Ok-Piece.ensures in
    let few = rw c.unread.ensures.unread at c.unread.ensures.few in
    let takes = rw (c.unread-in-Ok-Piece.ensures.unread, c.in-Err.is) at c.take_piece-received.ensures.takes in
    rw c.consume.ensures (receive_untaken x c.take_piece-received.new.self c.take_piece-received.new.taken c.in-Ok-Piece.next c.in-Ok-Piece.len c.in-Err.stop found few takes)

pub returns-then-not-announce-clause-receives : goal.returns-then-not-announce-clause-receives
returns-then-not-announce-clause-receives g c = λ channel stream first x.
    let found = rw (c.in-Ok-Frame.field-0-is, c.unread.ensures.unread) at c.in-Ok-Frame.ensures in
    receive_too_large x c.in-Ok-Frame.next _ found.2 (λ fits. absurd (cc (c.announce.ensures.fits.1 (rw c.announced_len.ensures fits), c.if-not-announce.true)))

pub returns-else-not-announce-clause-receives : goal.returns-else-not-announce-clause-receives
returns-else-not-announce-clause-receives g c = λ channel stream first x.
    let found = rw (c.in-Ok-Frame.field-0-is, c.unread.ensures.unread) at c.in-Ok-Frame.ensures in
    rw (c.consume-in-Ok-Frame.ensures, c.announce.ensures.counted (search rules), c.announced_len.ensures)
    (receive_frame x c.in-Ok-Frame.next _ found.2 (rw c.announced_len.ensures at (c.announce.ensures.fits.0 (search rules))))

pub returns-in-Err-Invalid-clause-receives : goal.returns-in-Err-Invalid-clause-receives
returns-in-Err-Invalid-clause-receives g c = λ channel stream first x. receive_broken x (rw (c.in-Err-Invalid.field-0-is, c.unread.ensures.unread) at c.in-Err-Invalid.ensures)

pub returns-in-Err-Incomplete-clause-receives : goal.returns-in-Err-Incomplete-clause-receives
returns-in-Err-Incomplete-clause-receives g c = λ channel stream first x. (x, (rw (c.in-Err-Incomplete.field-0-is, c.unread.ensures.unread) at c.in-Err-Incomplete.ensures).1)

pub returns-in-Err-Incomplete-clause-waits : goal.returns-in-Err-Incomplete-clause-waits
returns-in-Err-Incomplete-clause-waits g c = λ is. (rw (c.in-Err-Incomplete.field-0-is, c.unread.ensures.unread) at c.in-Err-Incomplete.ensures).0

pub returns-in-Err-Incomplete-clause-unfinished : goal.returns-in-Err-Incomplete-clause-unfinished
returns-in-Err-Incomplete-clause-unfinished g c = λ is. (rw (c.in-Err-Incomplete.field-0-is, c.unread.ensures.unread) at c.in-Err-Incomplete.ensures).1

-- A request gets its response, without content for HEAD; the connection closes if the request or an early response demands it.
use Rattle.std.proofs.Common.{[]}
use Rattle.hls_connection.proofs.CallLaws.{sends_by}
use Rattle.hls_connection.proofs.respond.respond.Goals as goal

pub returns-clause-responds : goal.returns-clause-responds
returns-clause-responds g c = λ channel h first context.
    rw (c.sends_close-closing.ensures h context.text context.head, c.is_head_request-to_head.ensures, context.head.method) at (c.send_response.ensures first)

pub returns-clause-sends : goal.returns-clause-sends
returns-clause-sends g c = sends_by (c.send_response.ensures [])

-- After some unread bytes are consumed, the unread ones are those that followed them.
use Rattle.std.proofs.Common.{vec_len}
use Rattle.hls_http.proofs.Buffers.{takes}
use Rattle.hls_http.proofs.input_buffer.InputBuffer.consume.Goals as goal

pub returns : goal.returns
returns c =
    let s = c.self.inside in
    takes s.buffer.items s.from s.start s.end c.args.len (vec_len s.buffer) c.args.self.now c.self.invariant.1 c.self.view_is c.requires

-- The fixed text is the head of the out-of-memory response, by computing both.
use Rattle.std.{specs.Fmt.digits, proofs.Common.refl}
use Rattle.hls_http.specs.ResponseText.{out_of_memory_head_text}
use Rattle.hls_http.proofs.response_parts.out_of_memory_head_text.Goals as goal

pub returns : goal.returns
unfolding out_of_memory_head_text digits
returns c = refl

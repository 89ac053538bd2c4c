-- A text of decimal seconds is read as microseconds, as this crate defines them; `hls_time` reads the same value.
use Rattle.std.proofs.Common.{ap, ◌∙◌}
use Rattle.hls_m3u8.specs.Values.{seconds}
use Rattle.hls_m3u8.proofs.Times.{same_seconds}
use Rattle.hls_m3u8.proofs.value.parse_seconds.Goals as goal

pub returns : goal.returns
returns c = same_seconds c.as_bytes.result.now c.read_seconds.result c.read_seconds.ensures ∙ ap seconds c.as_bytes.ensures.value

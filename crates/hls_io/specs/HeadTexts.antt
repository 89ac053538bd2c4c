-- For the proofs of this crate; no public clause cites it. The bytes of a text.
use Rattle.std.specs.Prelude.{ℕ, List}
use Rattle.hls_io.specs.declared.send_buffer.HeadText.{HeadText, TheVariants.{Fixed, Owned}}

-- the bytes of a head's text, whether it is fixed or owned
abbrev pub bytes_of : HeadText → List ℕ
bytes_of (Fixed text) = text.now
bytes_of (Owned text) = text.items

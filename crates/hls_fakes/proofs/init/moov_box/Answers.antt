-- The bytes are those of the defined `moov`, since the boxes in it, the track and the defaults, have their defined bytes.
use Rattle.hls_fakes.proofs.init.moov_box.Goals as goal

pub returns-clause-bytes : goal.returns-clause-bytes
returns-clause-bytes c =
    rw (
      c.deref-2.ensures.value,
      c.in_ok-track.ensures.bytes,
      c.deref-3.ensures.value,
      c.in_ok-extends.ensures.bytes,
      c.deref.ensures.value,
      c.in_ok-defaults.ensures.bytes,
    )
    at c.box_bytes-2.ensures.bytes

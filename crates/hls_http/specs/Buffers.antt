-- The contents of an input buffer.
use Rattle.std.specs.Prelude.{ℕ, List, [], take, drop}

-- the bytes that an input buffer holds: those taken last and those still unread
pub record BufferTexts : Type 0 where
  -- bytes that were taken last
  pub taken : List ℕ
  -- bytes that were read and not yet taken
  pub unread : List ℕ
  -- how many bytes may be unread before the buffer must allocate
  pub room : ℕ

-- an empty buffer with this room in bytes
abbrev pub no_texts : ℕ → BufferTexts
no_texts room = record { taken = []; unread = []; room = room }

-- the buffer's contents after a number of bytes is taken
abbrev pub texts_after_consume : BufferTexts → ℕ → BufferTexts
texts_after_consume texts len = record { taken = take len texts.unread; unread = drop len texts.unread; room = texts.room }

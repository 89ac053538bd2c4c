-- The media of one record.
use Rattle.std.specs.Prelude.{List, [], ◌∷◌, Option, Some, None}
use Rattle.hls_journal_store.specs.declared.batch.MediaWrite.{MediaWrite}

-- what is to be written, as a list
abbrev pub written_list : Option MediaWrite → List MediaWrite
written_list None = []
written_list (Some write) = write ∷ []

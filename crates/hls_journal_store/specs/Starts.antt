-- What a start takes.
use Rattle.std.specs.Prelude.{◌≡◌, ℕ, List, Some, codes, slice_get}
use Rattle.hls_core_laws.specs.Config.{ConfigData}
use Rattle.hls_journal.specs.Channels.{channel_bytes}
use Rattle.hls_journal.specs.declared.channel.ChannelHeader.{ChannelHeader}
use Rattle.hls_journal_store.specs.declared.fault.StorePart.{StorePart}
use Rattle.hls_journal_store.specs.declared.fault.StorePart.TheVariants as parts

-- the first record of a log, if it has one, is that of a channel with this configuration
abbrev pub IsOfChannel : ConfigData → List (List ℕ) → Type 0
IsOfChannel config bodies = (first : List ℕ) → slice_get bodies 0 ≡ Some first → (header : ChannelHeader) × (first ≡ channel_bytes config header)

-- the name of a part of a journal's folder
abbrev pub part_name : StorePart → List ℕ
part_name parts.Folder = codes "folder"
part_name parts.Lock = codes "lock"
part_name parts.Log = codes "log"
part_name parts.Media = codes "media"
part_name parts.Marker = codes "behind"

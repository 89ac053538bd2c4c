-- The record of a channel.
use Rattle.std.specs.Prelude.{◌≡◌, ◌≢◌, ℕ, zero, suc, ℤ, ◌+◌, ◌-◌, ◌*◌, ◌<◌, ◌≤◌, ⊤, ◌⊎◌, not, ◌==◌, Option, Some, None, List, [], ◌∷◌, ◌++◌, length, take, drop, get_or, replicate, slice_range, unsigned_abs, Result, Ok, Err}
use Rattle.std.specs.List.{flat_map}
use Rattle.std.specs.Int.{from_bool}
use Rattle.byteorder.specs.Endian.{little_bytes, little_number}
use Rattle.hls_core_laws.specs.declared.rendition.Rendition.{Rendition}
use Rattle.hls_core_laws.specs.Base.{BaseData, IsBase, bytes_before_base}
use Rattle.hls_core_laws.specs.Config.{ConfigData}
use Rattle.hls_core.specs.Bases.{base_from}
use Rattle.hls_journal.specs.declared.channel.ChannelHeader.{ChannelHeader}
use Rattle.hls_journal.specs.declared.fault.ConfigField.{ConfigField}
use Rattle.hls_journal.specs.declared.fault.ConfigField.TheVariants.{Target, Preferred, Epoch, Renditions}
use Rattle.hls_journal.specs.declared.fault.JournalFault.{JournalFault}
use Rattle.hls_journal.specs.declared.fault.JournalFault.TheVariants.{Memory, NoChannel, UnknownVersion, JournalOther, WrongRecord, MissingUnit}

-- an epoch in nine bytes: whether there is one, and its microseconds since 1970
abbrev pub epoch_bytes : Option ℤ → List ℕ
epoch_bytes None = 0 ∷ little_bytes 8 0
epoch_bytes (Some us) = 1 ∷ little_bytes 8 (unsigned_abs us)

-- a name in 32 bytes, filled up with zeros
abbrev pub name_bytes : List ℕ → List ℕ
name_bytes name = name ++ replicate (32 - length name) 0

-- a rendition in bytes: its name, whether it is video, its bandwidth, its tolerance
abbrev pub rendition_bytes : Rendition → List ℕ
rendition_bytes r = name_bytes r.name ++ (from_bool r.video ∷ []) ++ little_bytes 8 r.bandwidth ++ little_bytes 8 r.tolerance

-- a configuration in bytes, but for its base
abbrev pub config_bytes : ConfigData → List ℕ
config_bytes c = little_bytes 8 c.target ++ little_bytes 8 c.preferred ++ epoch_bytes c.epoch ++ flat_map rendition_bytes c.renditions

-- the bytes that precede in each of the first renditions, in eight bytes each
abbrev pub counts_bytes : BaseData → ℕ → List ℕ
counts_bytes b zero = []
counts_bytes b (suc r) = counts_bytes b r ++ little_bytes 8 (bytes_before_base b r)

-- a base in bytes: its run, segments, marks, whether the first segment is marked, the log entries, and the bytes of 16 renditions
abbrev pub base_bytes : BaseData → List ℕ
base_bytes b = b.run ++ little_bytes 8 b.segments ++ little_bytes 8 b.marks ++ (from_bool b.marked ∷ []) ++ little_bytes 8 b.version ++ counts_bytes b 16

-- what precedes the configuration: the kind, the version of the format, the boot id, the base
abbrev pub header_bytes : ChannelHeader → List ℕ
header_bytes h = (0 ∷ []) ++ little_bytes 2 2 ++ h.boot ++ base_bytes h.base

-- the body of the record of a channel: a header, and the configuration
abbrev pub channel_bytes : ConfigData → ChannelHeader → List ℕ
channel_bytes c h = header_bytes h ++ config_bytes c

-- the number of bytes in the record of a channel before the configuration
abbrev pub header_len : ℕ
header_len = 188

-- the bytes of a configuration before its renditions
abbrev pub fields_len : ℕ
fields_len = 25

-- the version of the format that a body of a channel's record names
abbrev pub version_in : List ℕ → ℕ
version_in body = little_number 2 (drop 1 body)

-- the configuration in the body of the record of a channel
abbrev pub config_in : List ℕ → List ℕ
config_in body = drop header_len body

-- the number in eight bytes of a text
abbrev pub number_at : ℕ → List ℕ → ℕ
number_at at text = little_number 8 (drop at text)

-- the bytes that precede in each of the first renditions, as a text has them
abbrev pub counts_in : List ℕ → ℕ → List ℕ
counts_in text zero = []
counts_in text (suc r) = counts_in text r ++ number_at (8 * r) text ∷ []

-- the base in its bytes
abbrev pub base_in : List ℕ → BaseData
base_in text = base_from (take 16 text) (number_at 16 text) (number_at 24 text) (not (get_or text 32 0 == 0)) (counts_in (drop 41 text) 16) (number_at 33 text)

-- the bytes of the boot id in the body of a channel's record
abbrev pub boot_part : List ℕ → List ℕ
boot_part body = slice_range body 3 19

-- the bytes of the base in it
abbrev pub base_part : List ℕ → List ℕ
base_part body = slice_range body 19 188

-- a base, with the name of its run in 16 bytes and the counts of 16 renditions
abbrev pub IsWholeBase : BaseData → Type 0
IsWholeBase b = (length b.run ≡ 16) × (length b.bytes ≡ 16) × IsBase b

-- a header that a channel can have
abbrev pub IsHeader : ChannelHeader → Type 0
IsHeader h = (length h.boot ≡ 16) × IsWholeBase h.base

-- a body begins with a header, and has the fields of a configuration
pub record HasHeader (body : List ℕ) : Type 0 where
  pub header : ChannelHeader
  pub is_header : IsHeader header
  pub is : take header_len body ≡ header_bytes header
  pub complete : header_len + fields_len ≤ length body

-- the header with which a body begins
abbrev pub IsHeaderOf : List ℕ → ChannelHeader → Type 0
IsHeaderOf body header = IsHeader header × (take header_len body ≡ header_bytes header) × (header_len + fields_len ≤ length body)

-- the first field in which two configurations differ, with both values; of renditions, the lengths in bytes
abbrev pub DifferIn : List ℕ → List ℕ → ConfigField → ℕ → ℕ → Type 0
DifferIn found given Target journal mine = (journal ≡ number_at 0 found) × (mine ≡ number_at 0 given) × (journal ≢ mine)
DifferIn found given Preferred journal mine =
    (number_at 0 found ≡ number_at 0 given) × (journal ≡ number_at 8 found) × (mine ≡ number_at 8 given) × (journal ≢ mine)
DifferIn found given Epoch journal mine =
    (number_at 0 found ≡ number_at 0 given) × (number_at 8 found ≡ number_at 8 given) × (journal ≡ number_at 17 found) × (mine ≡ number_at 17 given) × (take 25 found ≢ take 25 given)
DifferIn found given Renditions journal mine = (take 25 found ≡ take 25 given) × (journal ≡ length found) × (mine ≡ length given) × (found ≢ given)

-- a body is that of a channel's record in version 2 of the format, or it isn't, for this reason
abbrev pub JudgesVersion : List ℕ → Result (Unit {0}) JournalFault → Type 0
JudgesVersion body (Ok _) = (3 ≤ length body) × (get_or body 0 0 ≡ 0) × (version_in body ≡ 2)
JudgesVersion body (Err Memory) = ⊥
JudgesVersion body (Err NoChannel) = (length body < 3) ⊎ (get_or body 0 0 ≢ 0)
JudgesVersion body (Err (UnknownVersion version)) = (3 ≤ length body) × (get_or body 0 0 ≡ 0) × (version ≡ version_in body) × (version ≢ 2)
JudgesVersion body (Err (JournalOther field journal given)) = ⊥
JudgesVersion body (Err (WrongRecord number)) = ⊥
JudgesVersion body (Err (MissingUnit number)) = ⊥

-- the bytes of two configurations are equal, or this is the first field in which they differ
abbrev pub JudgesConfigs : List ℕ → List ℕ → Result (Unit {0}) JournalFault → Type 0
JudgesConfigs found given (Ok _) = found ≡ given
JudgesConfigs found given (Err Memory) = ⊥
JudgesConfigs found given (Err NoChannel) = ⊥
JudgesConfigs found given (Err (UnknownVersion version)) = ⊥
JudgesConfigs found given (Err (JournalOther field journal mine)) = DifferIn found given field journal mine
JudgesConfigs found given (Err (WrongRecord number)) = ⊥
JudgesConfigs found given (Err (MissingUnit number)) = ⊥

-- why a body isn't of the record of a channel with this configuration: the first cause in this order
abbrev pub IsChannelFault : ConfigData → List ℕ → JournalFault → Type 0
IsChannelFault config body Memory = ⊤
IsChannelFault config body NoChannel =
    (length body < 3) ⊎ ((get_or body 0 0 ≢ 0) ⊎ ((version_in body ≡ 2) × (HasHeader body → ⊥)))
IsChannelFault config body (UnknownVersion version) = (3 ≤ length body) × (get_or body 0 0 ≡ 0) × (version ≡ version_in body) × (version ≢ 2)
IsChannelFault config body (JournalOther field journal given) =
    HasHeader body × DifferIn (config_in body) (config_bytes config) field journal given
IsChannelFault config body (WrongRecord number) = ⊥
IsChannelFault config body (MissingUnit number) = ⊥

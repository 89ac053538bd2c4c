-- The names of a channel's renditions and of its run are UTF-8 text.
use Rattle.std.proofs.Common.{◌≡◌, ℕ, ◌<◌, List, [], ◌∷◌, All, get_or, arith, rules, Some}
use Rattle.std.specs.Prelude.{IsTrue, IsUtf8, slice_get}
use Rattle.std.proofs.lemmas.List.Elements.{All-from_get_or}
use Rattle.std.proofs.lemmas.Option.{slice_get-get_or}
use Rattle.std.proofs.lemmas.Str.{IsUtf8-from_ascii}
use Rattle.std.proofs.lemmas.Str.Ascii.{IsAscii-from_all}
use Rattle.hls_core_laws.specs.Base.{BaseData, IsBase, is_run_byte, run_text}
use Rattle.hls_core_laws.specs.Config.{is_name_byte, IsName, IsConfig, ConfigData}
use Rattle.hls_core_laws.specs.declared.rendition.Rendition.{Rendition}
use Rattle.hls_playlists.specs.RenditionNames.{IsNamed}

-- a byte of a name is ASCII
byte_small : (b : ℕ) → IsTrue (is_name_byte b) → b < 128
byte_small b spelled = grind (arith, spelled)

-- the bytes of a name are ASCII
bytes_small : (name : List ℕ) → All (λ b. IsTrue (is_name_byte b)) name → All (λ b. b < 128) name
bytes_small name spelled = search rules

-- a rendition's name is UTF-8
pub name_text : (name : List ℕ) → IsName name → IsUtf8 name
name_text name is = IsUtf8-from_ascii name (IsAscii-from_all name (bytes_small name is.spelled))

-- if each rendition of a list has a name that can be printed, all have
each_named : (renditions : List Rendition) → ((n : ℕ) (r : Rendition) → slice_get renditions n ≡ Some r → IsNamed r) → All IsNamed renditions
each_named [] each = search rules
each_named (r ∷ others) each =
    All-from_get_or IsNamed (r ∷ others) r (λ i within. each i (get_or (r ∷ others) i r) (slice_get-get_or (r ∷ others) i r within))

-- each rendition of a configuration has a name that can be printed
pub are_named : (config : ConfigData) → IsConfig config → All IsNamed config.renditions
are_named config is = each_named config.renditions (λ n r at. (is.renditions.each n r at).own.name)

-- a byte of a run's name is ASCII
run_byte_small : (b : ℕ) → IsTrue (is_run_byte b) → b < 128
run_byte_small b spelled = grind (arith, spelled)

-- the bytes of a run's name are ASCII
run_bytes_small : (name : List ℕ) → All (λ b. IsTrue (is_run_byte b)) name → All (λ b. b < 128) name
run_bytes_small name spelled = search rules

-- the text of a base's run is UTF-8
pub run_utf8 : (base : BaseData) → IsBase base → IsUtf8 (run_text base.run)
run_utf8 base is = IsUtf8-from_ascii (run_text base.run) (IsAscii-from_all (run_text base.run) (run_bytes_small (run_text base.run) is.run))

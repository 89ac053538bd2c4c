-- The laws, each as one statement.
use Rattle.std.specs.Prelude.{◌≡◌}
use Rattle.hls_core_laws.specs.Config.{ConfigData, IsConfig, without_base}
use Rattle.hls_journal.specs.Channels.{config_bytes}

-- configurations with the same bytes are the same, but for their bases
abbrev pub BytesDetermineConfigurations : Type 0
BytesDetermineConfigurations = (c d : ConfigData) → IsConfig c → IsConfig d → config_bytes c ≡ config_bytes d → without_base c ≡ without_base d

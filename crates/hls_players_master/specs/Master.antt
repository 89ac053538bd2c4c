-- The master playlist of a state below `/hls/`.
use Rattle.std.specs.Prelude.{ℕ, Bool, Option, option_map, List}
use Rattle.hls_core_laws.specs.State.{State}
use Rattle.hls_players_master.specs.Summaries.{summaries_of}
use Rattle.hls_players_master.specs.Text.{players_master_text}

-- None before each rendition has its init section; `independent` is the operator's word that segments are independent
abbrev pub players_master : State → Bool → Option (List ℕ)
players_master s independent = option_map (players_master_text independent) (summaries_of s)

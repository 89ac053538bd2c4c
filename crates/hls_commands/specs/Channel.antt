-- The channel into which a stream is recorded, and how it is listed.
use Rattle.std.specs.Prelude.{ℕ, ◌*◌, [], ◌∷◌, Option, Some, None, Bool, true, codes}
use Rattle.hls_check_tables.specs.declared.cost_rule.CostRule.{CostRule}
use Rattle.hls_check_tables.specs.Tables.{rule_of}
use Rattle.hls_core_laws.specs.Base.{no_base}
use Rattle.hls_core_laws.specs.declared.rendition.Rendition.{Rendition}
use Rattle.hls_core_laws.specs.Config.{ConfigData}
use Rattle.hls_core_laws.specs.Runs.{first_state}
use Rattle.hls_core_laws.specs.State.{State}
use Rattle.hls_commands.specs.declared.listing_mode.ListingMode.{ListingMode}
use Rattle.hls_commands.specs.declared.listing_mode.ListingMode.TheVariants.{Each, Planned}
use Rattle.hls_settings.specs.Options.{CutOptionsData}

-- the channel's only rendition; what no playlist of a stream shows has an arbitrary valid value
abbrev pub stream_rendition : Rendition
stream_rendition = record { name = codes "stream"; video = true; bandwidth = 1; tolerance = 0 }

-- the preferred segment length in microseconds; by default the target duration, and then nothing depends on it
abbrev pub preferred_or : ℕ → Option ℕ → ℕ
preferred_or target None = target * 1000000
preferred_or target (Some length) = length

-- the configuration of the channel into which a stream is recorded, by the options
abbrev pub config_of : CutOptionsData → ConfigData
config_of choice =
    record { target = choice.target; preferred = preferred_or choice.target choice.preferred; renditions = stream_rendition ∷ []; epoch = choice.epoch; base = no_base }

-- the state of the channel with nothing recorded
abbrev pub opening_of : CutOptionsData → State
opening_of choice = first_state (config_of choice)

-- how a recording is listed: with a segment from each place to the next, or by a least plan if a preferred length is given
abbrev pub listing_mode_by : Option ℕ → CostRule → Bool → ListingMode
listing_mode_by None rule certificate = Each
listing_mode_by (Some length) rule certificate = Planned rule certificate

-- how the recording is listed, by the options
abbrev pub listing_mode_of : CutOptionsData → ListingMode
listing_mode_of choice = listing_mode_by choice.preferred (rule_of choice.charge) choice.certificate

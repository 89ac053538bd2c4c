-- What the query of a catch-up request asks for.
use Rattle.std.specs.Prelude.{ℕ, ℤ, pos, negsuc, ◌-ℤ◌, List, Option, Some, None, option_and_then, option_map, unwrap_or, Result, Ok, Err, codes}
use Rattle.std.specs.Option.{option_or}
use Rattle.hls_instants.specs.Instants.{instant_of}
use Rattle.hls_text.specs.Digits.{number_of_digits}
use Rattle.form_urlencoded.specs.Form.{parse}
use Rattle.hls_http.specs.Query.{first_pair_value}
use Rattle.hls_check_tables.specs.Tables.{rule_of}
use Rattle.hls_api.specs.{Types.{State, Request, CatchupQuery, QueryFault, CatchupParams}, declared.catchup_query.TimePoint.TimePoint}
use Rattle.hls_api.specs.declared.catchup_query.{QueryFault.TheVariants.{BadQuery, BeforeEpoch}, TimePoint.TheVariants.{Time, Instant}}

-- ---- what a query says

-- 1 to 16 digits are microseconds from time 0, even where they could be read otherwise
abbrev pub time_point_of : List ℕ → Option TimePoint
time_point_of text = option_or (option_map Time (number_of_digits 16 text)) (option_map Instant (instant_of text))

-- the number of an optional key
abbrev pub optional_in : Option (List ℕ) → Option (Option ℕ)
optional_in None = Some None
optional_in (Some text) = option_map Some (number_of_digits 16 text)

-- the query with these values, if they are valid
abbrev pub query_with : Option TimePoint → Option TimePoint → Option (Option ℕ) → Option (Option ℕ) → Option CatchupQuery
query_with (Some start) (Some stop) (Some preferred) (Some charge) =
    Some (record { start = start; stop = stop; preferred = preferred; charge = charge })
query_with start stop preferred charge = None

-- `from` and `to`, and optionally `preferred` and `charge`, of decoded pairs; none if one of them is invalid
abbrev pub query_of : List (List ℕ × List ℕ) → Option CatchupQuery
query_of pairs =
    query_with (option_and_then time_point_of (first_pair_value (codes "from") pairs)) (option_and_then time_point_of (first_pair_value (codes "to") pairs))
    (optional_in (first_pair_value (codes "preferred") pairs)) (optional_in (first_pair_value (codes "charge") pairs))

-- .. of a programme whose address says its start and its end
abbrev pub programme_query_of : TimePoint → TimePoint → List (List ℕ × List ℕ) → Option CatchupQuery
programme_query_of start stop pairs =
    query_with (Some start) (Some stop) (optional_in (first_pair_value (codes "preferred") pairs)) (optional_in (first_pair_value (codes "charge") pairs))

-- the query in a text
abbrev pub programme_query_in : TimePoint → TimePoint → List ℕ → Option CatchupQuery
programme_query_in start stop text = programme_query_of start stop (parse text)

-- the query of a catch-up request in a text
abbrev pub query_in : List ℕ → Option CatchupQuery
query_in text = query_of (parse text)

-- ---- what it asks of a channel

-- the time of a moment relative to the epoch; a moment before time 0 has none
abbrev pub from_epoch : ℤ → Result ℕ QueryFault
from_epoch (pos us) = Ok us
from_epoch (negsuc n) = Err BeforeEpoch

-- an instant less the epoch, which is the instant of time 0; without an epoch, an instant has no time
abbrev pub time_of : Option ℤ → TimePoint → Result ℕ QueryFault
time_of epoch (Time us) = Ok us
time_of None (Instant us) = Err BadQuery
time_of (Some epoch) (Instant us) = from_epoch (us -ℤ epoch)

-- the parameters with these times; the start's fault precedes the end's
abbrev pub params_with : Result ℕ QueryFault → Result ℕ QueryFault → Option ℕ → Option ℕ → Result CatchupParams QueryFault
params_with (Err fault) stop preferred charge = Err fault
params_with (Ok start) (Err fault) preferred charge = Err fault
params_with (Ok start) (Ok stop) preferred charge = Ok (record { start_us = start; stop_us = stop; preferred = preferred; charge = charge })

-- the parameters of a query in a channel, by its epoch if it has one
abbrev pub catchup_params_of : Option ℤ → CatchupQuery → Result CatchupParams QueryFault
catchup_params_of epoch query = params_with (time_of epoch query.start) (time_of epoch query.stop) query.preferred query.charge

-- the name by which a reply reports the fault of a query
abbrev pub query_fault_name : QueryFault → List ℕ
query_fault_name BadQuery = codes "BadQuery"
query_fault_name BeforeEpoch = codes "BeforeEpoch"

-- ---- the request to a state

-- the request to a state: without `preferred`, the channel's own segment length is preferred
abbrev pub request_for : State → CatchupParams → Request
request_for s params = record {
  start_us = params.start_us;
  stop_us = params.stop_us;
  preferred = unwrap_or params.preferred s.config.preferred;
  rule = rule_of params.charge;
}

-- The properties of a counted reader or writer.
use Rattle.std.specs.Prelude.{ℕ, ◌-◌, ◌^◌}
use Rattle.hls_io.specs.declared.counted.Counted.{Counted}

-- the reader or writer inside
abbrev pub inner_of : {T : Type 0} → Counted T → T
inner_of counted = counted.inner

-- the number of failed calls
abbrev pub failures_of : {T : Type 0} → Counted T → ℕ
failures_of counted = counted.failures

-- the number of calls that it still forwards
abbrev pub calls_left : {T : Type 0} → Counted T → ℕ
calls_left counted = 2 ^ 62 - counted.calls

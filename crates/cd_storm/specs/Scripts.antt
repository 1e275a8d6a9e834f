-- Part of the main theorem.
-- The connections that come to the lanes of a storm.
use Rattle.std.specs.Prelude.{◌≡◌, ℕ, ◌%◌, List, [], ◌∷◌, ◌++◌, length, codes, decimal, map, None}
use Rattle.std.specs.List.{flat_map, range_with_len}
use Rattle.cd_outside.specs.declared.call.Call.{Call}
use Rattle.cd_outside.specs.declared.memory_lane.MemoryLane.{MemoryLane}
use Rattle.cd_storm.specs.declared.limits.TheConstants.{LANES, STEPS, ADMIN_PORT, SERVER_PORT}
use Rattle.cd_storm.specs.Draws.{route_count, step_value}

-- ---- requests

-- a value in decimal, as a JSON text
abbrev pub quoted : ℕ → List ℕ
quoted value = codes "\"" ++ decimal value ++ codes "\""

-- the name of a variable: each step has one of its own
unfoldable pub variable : ℕ → ℕ → List ℕ
variable lane step = codes "v" ++ decimal lane ++ codes "_" ++ decimal step

-- the line that sets a variable of the first route by the admin API
unfoldable pub put_line : List ℕ → List ℕ
put_line name = codes "PUT /config/apps/http/servers/srv0/routes/0/handle/0/" ++ name ++ codes " HTTP/1.1\r\n"

-- the fields of a request to the admin API that has a body of so many bytes
unfoldable pub admin_fields : ℕ → List ℕ
admin_fields length = codes "Host: localhost:2019\r\nContent-Length: " ++ decimal length ++ codes "\r\n\r\n"

-- the variable of a step is set to its value
unfoldable pub put_request : ℕ → ℕ → ℕ → List ℕ
put_request lane step value = put_line (variable lane step) ++ admin_fields (length (quoted value)) ++ quoted value

-- one of the drawn routes is asked for, of so many
unfoldable pub get_request : ℕ → ℕ → List ℕ
get_request routes value = codes "GET /p" ++ decimal (value % routes) ++ codes " HTTP/1.1\r\nHost: s\r\n\r\n"

-- ---- connections

-- each request is a connection of its own, and comes in one piece
abbrev pub connection : List ℕ → ℕ → List ℕ → Call
connection host port request = record { address = record { host = host; port = port }; pieces = request ∷ [] }

-- a change of the configuration and then a request to the server, both of one value
abbrev pub step_calls : ℕ → ℕ → ℕ → ℕ → List Call
step_calls routes lane step value =
    connection (codes "localhost") ADMIN_PORT (put_request lane step value) ∷ connection [] SERVER_PORT (get_request routes value) ∷ []

-- the connections of a step of a lane
abbrev pub lane_step : ℕ → ℕ → ℕ → List Call
lane_step number lane step = step_calls (route_count number) lane step (step_value number lane step)

-- step after step
unfoldable pub lane_script : ℕ → ℕ → List Call
lane_script number lane = flat_map (lane_step number lane) (range_with_len 0 STEPS)

-- the script of each lane
abbrev pub scripts : ℕ → List (List Call)
scripts number = map (lane_script number) (range_with_len 0 LANES)

-- ---- lanes

-- no call was made on the lane yet, and none will be made to fail
pub record IsFresh (lane : MemoryLane) : Type 0 where
  pub idle : lane.current ≡ None
  pub faults : lane.faults ≡ record { failing = []; calls = 0; count = 0 }
  pub past : lane.past ≡ record { accept_faults = 0; last = None; connections = [] }

-- What a compiled configuration does: who answers at an address, a server by its chain, and what is logged of it.
use Rattle.std.specs.Prelude.{◌&&◌, ◌||◌, Bool, false, not, if◌then◌else◌, ℕ, List, [], map, Option, Some, None, is_some}
use Rattle.std.specs.List.{find, flat_map, list_any}
use Rattle.cd_outside.specs.declared.address.Address.{Address}
use Rattle.cd_addr.specs.Addresses.{is_address}
use Rattle.cd_wire.specs.declared.answer.Answer.{Answer}
use Rattle.cd_wire.specs.declared.request.Request.{Request}
use Rattle.cd_fill.specs.Scene.{scene_of}
use Rattle.cd_routes.specs.Serving.{server_answer}
use Rattle.cd_routes.specs.declared.listen.Listen.{Listen}
use Rattle.cd_routes.specs.declared.server.Server.{Server}
use Rattle.cd_chain.specs.Chains.{chain_answer}
use Rattle.cd_module_set.specs.Acts.{Acts}
use Rattle.cd_module_set.specs.declared.target.Line.{Line}
use Rattle.cd_module_set.specs.declared.target.Target.{Target}
use Rattle.cd_module_set.specs.declared.target.Target.TheVariants.{Admin, App, Nobody}
use Rattle.cd_echo.specs.Echo.{echo_answer}
use Rattle.cd_log.specs.Lines.{access_lines}
use Rattle.cd_log.specs.declared.logs.Logs.{Logs}
use Rattle.cd_standard.specs.Acting as acting
use Rattle.cd_standard.specs.Loading as loading
use Rattle.cd_standard.specs.declared.app.App as app
use Rattle.cd_standard.specs.declared.compiled.Compiled.{Compiled}
use Rattle.cd_standard.specs.declared.compiled.CompiledApp.{CompiledApp}
use Rattle.cd_standard.specs.declared.compiled.CompiledApp.TheVariants as kind
use Rattle.cd_standard.specs.declared.compiled.CompiledServer.{CompiledServer}

-- ---- who answers

abbrev pub app_servers : CompiledApp → List CompiledServer
app_servers (kind.Echo echo) = []
app_servers (kind.Http servers) = servers

-- a server has the addresses that it listens on, and standard input and output
abbrev pub has_address : Address → CompiledServer → Bool
has_address at server = is_address at acting.stdio_address || acting.listens_at at server.listen

-- the server at an address: the first one that has it
abbrev pub server_at : Compiled → Address → Option CompiledServer
server_at c at = find (has_address at) (flat_map app_servers c.apps)

abbrev pub echoes_at : Address → CompiledApp → Bool
echoes_at at (kind.Echo echo) = acting.listens_at at echo.listen
echoes_at at (kind.Http servers) = false

-- the app `echo` listens at an address
abbrev pub echo_at : Compiled → Address → Bool
echo_at c at = list_any (echoes_at at) c.apps

-- the admin API listens at an address
abbrev pub admin_at : Compiled → Address → Bool
admin_at c at = not c.admin.disabled && is_address at c.admin.listen

abbrev pub target_at : Compiled → Address → Target
target_at c at = if admin_at c at then Admin else (if is_some (server_at c at) || echo_at c at then App else Nobody)

-- ---- with what

-- the answer of a server's chain, or where none is there, of `echo`
abbrev pub answer_by : Option CompiledServer → Request → Answer
answer_by None request = echo_answer request
answer_by (Some server) request = chain_answer server.chain (scene_of request)

-- ---- what is logged

-- the lines of a server's answer, where the server is logged
abbrev pub server_lines : Logs → CompiledServer → Request → Answer → List Line
server_lines logs server request answer = if server.logs then access_lines logs server.name request answer else []

abbrev pub lines_by : Logs → Option CompiledServer → Request → Answer → List Line
lines_by logs None request answer = []
lines_by logs (Some server) request answer = server_lines logs server request answer

-- nothing is logged of the admin API and of `echo`
abbrev pub lines_of : Logs → Target → Option CompiledServer → Request → Answer → List Line
lines_of logs Admin server request answer = []
lines_of logs App server request answer = lines_by logs server request answer
lines_of logs Nobody server request answer = []

-- ---- the whole

abbrev pub compiled_acts : Compiled → Acts
compiled_acts c = record {
  target = target_at c;
  answer = λ at request. answer_by (server_at c at) request;
  lines = λ at request answer. lines_of c.logs (target_at c at) (server_at c at) request answer;
}

-- ---- what is seen of a server and of an app, compiled or not

-- a server: under which name and at which addresses it answers, with what, and whether that is logged
pub record ServerActs : Type 0 where
  pub name : List ℕ
  pub listen : Listen
  pub answer : Request → Answer
  pub logs : Bool

abbrev pub acts_of_server : Server → ServerActs
acts_of_server s = record { name = s.name; listen = s.listen; answer = λ request. server_answer s request; logs = s.logs }

abbrev pub acts_compiled : CompiledServer → ServerActs
acts_compiled s = record { name = s.name; listen = s.listen; answer = λ request. chain_answer s.chain (scene_of request); logs = s.logs }

-- an app: its servers, and the addresses where it echoes
pub record AppActs : Type 0 where
  pub servers : List ServerActs
  pub echoes : Address → Bool

abbrev pub acts_of_app : app.App → AppActs
acts_of_app a = record { servers = map acts_of_server (loading.app_servers a); echoes = λ at. acting.echoes_at at a }

abbrev pub acts_compiled_app : CompiledApp → AppActs
acts_compiled_app a = record { servers = map acts_compiled (app_servers a); echoes = λ at. echoes_at at a }

-- Part of the main theorem.
-- What a configuration does: who answers at an address, with what, and what is logged of it.
use Rattle.std.specs.Prelude.{◌&&◌, ◌||◌, Bool, false, not, if◌then◌else◌, List, [], codes, Option, Some, None, is_some, Result, Ok, Err}
use Rattle.std.specs.List.{find, list_any}
use Rattle.std.specs.Result.{result_map_both}
use Rattle.cd_outside.specs.declared.address.Address.{Address}
use Rattle.cd_addr.specs.Addresses.{is_address}
use Rattle.cd_tree.specs.declared.tree.Tree.{Tree}
use Rattle.cd_wire.specs.declared.answer.Answer.{Answer}
use Rattle.cd_wire.specs.declared.request.Request.{Request}
use Rattle.cd_module.specs.declared.fault.LoadFault.{LoadFault}
use Rattle.cd_routes.specs.Server.{listened}
use Rattle.cd_routes.specs.Serving.{server_answer}
use Rattle.cd_routes.specs.declared.listen.Listen.{Listen}
use Rattle.cd_routes.specs.declared.server.Server.{Server}
use Rattle.cd_legal.specs.declared.plan.Plan.{Plan}
use Rattle.cd_module_set.specs.Acts.{Acts, nobody}
use Rattle.cd_module_set.specs.declared.target.Line.{Line}
use Rattle.cd_module_set.specs.declared.target.Target.{Target}
use Rattle.cd_module_set.specs.declared.target.Target.TheVariants.{Admin, App, Nobody}
use Rattle.cd_echo.specs.Echo.{echo_answer}
use Rattle.cd_log.specs.Lines.{access_lines}
use Rattle.cd_log.specs.declared.logs.Logs.{Logs}
use Rattle.cd_standard.specs.Loading.{loaded, servers_of}
use Rattle.cd_standard.specs.declared.app.App as app
use Rattle.cd_standard.specs.declared.app.App.TheVariants as kind
use Rattle.cd_standard.specs.declared.configuration.Configuration.{Configuration}
use Rattle.cd_standard.specs.declared.loading.Configured.{Configured}

-- ---- who answers

-- the address of standard input and output
abbrev pub stdio_address : Address
stdio_address = record { host = codes "stdio"; port = 0 }

-- the address is one of those that are listened on
abbrev pub listens_at : Address → Listen → Bool
listens_at at listen = list_any (is_address at) (listened listen)

-- a server has the addresses that it listens on, and standard input and output
abbrev pub has_address : Address → Server → Bool
has_address at server = is_address at stdio_address || listens_at at server.listen

-- the server at an address: the first one by name that has it
abbrev pub server_at : Configuration → Address → Option Server
server_at c at = find (has_address at) (servers_of c)

abbrev pub echoes_at : Address → app.App → Bool
echoes_at at (kind.Echo echo) = listens_at at echo.listen
echoes_at at (kind.Http http) = false

-- the app `echo` listens at an address
abbrev pub echo_at : Configuration → Address → Bool
echo_at c at = list_any (echoes_at at) c.apps

-- the admin API listens at an address
abbrev pub admin_at : Configuration → Address → Bool
admin_at c at = not c.admin.disabled && is_address at c.admin.listen

abbrev pub target_at : Configuration → Address → Target
target_at c at = if admin_at c at then Admin else (if is_some (server_at c at) || echo_at c at then App else Nobody)

-- ---- with what

-- the answer of a server, or where none is there, of `echo`
abbrev pub answer_by : Option Server → Request → Answer
answer_by None request = echo_answer request
answer_by (Some server) request = server_answer server request

-- ---- what is logged

-- the lines of a server's answer, where the server is logged
abbrev pub server_lines : Logs → Server → Request → Answer → List Line
server_lines logs server request answer = if server.logs then access_lines logs server.name request answer else []

abbrev pub lines_by : Logs → Option Server → Request → Answer → List Line
lines_by logs None request answer = []
lines_by logs (Some server) request answer = server_lines logs server request answer

-- nothing is logged of the admin API and of `echo`
abbrev pub lines_of : Logs → Target → Option Server → Request → Answer → List Line
lines_of logs Admin server request answer = []
lines_of logs App server request answer = lines_by logs server request answer
lines_of logs Nobody server request answer = []

-- ---- the whole

abbrev pub acts_of : Configuration → Acts
acts_of c = record {
  target = target_at c;
  answer = λ at request. answer_by (server_at c at) request;
  lines = λ at request answer. lines_of c.logs (target_at c at) (server_at c at) request answer;
}

-- ---- a tree

-- the modules and apps of a tree, or its first fault
abbrev pub plan_of_tree : Tree → Result Plan LoadFault
plan_of_tree t = result_map_both (λ configured. configured.plan) (λ fault. fault) (loaded t)

abbrev pub acts_in : Result Configured LoadFault → Acts
acts_in (Ok configured) = acts_of configured.configuration
acts_in (Err fault) = nobody

-- what a tree does as a configuration; what is none does nothing
abbrev pub acts_of_tree : Tree → Acts
acts_of_tree t = acts_in (loaded t)

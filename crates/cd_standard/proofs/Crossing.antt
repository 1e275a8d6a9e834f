-- A compiled configuration may go to another thread, and threads may share it. Each step here is one former.
use denote.Param.Send.{IsSend, IsSync, sendable}
use denote.Param.SendFields.{declared_send, declared_sync, variants_send, variants_sync}
use Rattle.cd_text.proofs.list.List.TheSendSync as list
use Rattle.cd_text.proofs.text.Text.TheSendSync as text
use Rattle.cd_routes.proofs.listen.Listen.TheSendSync as listen
use Rattle.cd_chain.proofs.Crossing.{chain_send, chain_sync}
use Rattle.cd_admin.proofs.admin.Admin.TheSendSync as admin
use Rattle.cd_log.proofs.logs.Logs.TheSendSync as logs
use Rattle.cd_standard.proofs.echo.Echo.TheSendSync as echo
use Rattle.cd_standard.specs.contracts.compiled.Compiled as Compiled
use Rattle.cd_standard.specs.contracts.compiled.CompiledApp as CompiledApp
use Rattle.cd_standard.specs.contracts.compiled.CompiledServer as CompiledServer

-- ---- it may go to another thread

server_send : IsSend CompiledServer.the_row
server_send = declared_send CompiledServer.the_type (text.the_send, (listen.the_send, (chain_send, (search sendable, tt))))

app_send : IsSend CompiledApp.the_row
app_send = variants_send CompiledApp.enum ((echo.the_send, tt), ((list.the_send CompiledServer.the_row server_send, tt), tt))

pub configuration_send : IsSend Compiled.the_row
configuration_send = declared_send Compiled.the_type (admin.the_send, (list.the_send CompiledApp.the_row app_send, (logs.the_send, tt)))

-- ---- threads may share it

server_sync : IsSync CompiledServer.the_row
server_sync = declared_sync CompiledServer.the_type (text.the_sync, (listen.the_sync, (chain_sync, (search sendable, tt))))

app_sync : IsSync CompiledApp.the_row
app_sync = variants_sync CompiledApp.enum ((echo.the_sync, tt), ((list.the_sync CompiledServer.the_row server_sync, tt), tt))

pub configuration_sync : IsSync Compiled.the_row
configuration_sync = declared_sync Compiled.the_type (admin.the_sync, (list.the_sync CompiledApp.the_row app_sync, (logs.the_sync, tt)))

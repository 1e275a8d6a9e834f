use Rattle.std.proofs.Common.{◌≡◌, List, subst, rules}
use Rattle.std.specs.List.{find}
use Rattle.cd_standard.specs.declared.compiled.CompiledServer.{CompiledServer}
use Rattle.cd_standard.specs.Compiled.{app_servers, has_address}
use Rattle.cd_standard.specs.Responders.{IsNumber}
use Rattle.cd_standard.proofs.acting.server_of_app.Goals as goal

pub returns-in-Http : goal.returns-in-Http
returns-in-Http c =
    let same : c.as_slice.result.now ≡ app_servers c.args.app.now = search rules in
    subst (λ (servers : List CompiledServer). IsNumber servers (find (has_address c.args.at.now) servers) c.first_with.result) same c.first_with.ensures

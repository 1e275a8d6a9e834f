use Rattle.std.proofs.Common.{refl}
use Rattle.cd_standard.proofs.Alike.{do_alike}
use Rattle.cd_standard.proofs.compiled.Compiled.compile.Goals as goal

pub returns : goal.returns
returns c =
    let configuration = c.args.configuration in
    do_alike (record { admin = configuration.admin; apps = c.in_ok-apps.apps; logs = configuration.logs }) configuration refl refl c.in_ok-apps.ensures

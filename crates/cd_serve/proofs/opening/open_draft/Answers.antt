use Rattle.cd_gate.specs.Passes.{view}
use Rattle.cd_desk.specs.Instances.{failed_in}
use Rattle.cd_hall.specs.Drafts.{held}
use Rattle.cd_serve.proofs.Opens.{opens-on}
use Rattle.cd_serve.proofs.opening.open_draft.Goals as goal

pub returns-clause-opens : goal.returns-clause-opens
returns-clause-opens g c =
    opens-on (view c.args.pass.now) (view c.make_all.new.pass) (view c.start_all.new.pass) (held c.args.draft.now) (held c.make_all.new.draft) (held c.start_all.new.draft) (failed_in c.start_all.result) c.in_default.ensures.makes c.start_all.ensures.starts

use Rattle.cd_host.proofs.FirstPass.{root-unused, root-new, rest-unused}
use Rattle.cd_host.proofs.Rows.{first-and-rest}
use Rattle.cd_host.proofs.hosting.take_root.Goals as goal

pub returns-clause-root : goal.returns-clause-root
returns-clause-root g c =
    let is = first-and-rest c.args.passes.now.items c.remove.new.self.items c.remove.result c.requires.row.0.some_pass c.remove.ensures.value c.remove.ensures.items in
    root-unused c.args.hall.now c.args.passes.now.items c.remove.new.self.items c.remove.result is c.requires.row.0 c.requires.row.1 c.requires.passes

pub returns-clause-new : goal.returns-clause-new
returns-clause-new g c =
    let is = first-and-rest c.args.passes.now.items c.remove.new.self.items c.remove.result c.requires.row.0.some_pass c.remove.ensures.value c.remove.ensures.items in
    root-new c.args.hall.now c.args.passes.now.items c.remove.new.self.items c.remove.result is c.requires.row.0 c.requires.row.1

pub returns-clause-passes : goal.returns-clause-passes
returns-clause-passes g c =
    let is = first-and-rest c.args.passes.now.items c.remove.new.self.items c.remove.result c.requires.row.0.some_pass c.remove.ensures.value c.remove.ensures.items in
    rest-unused c.args.hall.now c.args.passes.now.items c.remove.new.self.items c.remove.result is c.requires.row.0 c.requires.row.1 c.requires.passes

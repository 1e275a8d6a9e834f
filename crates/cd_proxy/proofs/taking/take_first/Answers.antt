use Rattle.cd_proxy.proofs.taking.take_first.Goals as goal

pub returns-in-Front : goal.returns-in-Front
returns-in-Front c before s kept = c.take_after.ensures before (c.in-Front.ensures before s kept)

use Rattle.cd_wire.proofs.taking.take_request.Goals as goal

pub returns-in-Whole : goal.returns-in-Whole
returns-in-Whole c before kept = c.take_known.ensures before c.args.bytes.now c.args.ended kept

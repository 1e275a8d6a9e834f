use Rattle.std.proofs.Common.{◌≡◌, ◌∙◌, [], Some, refl, ap, sym, arith}
use Rattle.std.proofs.lemmas.Grind.{common_steps}
use Rattle.cd_outside.proofs.LastOne.{put_nothing}
use Rattle.cd_outside.proofs.memory_lane.MemoryLaneLane.write.Goals as goal

-- nothing of the piece was put
pub returns-then-fails-clause-past : goal.returns-then-fails-clause-past
returns-then-fails-clause-past c = ([], (0, c.requires.some, refl), ap Some (sym (put_nothing c.args.self.now.past)))

pub returns-then-is_err-clause-past : goal.returns-then-is_err-clause-past
returns-then-is_err-clause-past c =
    let same : c.add_put.new.past ≡ c.args.self.now.past = grind (arith, common_steps) in
    ([], (0, c.requires.some, refl), ap Some (same ∙ sym (put_nothing c.args.self.now.past)))

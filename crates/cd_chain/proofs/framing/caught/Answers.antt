use Rattle.std.proofs.Common.{◌∙◌, sym, arith}
use Rattle.cd_chain.proofs.Frames.{steps_caught, steps_popped, unwound_caught, unwound_passed}
use Rattle.cd_chain.proofs.framing.caught.Goals as goal

pub returns-in-Catch-clause-meaning : goal.returns-in-Catch-clause-meaning
returns-in-Catch-clause-meaning c places x status message =
    sym (c.loop-frame.invariant.meaning places x status message)
    ∙ unwound_caught places c.loop-frame.frames c.pop.new.self c.in-Some.frame x status message c.in-Catch.errors c.in-Some.ensures c.in-Catch.is

pub returns-in-Catch-clause-less : goal.returns-in-Catch-clause-less
returns-in-Catch-clause-less c places =
    omega (arith, c.loop-frame.invariant.less places, steps_caught places c.loop-frame.frames c.pop.new.self c.in-Some.frame c.in-Catch.errors c.in-Some.ensures c.in-Catch.is)

pub loop-frame-preserved-in-Changes : goal.loop-frame-preserved-in-Changes
loop-frame-preserved-in-Changes c = record {
  meaning = λ places x status message. unwound_passed places c.loop-frame.frames c.pop.new.self c.in-Some.frame x status message _ c.in-Some.ensures c.in-Changes.is ∙ c.loop-frame.invariant.meaning places x status message;
  less = λ places. omega (arith, c.loop-frame.invariant.less places, steps_popped places c.loop-frame.frames c.pop.new.self c.in-Some.frame c.in-Some.ensures);
}

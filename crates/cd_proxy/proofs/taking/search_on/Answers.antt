use Rattle.std.proofs.Common.{[], take, subst}
use Rattle.cd_proxy.specs.declared.finals.FinalRead.{FinalRead}
use Rattle.cd_proxy.specs.Reading.{IsFinalRead}
use Rattle.cd_proxy.proofs.TakingLemmas.{found_partial, found_hopeless}
use Rattle.cd_proxy.proofs.taking.search_on.Goals as goal

pub returns-in-Ok-Whole : goal.returns-in-Ok-Whole
returns-in-Ok-Whole c before s kept =
    let text = c.args.text.now in
    let r = subst (λ (x : FinalRead). IsFinalRead c.args.most text x) c.in-Ok-Whole.field-0-is c.in-Ok-Whole.ensures in
    c.keep_front.ensures before text c.args.ended r.0 (s.there (take c.in-Ok-Whole.at text) c.in-Ok-Whole.response [] r.1) kept

pub returns-in-Ok-Partial : goal.returns-in-Ok-Partial
returns-in-Ok-Partial c before s kept =
    let text = c.args.text.now in
    let r = subst (λ (x : FinalRead). IsFinalRead c.args.most text x) c.in-Ok-Partial.field-0-is c.in-Ok-Partial.ensures in
    found_partial c.args.head before text c.args.ended c.args.most c.in-Ok-Partial.at c.in-Ok-Partial.left c.cut.result s r c.cut.ensures

pub returns-in-Ok-Hopeless : goal.returns-in-Ok-Hopeless
returns-in-Ok-Hopeless c before s kept =
    let text = c.args.text.now in
    let r = subst (λ (x : FinalRead). IsFinalRead c.args.most text x) c.in-Ok-Hopeless.field-0-is c.in-Ok-Hopeless.ensures in
    found_hopeless c.args.head before text c.args.ended c.args.most c.args.known.now s r kept

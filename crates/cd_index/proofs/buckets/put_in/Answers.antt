use Rattle.std.proofs.Common.{◌<◌, ◌%◌, length, [], sym, subst, ◌∙◌, arith}
use Rattle.std.proofs.lemmas.Nat.{mod_below}
use Rattle.cd_index.specs.Runs.{Has, IsRun}
use Rattle.cd_index.proofs.Marks.{any_default}
use Rattle.cd_index.proofs.Runs.{set_rises, set_keeps}
use Rattle.cd_index.proofs.buckets.put_in.Goals as goal

pub put-requires : goal.put-requires
put-requires c =
    let within : c.args.hash % c.len.result < length c.args.buckets.now.items = omega (arith, mod_below c.args.hash c.len.result (omega (arith, c.requires.some, c.len.ensures)), c.len.ensures) in
    subst (IsRun c.args.n) (sym (c.index_mut.ensures.value ∙ any_default c.args.buckets.now.items (c.args.hash % c.len.result) c.index_mut.result.now [] within)) (c.requires.rise (c.args.hash % c.len.result))

pub returns-in_err-put-clause-rise : goal.returns-in_err-put-clause-rise
returns-in_err-put-clause-rise c b =
    let within : c.args.hash % c.len.result < length c.args.buckets.now.items = omega (arith, mod_below c.args.hash c.len.result (omega (arith, c.requires.some, c.len.ensures)), c.len.ensures) in
    set_rises c.args.buckets.now.items (c.args.hash % c.len.result) b c.args.n c.put.new.run within c.put.ensures.rises c.requires.rise

pub returns-clause-rise : goal.returns-clause-rise
returns-clause-rise c b =
    let within : c.args.hash % c.len.result < length c.args.buckets.now.items = omega (arith, mod_below c.args.hash c.len.result (omega (arith, c.requires.some, c.len.ensures)), c.len.ensures) in
    set_rises c.args.buckets.now.items (c.args.hash % c.len.result) b c.args.n c.put.new.run within c.put.ensures.rises c.requires.rise

pub returns-clause-kept : goal.returns-clause-kept
returns-clause-kept c k b has =
    let within : c.args.hash % c.len.result < length c.args.buckets.now.items = omega (arith, mod_below c.args.hash c.len.result (omega (arith, c.requires.some, c.len.ensures)), c.len.ensures) in
    set_keeps c.args.buckets.now.items (c.args.hash % c.len.result) b k c.put.new.run within
    (λ before. c.in_ok-put.ensures.kept k (subst (Has k) (sym (c.index_mut.ensures.value ∙ any_default c.args.buckets.now.items (c.args.hash % c.len.result) c.index_mut.result.now [] within)) before)) has

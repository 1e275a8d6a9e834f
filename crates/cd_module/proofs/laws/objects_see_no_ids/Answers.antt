use Rattle.cd_module.proofs.Bare.{object_of-bare, object_with_nulls-bare}
use Rattle.cd_module.proofs.laws.objects_see_no_ids.Goals as goal

pub returns-clause-settings : goal.returns-clause-settings
returns-clause-settings g c = λ sees. (object_of-bare g.T.Named.named sees).same c.args.tree.now c.args.at.now

pub returns-clause-with_nulls : goal.returns-clause-with_nulls
returns-clause-with_nulls g c = λ sees. (object_with_nulls-bare g.T.Named.named sees).same c.args.tree.now c.args.at.now

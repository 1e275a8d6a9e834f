use Rattle.std.proofs.Common.{sym}
use Rattle.cd_tree.proofs.Found.{found_sound}
use Rattle.cd_tree.proofs.fields.Fields.get.Goals as goal

pub returns-clause-sound : goal.returns-clause-sound
returns-clause-sound c = found_sound c.args.name.now c.args.self.now.members.now _ (sym c.member_named.ensures)

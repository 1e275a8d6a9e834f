use Rattle.std.proofs.Common.{◌≡◌, [], rules}
use Rattle.cd_handlers.proofs.NoChange.{nothing_changes}
use Rattle.cd_handlers.proofs.headers.changes_nothing.Goals as goal

pub returns : goal.returns
returns c = λ is side fields.
    let no_add : c.args.values.now.add ≡ [] = search rules in
    let no_set : c.args.values.now.set ≡ [] = search rules in
    let no_delete : c.args.delete.now ≡ [] = search rules in
    nothing_changes side c.args.values.now c.args.delete.now fields no_add no_set no_delete

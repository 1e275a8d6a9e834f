use Rattle.std.proofs.Common.{◌≡◌, ℕ, List, ◌++◌, OnOk, subst}
use Rattle.cd_wire.proofs.UsualLemmas.{ok_line}
use Rattle.cd_wire.proofs.rendering.put_ok.Goals as goal

pub returns : goal.returns
returns c =
    subst (λ (line : List ℕ). OnOk c.put.result (c.put.new.out.items ≡ c.args.out.now.items ++ line)) ok_line c.put.ensures

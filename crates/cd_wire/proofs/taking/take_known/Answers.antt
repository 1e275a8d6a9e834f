use Rattle.std.proofs.Common.{◌≡◌, List, ℕ, [], subst, sym, ◌∙◌, refl, arith}
use Rattle.cd_wire.specs.declared.taking.Known.{Known}
use Rattle.cd_wire.specs.Taking.{IsKept}
use Rattle.cd_wire.proofs.RequestLaws.{BeginsRequest-append}
use Rattle.cd_wire.proofs.taking.take_known.Goals as goal

pub returns : goal.returns
returns c before left ended kept =
    let k = subst (λ (k : Known). IsKept before left k) (sym c.in-Whole.ensures.value) kept in (
      omega arith,
      BeginsRequest-append before c.in-Whole.request [] left k,
      subst (λ (k : Known). IsKept [] left k) (sym c.replace.ensures.after) (refl, c.no_search.ensures left),
    )

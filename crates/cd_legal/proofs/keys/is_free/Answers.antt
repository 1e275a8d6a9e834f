use Rattle.std.proofs.Common.{◌≡◌, Bool, true, false, ◌||◌, ◌∙◌, ap, sym, not}
use Rattle.cd_outside.specs.Keys.{keys_in}
use Rattle.cd_outside.proofs.KeyLemmas.{has_key-append}
use Rattle.cd_legal.proofs.keys.is_free.Goals as goal
use Rattle.cd_legal.proofs.keys.is_free.Goals.{then-is_held, else-is_held}

held : (a b r w : Bool) → w ≡ (a || b) → a ≡ true → r ≡ true → not r ≡ not w
held true b r w e a h = ap not (h ∙ sym e)
held false b r w e a h = cc

free : (a b r w : Bool) → w ≡ (a || b) → a ≡ false → r ≡ b → not r ≡ not w
free true b r w e a h = cc
free false b r w e a h = ap not (h ∙ sym e)

pub returns : goal.returns
returns c =
    let both = has_key-append c.args.key.now (keys_in c.args.pairs.now) c.args.taken.now in
    elim c.if-is_held.branch [
      | then-is_held w ↦ held _ _ _ _ both (sym c.is_held.ensures ∙ w.if-is_held.true) (w.result-is ∙ w.if-is_held.true)
      | else-is_held w ↦ free _ _ _ _ both (sym c.is_held.ensures ∙ w.if-is_held.false) (w.result-is ∙ w.is_among.ensures)
    ]

-- What one call of the hall has signed.
use Rattle.std.proofs.Common.{◌≡◌, ℕ, List, ◌++◌, ap, sym, ◌∙◌}
use Rattle.std.proofs.lemmas.List.{append_cancel_right}
use Rattle.cd_legal.specs.declared.entry.Entry.{Entry}
use Rattle.cd_legal.specs.declared.entry.Signed.{Signed}
use Rattle.cd_gate.specs.declared.view.View.{View}
use Rattle.cd_gate.specs.Growing.{all_signed}
use Rattle.cd_gate.proofs.Grown.{grown}
use Rattle.cd_hall.specs.Spread.{Spread}
use Rattle.cd_hall.specs.Turned.{Turned}
use Rattle.cd_hall.proofs.Spreading.{spread_alone}
use Rattle.cd_host.specs.OwnPass.{HasSigned}
use Rattle.cd_host.specs.Parts.{IsAlone}
use Rattle.cd_host.proofs.Going.{seen-alone}

module _ {T : Type 0} where
  -- what one call made
  pub signs-turned : (v w : View T) (found : List Signed) (made : List Entry) → Turned v w found made → HasSigned v w made
  signs-turned v w found made t = grown v w made t.grows

  -- where nobody else has signed anything, it found what the pass had seen
  pub found-alone : (v w : View T) (found : List Signed) (made : List Entry) → Turned v w found made → v.number ≡ 0 → IsAlone w.seen → found ≡ v.seen
  found-alone v w found made t number alone =
      append_cancel_right found v.seen (all_signed 0 made)
      (ap (λ (n : ℕ). found ++ all_signed n made) (sym number) ∙ sym t.is ∙ seen-alone v w made (signs-turned v w found made t) number alone)

  -- the same of a call of several entries
  pub signs-spread : (v w : View T) (found : List Signed) (made : List Entry) → Spread v w found made → HasSigned v w made
  signs-spread v w found made s = (s.added, s.places, s.are)

  pub found-spread : (v w : View T) (found : List Signed) (made : List Entry) → Spread v w found made → v.number ≡ 0 → IsAlone w.seen → found ≡ v.seen
  found-spread v w found made s number alone =
      spread_alone v w found made s (seen-alone v w made (signs-spread v w found made s) number alone ∙ ap (λ (n : ℕ). v.seen ++ all_signed n made) (sym number))

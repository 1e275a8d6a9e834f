-- In views without the requests the notes of a turn follow one another.
use Rattle.std.proofs.Common.{◌≡◌, Bool, true, cond, List, [], ◌∷◌, ◌++◌, refl, ap, ◌∙◌}
use Rattle.cd_legal.specs.declared.entry.Entry.{Entry}
use Rattle.cd_legal.specs.declared.entry.Entry.TheVariants.{Begin, Finish}
use Rattle.cd_legal.specs.declared.entry.Signed.{Signed}
use Rattle.cd_legal.specs.Entry.{signed}
use Rattle.cd_legal.specs.Laws.{core_at, is_core}
use Rattle.cd_legal.proofs.Cores.{core-append}
use Rattle.cd_gate.specs.declared.view.View.{View}
use Rattle.cd_gate.specs.Counts.{is_noted}
use Rattle.cd_gate.specs.Steps.{noted}
use Rattle.cd_gate.specs.Cores.{core_view, noted_next, noted_all, Notes}
use Rattle.cd_gate.proofs.Numbers.{off}
use Rattle.std.specs.List.{list_all}
use Rattle.cd_legal.proofs.Histories.{first, second}

pub noted_core : (e : Entry) → is_noted e ≡ true → is_core e ≡ true
noted_core (Begin k n) is = absurd (off is)
noted_core (Finish k) is = absurd (off is)
noted_core e is = refl

pub one_more : (log : List Signed) (x : Signed) → is_core x.entry ≡ true → core_at (log ++ x ∷ []) ≡ core_at log ++ x ∷ []
one_more log x is = core-append log (x ∷ []) ∙ ap (λ (b : Bool). core_at log ++ cond b (x ∷ []) []) is

module _ {T : Type 0} where
  -- one note
  pub core-noted : (v : View T) (log : List Signed) (e : Entry) → is_noted e ≡ true → core_at log ≡ core_at v.seen → core_view (noted v log e) ≡ noted_next (core_view v) e
  core-noted v log e is same =
      let seen : core_at (log ++ signed v.number e ∷ []) ≡ core_at v.seen ++ signed v.number e ∷ [] = one_more log (signed v.number e) (noted_core e is) ∙ ap (λ (l : List Signed). l ++ signed v.number e ∷ []) same in
      let mine : core_at (v.mine ++ signed v.number e ∷ []) ≡ core_at v.mine ++ signed v.number e ∷ [] = one_more v.mine (signed v.number e) (noted_core e is) in
      λ i. record (noted_next (core_view v) e) { seen = seen i; mine = mine i }

  -- all notes of a turn
  pub core-notes : (v w : View T) (es : List Entry) → list_all is_noted es ≡ true → Notes v es w → core_view w ≡ noted_all (core_view v) es
  core-notes v w [] all Notes.Nothing = refl
  core-notes v w (e ∷ es) all (Notes.More log same rest) =
      core-notes (noted v log e) w es (second (is_noted e) _ all) rest ∙ ap (λ (z : View T). noted_all z es) (core-noted v log e (first (is_noted e) _ all) same)

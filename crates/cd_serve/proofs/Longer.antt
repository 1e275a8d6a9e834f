-- What is told stays so while the history grows.
use Rattle.std.proofs.Common.{◌≡◌, ℕ, Bool, List, [], ◌∷◌, ◌++◌, ap, sym, subst, ◌∙◌}
use Rattle.std.proofs.lemmas.List.{append-nil, append_cancel_left}
use mathlib.Core.List.{IsPrefix}
use Rattle.cd_outside.specs.declared.address.Address.{Address}
use Rattle.cd_outside.specs.declared.past.Connection.{Connection}
use Rattle.cd_legal.specs.declared.entry.Signed.{Signed}
use Rattle.cd_legal.specs.Entry.{mine}
use Rattle.cd_legal.specs.Placed.{Placed, placed}
use Rattle.cd_legal.specs.Fresh.{Fresh}
use Rattle.cd_legal.proofs.Placed.{placed-stays}
use Rattle.cd_legal.proofs.Logs.{mine-append, prefix_more}
use Rattle.cd_serve.specs.Meanings.{Meaning}
use Rattle.cd_serve.specs.Replies.{Reply}
use Rattle.cd_serve.specs.Connections.{Interruption, Way, Ending, IsWorn, EndsBy, Serves, ServesEach}
use Rattle.cd_serve.specs.Lanes.{IsTold, Told}

worn-longer : (k : ℕ) (history more : List Signed) (own : List Placed) → IsWorn k history own → IsWorn k (history ++ more) own
worn-longer k history more own w = record { place = w.place; after = w.after; within = prefix_more w.place history more w.within; full = w.full }

break-longer : (m : Meaning) (k : ℕ) (history more : List Signed) (own : List Placed) (at : Address) (ended : Bool) (replies : List Reply) (rest : List ℕ) (again : List (List Placed)) (fixed : List ℕ) (why : Interruption)
    → EndsBy m k history own at ended replies rest again fixed (Way.interrupted why) → EndsBy m k (history ++ more) own at ended replies rest again fixed (Way.interrupted why)
break-longer m k history more own at ended replies rest again fixed Interruption.answering e = e
break-longer m k history more own at ended replies rest again fixed Interruption.lacking e = e
break-longer m k history more own at ended replies rest again fixed Interruption.logging e = e
break-longer m k history more own at ended replies rest again fixed Interruption.reading e = e
break-longer m k history more own at ended replies rest again fixed Interruption.beginning e = e
break-longer m k history more own at ended replies rest again fixed Interruption.wearing e = (e.0, e.1, worn-longer k history more own e.2, e.3)
break-longer m k history more own at ended replies rest again fixed (Interruption.refusing fault) e = e

ends-longer : (m : Meaning) (k : ℕ) (history more : List Signed) (own : List Placed) (at : Address) (ended : Bool) (replies : List Reply) (rest : List ℕ) (again : List (List Placed)) (fixed : List ℕ) (way : Way)
    → EndsBy m k history own at ended replies rest again fixed way → EndsBy m k (history ++ more) own at ended replies rest again fixed way
ends-longer m k history more own at ended replies rest again fixed Way.clean e = e
ends-longer m k history more own at ended replies rest again fixed Way.truncated e = e
ends-longer m k history more own at ended replies rest again fixed Way.closed e = e
ends-longer m k history more own at ended replies rest again fixed Way.dropped e = e
ends-longer m k history more own at ended replies rest again fixed Way.halted e = e
ends-longer m k history more own at ended replies rest again fixed Way.worn e = (e.0, e.1, worn-longer k history more own e.2, e.3)
ends-longer m k history more own at ended replies rest again fixed (Way.refused fault) e = e
ends-longer m k history more own at ended replies rest again fixed (Way.interrupted why) e = break-longer m k history more own at ended replies rest again fixed why e

pub serves-longer : (m : Meaning) (k : ℕ) (history more : List Signed) (before : List Placed) (c : Connection) (e : Ending) → Serves m k history before c e → Serves m k (history ++ more) before c e
serves-longer m k history more before c e s = record {
  replies = s.replies;
  rest = s.rest;
  again = s.again;
  fixed = s.fixed;
  splits = s.splits;
  each = s.each;
  own = s.own;
  sent = s.sent;
  kept = s.kept;
  ends = ends-longer m k history more (before ++ e.own) c.address c.ended s.replies s.rest s.again s.fixed e.way s.ends;
  answered = s.answered;
}

each-longer : (m : Meaning) (k : ℕ) (history more : List Signed) (before : List Placed) (cs : List Connection) (es : List Ending) → ServesEach m k history before cs es → ServesEach m k (history ++ more) before cs es
each-longer m k history more before [] [] all = tt
each-longer m k history more before (c ∷ cs) (e ∷ es) all = (serves-longer m k history more before c e all.0, each-longer m k history more (before ++ e.own) cs es all.1)
each-longer m k history more before [] (e ∷ es) all = all
each-longer m k history more before (c ∷ cs) [] all = all

pub told-longer : (m : Meaning) (k : ℕ) (history more : List Signed) (before own : List Placed) (cs : List Connection) (es : List Ending) → IsTold m k history before own cs es → IsTold m k (history ++ more) before own cs es
told-longer m k history more before own cs es t = record { whole = t.whole; each = each-longer m k history more before cs es t.each }

-- nothing follows that the pass has signed, where it has signed no more
pub none-after : (k : ℕ) (history more : List Signed) → mine k (history ++ more) ≡ mine k history → mine k more ≡ []
none-after k history more is = append_cancel_left (mine k history) (mine k more) [] (sym (mine-append k history more) ∙ is ∙ sym (append-nil (mine k history)))

-- the entries of a pass that makes no more stay where they stand
pub placed-stays-in : (k : ℕ) (history longer : List Signed) → IsPrefix history longer → mine k longer ≡ mine k history → placed k longer ≡ placed k history
placed-stays-in k history longer p is =
    let none : mine k p.0 ≡ [] = none-after k history p.0 (ap (mine k) p.1 ∙ is) in
    ap (placed k) (sym p.1) ∙ placed-stays k history p.0 none

pub told-beside : (m : Meaning) (k : ℕ) (history longer : List Signed) (cs : List Connection) (es : List Ending) → IsPrefix history longer → mine k longer ≡ mine k history
    → Told m k history (placed k history) cs es → Told m k longer (placed k longer) cs es
told-beside m k history longer cs es p is t =
    let over : Told m k longer (placed k history) cs es = subst (λ (h : List Signed). Told m k h (placed k history) cs es) p.1 (told-longer m k history p.0 [] (placed k history) cs es t) in
    subst (λ (own : List Placed). Told m k longer own cs es) (sym (placed-stays-in k history longer p is)) over

pub fresh-beside : (k : ℕ) (history longer : List Signed) → IsPrefix history longer → mine k longer ≡ mine k history → Fresh (placed k history) → Fresh (placed k longer)
fresh-beside k history longer p is f = subst Fresh (sym (placed-stays-in k history longer p is)) f

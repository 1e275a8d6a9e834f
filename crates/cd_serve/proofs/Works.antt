-- What calls of a pass have made, one after another.
use Rattle.std.proofs.Common.{◌≡◌, List, [], ◌∷◌, ◌++◌, refl, sym, ap, ◌∙◌}
use Rattle.std.proofs.lemmas.List.{append-nil, map-append}
use Rattle.cd_legal.specs.declared.entry.Entry.{Entry}
use Rattle.cd_legal.specs.declared.entry.Signed.{Signed}
use Rattle.cd_legal.specs.Owing.{Owes}
use Rattle.cd_legal.specs.Placed.{Placed, placed, placed_entries}
use Rattle.cd_legal.specs.Signing.{IsHistory}
use Rattle.cd_gate.specs.declared.view.View.{View}
use Rattle.cd_gate.specs.Growing.{owes_after}
use Rattle.cd_gate.specs.Words.{owed}
use Rattle.cd_gate.proofs.Grown.{places_both}
use Rattle.cd_hall.specs.Spread.{Spread}
use Rattle.cd_hall.specs.Turned.{Turned, placed_behind}
use Rattle.cd_hall.proofs.Placing.{turned_places, behind_entries}
use Rattle.cd_hall.proofs.Spreading.{spread_split}
use Rattle.cd_serve.specs.Attempts.{Works, HasMade}

module _ {T : Type 0} where
  -- nothing, where what was seen is a history
  pub works-none : (v : View T) → IsHistory v.seen → Works v v []
  works-none v history = record {
    places = record { number = refl; seen = ([], append-nil v.seen); history = history; placed_is = sym (append-nil (placed v.number v.seen)); last = (v.seen, refl); adds = sym (append-nil v.mine); same = refl };
    ticket = refl;
    duties = refl;
  }

  -- one call, whose entries leave the ticket
  pub works-turned : (v w : View T) (found : List Signed) (es : List Entry) → Turned v w found es → (owes_after (owed v) es).ticket ≡ v.ticket → w.duties ≡ v.duties → Works v w (placed_behind v.number found es)
  works-turned v w found es t stays duties = record {
    places = turned_places v w found es t;
    ticket = ap (λ (o : Owes). o.ticket) t.grows.owes ∙ stays;
    duties = duties;
  }

  -- one call of several entries, which leave the ticket
  pub works-spread : (v w : View T) (found : List Signed) (es : List Entry) (s : Spread v w found es) → (owes_after (owed v) es).ticket ≡ v.ticket → w.duties ≡ v.duties → Works v w s.added
  works-spread v w found es s stays duties = record {
    places = s.places;
    ticket = ap (λ (o : Owes). o.ticket) s.grows.owes ∙ stays;
    duties = duties;
  }

  pub works-both : (v w x : View T) (one two : List Placed) → Works v w one → Works w x two → Works v x (one ++ two)
  works-both v w x one two a b = record {
    places = places_both v w x one two a.places b.places;
    ticket = b.ticket ∙ a.ticket;
    duties = b.duties ∙ a.duties;
  }

  pub made-none : (v : View T) → IsHistory v.seen → HasMade v v []
  made-none v history = record { work = []; works = works-none v history; are = refl }

  pub made-turned : (v w : View T) (found : List Signed) (es : List Entry) → Turned v w found es → (owes_after (owed v) es).ticket ≡ v.ticket → w.duties ≡ v.duties → HasMade v w es
  made-turned v w found es t stays duties = record {
    work = placed_behind v.number found es;
    works = works-turned v w found es t stays duties;
    are = behind_entries v.number found es;
  }

  pub made-spread : (v w : View T) (found : List Signed) (es : List Entry) → Spread v w found es → (owes_after (owed v) es).ticket ≡ v.ticket → w.duties ≡ v.duties → HasMade v w es
  made-spread v w found es s stays duties = record { work = s.added; works = works-spread v w found es s stays duties; are = s.are }

  pub made-both : (v w x : View T) (one two : List Entry) → HasMade v w one → HasMade w x two → HasMade v x (one ++ two)
  made-both v w x one two a b = record {
    work = a.work ++ b.work;
    works = works-both v w x a.work b.work a.works b.works;
    are = map-append (λ (p : Placed). p.entry) a.work b.work ∙ (ap (λ (l : List Entry). l ++ placed_entries b.work) a.are ∙ ap (λ (l : List Entry). one ++ l) b.are);
  }

-- ---- the first entry of a call, right after what it found

placed-is : (p : Placed) (before : List Signed) (e : Entry) → p.before ≡ before → p.entry ≡ e → p ≡ record { before = before; entry = e }
placed-is p before e one two = λ i. record { before = one i; entry = two i }

pub record Headed (added : List Placed) (found : List Signed) (e : Entry) (es : List Entry) : Type 0 where
  pub rest : List Placed
  pub whole : added ≡ record { before = found; entry = e } ∷ rest
  pub are : placed_entries rest ≡ es

pub headed : {T : Type 0} (v w : View T) (found : List Signed) (e : Entry) (es : List Entry) (s : Spread v w found (e ∷ es)) → Headed s.added found e es
headed v w found e es s =
    let t = spread_split v w found e es s in
    record { rest = t.rest; whole = t.whole ∙ ap (λ (p : Placed). p ∷ t.rest) (placed-is t.head found e t.before t.entry); are = t.are }

-- What a pass knows but for requests. In it the notes of a turn follow one another, whatever requests others begin and end in between.
use Rattle.std.specs.Prelude.{◌≡◌, List, [], ◌∷◌, ◌++◌}
use Rattle.cd_legal.specs.declared.entry.Entry.{Entry}
use Rattle.cd_legal.specs.declared.entry.Signed.{Signed}
use Rattle.cd_legal.specs.Entry.{signed}
use Rattle.cd_legal.specs.Laws.{core_at}
use Rattle.cd_legal.specs.Owing.{owes_by}
use Rattle.cd_gate.specs.declared.view.View.{View}
use Rattle.cd_gate.specs.Duties.{duties_after}
use Rattle.cd_gate.specs.Words.{owed}
use Rattle.cd_gate.specs.Steps.{noted}

module _ {T : Type 0} where
  -- the view without Begin and Finish
  abbrev pub core_view : View T → View T
  core_view v = record v { seen = core_at v.seen; mine = core_at v.mine }

  -- with a noted entry of its own more, right after what it has seen
  abbrev pub noted_next : View T → Entry → View T
  noted_next v e = record v {
    seen = v.seen ++ signed v.number e ∷ [];
    mine = v.mine ++ signed v.number e ∷ [];
    ticket = (owes_by (owed v) e).ticket;
    draft = (owes_by (owed v) e).draft;
    duties = duties_after v.duties e;
  }

  -- with these of its own more
  abbrev pub noted_all : View T → List Entry → View T
  noted_all v [] = v
  noted_all v (e ∷ es) = noted_all (noted_next v e) es

  -- a pass in its turn, which had the view v, has noted these entries, and has the view w
  pub data Notes : View T → List Entry → View T → Type 0 where
    Nothing : {v : View T} → Notes v [] v
    More : {v w : View T} {e : Entry} {es : List Entry} (log : List Signed) → core_at log ≡ core_at v.seen → Notes (noted v log e) es w → Notes v (e ∷ es) w

-- A lane goes on by one connection, or ends.
use Rattle.std.proofs.Common.{◌≡◌, ◌≤◌, ◌∙◌, ◌++◌, ◌+◌, ℕ, min, cond, List, [], Option, Some, None, option_map, refl, ap, sym, subst, arith}
use mathlib.Core.List.{IsPrefix}
use Rattle.cd_outside.specs.declared.accepted.Accepted.TheVariants as accepted
use Rattle.cd_outside.specs.declared.address.Address.{Address}
use Rattle.cd_outside.specs.declared.past.Past.{Past}
use Rattle.cd_outside.specs.Counts.{count_end, raised, Rose}
use Rattle.cd_outside.specs.Past.{with_connection, after_accept}
use Rattle.cd_outside.specs.Since.{SinceAccept, CameWith}
use Rattle.cd_outside.specs.Telling.{TellsOn}
use Rattle.cd_legal.specs.declared.entry.Signed.{Signed}
use Rattle.cd_legal.specs.Placed.{Placed, placed, through}
use Rattle.cd_gate.specs.declared.view.View.{View}
use Rattle.cd_session.specs.declared.counting.Counts.{Counts}
use Rattle.cd_session.specs.declared.connection_end.ConnectionEnd.{ConnectionEnd}
use Rattle.cd_session.specs.declared.lane_end.LaneEnd.{LaneEnd}
use Rattle.cd_session.specs.declared.lane_end.LaneHow.TheVariants as how
use Rattle.cd_serve.specs.Meanings.{Meaning}
use Rattle.cd_serve.specs.Lanes.{IsServed}
use Rattle.cd_serve.specs.Guarding.{ConnectionKeepsUp, EndKeepsUp}
use Rattle.cd_serve.specs.Serving.{ConnectionServed, after_all, HasRisen, cut_by}
use Rattle.cd_serve.specs.Stepping.{HasPlaced, IsEnded, IsLaneSoFar, LaneGoesOn, LaneServed, LastCame}
use Rattle.cd_legal.specs.Fresh.{Fresh}
use Rattle.cd_legal.specs.Signing.{IsHistory}
use Rattle.cd_legal.specs.Legal.{IsLegal}
use Rattle.cd_legal.proofs.Fresh.{legal-fresh}
use Rattle.cd_serve.proofs.Going.{past_is, lane-starts, lane-goes, lane-ends, lane-fails}
use Rattle.cd_serve.proofs.Stepping.{placed-none, placed-both}
use Rattle.cd_serve.proofs.Guarded.{connection-keeps-up, since-ended, since-failed}

tells-new : (m : Meaning) (k : ℕ) (seen : List Signed) (faults : ℕ) (since : Option (List ℕ)) (told : Option Past) → TellsOn (IsLaneSoFar m k seen [] faults faults 0 0 0 since since) told told
tells-new m k seen faults since None = tt
tells-new m k seen faults since (Some p) = (lane-starts m k seen faults since p, refl)

-- a connection leaves how many accepts failed
accepts-stay : (at : Address) (p q now : Past) (f : _) → Some now ≡ option_map (with_connection f) (Some (after_accept (accepted.Connection at) q)) → q.accept_faults ≡ p.accept_faults → now.accept_faults ≡ p.accept_faults
accepts-stay at p q now f is same = ap (λ (z : Past). z.accept_faults) (past_is at q now f is) ∙ same

tells-more : (m : Meaning) (k : ℕ) (at : Address) (seen longer : List Signed) (own more : List Placed) (first faults accepted_at served_at answered cut halts : ℕ) (e : ConnectionEnd) (since told later : Option (List ℕ)) (old then new : Option Past)
    → IsPrefix seen longer → IsPrefix (through k own) seen → faults ≤ accepted_at → HasRisen e.cause accepted_at served_at → TellsOn (IsLaneSoFar m k seen own first faults answered cut halts since told) old then
    → ConnectionServed m k at seen longer more e (option_map (after_accept (accepted.Connection at)) then) new
    → SinceAccept told (accepted.Connection at) later → ((serial : ℕ) → CameWith later serial → ConnectionKeepsUp serial k more e (option_map (after_accept (accepted.Connection at)) then) new)
    → TellsOn (IsLaneSoFar m k longer (own ++ more) first served_at (min (answered + e.answered) count_end) (cut_by e.cause cut) (halts + cond e.halted 1 0) since later) old new
tells-more m k at seen longer own more first faults accepted_at served_at answered cut halts e since t later (Some p) (Some q) (Some now) front last le rose told one came up =
    (lane-goes m k at seen longer own more p q now first faults accepted_at served_at answered cut halts e since t later told.0 front last le rose one came up, accepts-stay at p q now (after_all one.taken one.ended one.sent) one.past told.1)
tells-more m k at seen longer own more first faults accepted_at served_at answered cut halts e since t later (Some p) (Some q) None front last le rose told one came up = absurd (let h : None ≡ Some (with_connection (after_all one.taken one.ended one.sent) (after_accept (accepted.Connection at) q)) = one.past in cc)
tells-more m k at seen longer own more first faults accepted_at served_at answered cut halts e since t later None None (Some now) front last le rose told one came up = absurd (let h : Some now ≡ None = one.past in cc)
tells-more m k at seen longer own more first faults accepted_at served_at answered cut halts e since t later None None None front last le rose told one came up = tt
tells-more m k at seen longer own more first faults accepted_at served_at answered cut halts e since t later (Some p) None new front last le rose told one came up = absurd told
tells-more m k at seen longer own more first faults accepted_at served_at answered cut halts e since t later None (Some q) new front last le rose told one came up = absurd told

tells-ended : (m : Meaning) (k : ℕ) (seen : List Signed) (own : List Placed) (first faults later answered cut : ℕ) (end : LaneEnd) (s t : Option (List ℕ)) (old then new : Option Past) → end ≡ record { how = how.Ended; answered = answered; cut = cut } → faults ≤ later
    → TellsOn (IsLaneSoFar m k seen own first faults answered cut 0 s t) old then → new ≡ option_map (after_accept accepted.Ended) then → TellsOn (IsServed m k seen own first later end s t) old new
tells-ended m k seen own first faults later answered cut end s t (Some p) (Some q) new is le told now =
    subst (λ (z : Option Past). TellsOn (IsServed m k seen own first later end s t) (Some p) z) (sym now)
    (subst (λ (e : LaneEnd). IsServed m k seen own first later e s t p (after_accept accepted.Ended q)) (sym is) (record { so_far = lane-ends m k seen own p q first faults later answered cut 0 s t told.0 le; over = (refl, told.1) }))
tells-ended m k seen own first faults later answered cut end s t None None new is le told now = subst (λ (z : Option Past). TellsOn (IsServed m k seen own first later end s t) None z) (sym now) tt
tells-ended m k seen own first faults later answered cut end s t (Some p) None new is le told now = absurd told
tells-ended m k seen own first faults later answered cut end s t None (Some q) new is le told now = absurd told

rose-since : (first faults later : ℕ) → first ≤ faults → Rose faults later → Rose first later
rose-since first faults later le rose = omega (arith, le, rose)

tells-failed : (m : Meaning) (k : ℕ) (seen : List Signed) (own : List Placed) (first faults later answered cut : ℕ) (end : LaneEnd) (s t : Option (List ℕ)) (old then new : Option Past) → end ≡ record { how = how.AcceptFault; answered = answered; cut = cut } → first ≤ faults → faults ≤ later → Rose faults later
    → TellsOn (IsLaneSoFar m k seen own first faults answered cut 0 s t) old then → new ≡ option_map (after_accept accepted.Failed) then → TellsOn (IsServed m k seen own first later end s t) old new
tells-failed m k seen own first faults later answered cut end s t (Some p) (Some q) new is since le rose told now =
    subst (λ (z : Option Past). TellsOn (IsServed m k seen own first later end s t) (Some p) z) (sym now)
    (subst (λ (e : LaneEnd). IsServed m k seen own first later e s t p (after_accept accepted.Failed q)) (sym is)
    (record { so_far = lane-fails m k seen own p q first faults later answered cut 0 s t told.0 le rose; over = (refl, ap raised told.1, rose-since first faults later since rose) }))
tells-failed m k seen own first faults later answered cut end s t None None new is since le rose told now = subst (λ (z : Option Past). TellsOn (IsServed m k seen own first later end s t) None z) (sym now) tt
tells-failed m k seen own first faults later answered cut end s t (Some p) None new is since le rose told now = absurd told
tells-failed m k seen own first faults later answered cut end s t None (Some q) new is since le rose told now = absurd told

tells-halted : (m : Meaning) (k : ℕ) (seen : List Signed) (own : List Placed) (first faults answered cut : ℕ) (end : LaneEnd) (at : Address) (s t : Option (List ℕ)) (old new : Option Past) → end ≡ record { how = how.Halted; answered = answered; cut = cut } → LastCame at new
    → TellsOn (IsLaneSoFar m k seen own first faults answered cut 1 s t) old new → TellsOn (IsServed m k seen own first faults end s t) old new
tells-halted m k seen own first faults answered cut end at s t (Some p) (Some q) is last told = subst (λ (e : LaneEnd). IsServed m k seen own first faults e s t p q) (sym is) (record { so_far = told.0; over = ((at, last), told.1) })
tells-halted m k seen own first faults answered cut end at s t None None is last told = tt
tells-halted m k seen own first faults answered cut end at s t (Some p) None is last told = absurd told
tells-halted m k seen own first faults answered cut end at s t None (Some q) is last told = absurd told

last-came : (at : Address) (f : _) (then new : Option Past) → new ≡ option_map (with_connection f) (option_map (after_accept (accepted.Connection at)) then) → LastCame at new
last-came at f None new is = subst (LastCame at) (sym is) tt
last-came at f (Some q) new is = subst (LastCame at) (sym is) refl

module _ {T : Type 0} (m : Meaning) where
  lane-new : (faults : ℕ) (v : View T) (since : Option (List ℕ)) (told : Option Past) → LaneGoesOn m faults faults 0 0 0 v v since since told told
  lane-new faults v since told = record { own = []; made = placed-none v; told = tells-new m v.number v.seen faults since told }

  pub lane-started : (faults : ℕ) (counts : Counts) → counts ≡ record { answered = 0; cut = 0 } → (v : View T) (since : Option (List ℕ)) (told : Option Past) → LaneGoesOn m faults faults counts.answered counts.cut 0 v v since since told told
  lane-started faults counts is v since told = subst (λ (k : Counts). LaneGoesOn m faults faults k.answered k.cut 0 v v since since told told) (sym is) (lane-new faults v since told)

  pub lane-more : (at : Address) (first faults accepted_at served_at answered cut halts : ℕ) (e : ConnectionEnd) (v w x : View T) (since told later : Option (List ℕ)) (old then before new : Option Past)
      → LaneGoesOn m first faults answered cut halts v w since told old then → faults ≤ accepted_at → before ≡ option_map (after_accept (accepted.Connection at)) then → HasRisen e.cause accepted_at served_at → IsEnded m at e w x before new
      → IsLegal x.seen → SinceAccept told (accepted.Connection at) later → ((serial : ℕ) → CameWith later serial → EndKeepsUp serial e w x before new)
      → LaneGoesOn m first served_at (min (answered + e.answered) count_end) (cut_by e.cause cut) (halts + cond e.halted 1 0) v x since later old new
  lane-more at first faults accepted_at served_at answered cut halts e v w x since told later old then before new g le came rose o legal with_it up =
      let here : ConnectionServed m v.number at w.seen x.seen o.own e (option_map (after_accept (accepted.Connection at)) then) new =
      subst (λ (j : ℕ). ConnectionServed m j at w.seen x.seen o.own e (option_map (after_accept (accepted.Connection at)) then) new) g.made.number
      (subst (λ (z : Option Past). ConnectionServed m w.number at w.seen x.seen o.own e z new) came o.served) in
      let all : (serial : ℕ) → CameWith later serial → ConnectionKeepsUp serial v.number o.own e (option_map (after_accept (accepted.Connection at)) then) new =
      λ serial is.
      subst (λ (j : ℕ). ConnectionKeepsUp serial j o.own e (option_map (after_accept (accepted.Connection at)) then) new) g.made.number
      (subst (λ (z : Option Past). ConnectionKeepsUp serial w.number o.own e z new) came (connection-keeps-up serial e w x o.own before new legal o.made (up serial is))) in
      record {
        own = g.own ++ o.own;
        made = placed-both v w x g.own o.own g.made o.made;
        told = tells-more m v.number at w.seen x.seen g.own o.own first faults accepted_at served_at answered cut halts e since told later old then new o.made.seen g.made.last le rose g.told here with_it all;
      }

  pub connection-last : (at : Address) (e : ConnectionEnd) (w x : View T) (then before new : Option Past) → before ≡ option_map (after_accept (accepted.Connection at)) then → IsEnded m at e w x before new → LastCame at new
  connection-last at e w x then before new came o =
      last-came at (after_all o.served.taken o.served.ended o.served.sent) then new (o.served.past ∙ ap (λ (z : Option Past). option_map (with_connection (after_all o.served.taken o.served.ended o.served.sent)) z) came)

  pub lane-ended : (first faults later answered cut : ℕ) (end : LaneEnd) (v w : View T) (s t u : Option (List ℕ)) (old then new : Option Past) → end ≡ record { how = how.Ended; answered = answered; cut = cut } → LaneGoesOn m first faults answered cut 0 v w s t old then → faults ≤ later
      → new ≡ option_map (after_accept accepted.Ended) then → SinceAccept t accepted.Ended u → LaneServed m first later end v w s u old new
  lane-ended first faults later answered cut end v w s t u old then new is g le now since =
      subst (λ (z : Option (List ℕ)). LaneServed m first later end v w s z old new) (sym (since-ended t u since)) (record { own = g.own; made = g.made; told = tells-ended m v.number w.seen g.own first faults later answered cut end s t old then new is le g.told now })

  pub lane-failed : (first faults later answered cut : ℕ) (end : LaneEnd) (v w : View T) (s t u : Option (List ℕ)) (old then new : Option Past) → end ≡ record { how = how.AcceptFault; answered = answered; cut = cut } → LaneGoesOn m first faults answered cut 0 v w s t old then → first ≤ faults → faults ≤ later → Rose faults later
      → new ≡ option_map (after_accept accepted.Failed) then → SinceAccept t accepted.Failed u → LaneServed m first later end v w s u old new
  lane-failed first faults later answered cut end v w s t u old then new is g since le rose now same =
      subst (λ (z : Option (List ℕ)). LaneServed m first later end v w s z old new) (sym (since-failed t u same)) (record { own = g.own; made = g.made; told = tells-failed m v.number w.seen g.own first faults later answered cut end s t old then new is since le rose g.told now })

  pub lane-halted : (first faults answered cut : ℕ) (end : LaneEnd) (at : Address) (v w : View T) (s t : Option (List ℕ)) (old new : Option Past) → end ≡ record { how = how.Halted; answered = answered; cut = cut } → LastCame at new → LaneGoesOn m first faults answered cut 1 v w s t old new → LaneServed m first faults end v w s t old new
  lane-halted first faults answered cut end at v w s t old new is last g = record { own = g.own; made = g.made; told = tells-halted m v.number w.seen g.own first faults answered cut end at s t old new is last g.told }

  -- no request began under an older configuration than its pass had seen
  pub placed-fresh : (v w : View T) (own : List Placed) → HasPlaced v w own → IsHistory v.seen → Fresh (placed w.number w.seen)
  placed-fresh v w own made history = legal-fresh w.seen w.number (made.history history).is_legal

-- A lane goes on: it begins, one more connection is served, and its last accept says that no more comes or fails.
use Rattle.std.proofs.Common.{◌≡◌, ◌≤◌, ◌<◌, ◌∙◌, ◌++◌, ◌+◌, ◌-◌, ℕ, min, Bool, cond, List, [], ◌∷◌, Option, Some, refl, ap, sym, subst, arith}
use Rattle.std.specs.Prelude.{sum_by, count_by}
use Rattle.std.proofs.lemmas.List.{append-nil}
use Rattle.std.proofs.lemmas.List.Sums.{sum_by-append}
use mathlib.Core.List.{IsPrefix}
use Rattle.cd_outside.specs.declared.accepted.Accepted.TheVariants as accepted
use Rattle.cd_outside.specs.declared.address.Address.{Address}
use Rattle.cd_outside.specs.declared.past.Connection.{Connection}
use Rattle.cd_outside.specs.declared.past.Past.{Past}
use Rattle.cd_outside.specs.Counts.{count_end, Rose}
use Rattle.cd_outside.specs.Past.{with_connection, after_accept, fresh}
use Rattle.cd_outside.specs.Since.{SinceAccept, CameWith}
use Rattle.cd_legal.specs.declared.entry.Signed.{Signed}
use Rattle.cd_legal.specs.Placed.{Placed, through}
use Rattle.cd_session.proofs.Causes.{covers-more, faults-more, cut-more, caused-whole, caused-lacking, caused-failed, covers-same}
pub use Rattle.cd_session.proofs.Changes.{past_is}
use Rattle.cd_session.proofs.Changes.{connections_more}
use Rattle.cd_session.specs.declared.connection_end.ConnectionEnd.{ConnectionEnd}
use Rattle.cd_serve.specs.Meanings.{Meaning}
use Rattle.cd_serve.specs.Connections.{Way, Ending}
use Rattle.cd_serve.specs.Lanes.{Told, is_interrupted, is_faulted, finds_halt, interrupted_in, faulted_in, halted_in, answered_in, LaneSoFar}
use Rattle.cd_serve.specs.Guarding.{ConnectionKeepsUp}
use Rattle.cd_serve.specs.Serving.{ConnectionServed, after_all, HasRisen, cut_by}
use Rattle.cd_serve.proofs.Guarded.{keeps-up, adds-none, adds-more}
use Rattle.cd_serve.proofs.Longer.{told-longer}
use Rattle.cd_serve.proofs.Together.{told-together}

-- what is told in a history is told in each one that begins with it
told-within : (m : Meaning) (k : ℕ) (history longer : List Signed) (own : List Placed) (cs : List Connection) (es : List Ending) → IsPrefix history longer → Told m k history own cs es → Told m k longer own cs es
told-within m k history longer own cs es p t = subst (λ (h : List Signed). Told m k h own cs es) p.1 (told-longer m k history p.0 [] own cs es t)

answered-more : (es : List Ending) (e : Ending) → answered_in (es ++ e ∷ []) ≡ answered_in es + e.answered
answered-more es e =
    let f = λ (x : Ending). x.answered in
    let one : sum_by f (e ∷ []) ≡ f e = omega arith in
    sum_by-append f es (e ∷ []) ∙ ap (λ (n : ℕ). sum_by f es + n) one

-- a count over endings, with one ending more
count-more : (f : Way → Bool) (es : List Ending) (e : Ending) → count_by (λ (x : Ending). f x.way) (es ++ e ∷ []) ≡ count_by (λ (x : Ending). f x.way) es + cond (f e.way) 1 0
count-more f es e =
    let g = λ (x : Ending). cond {A = ℕ} (f x.way) 1 0 in
    let one : sum_by g (e ∷ []) ≡ g e = omega arith in
    sum_by-append g es (e ∷ []) ∙ ap (λ (n : ℕ). sum_by g es + n) one

pub lane-starts : (m : Meaning) (k : ℕ) (history : List Signed) (f : ℕ) (since : Option (List ℕ)) (p : Past) → LaneSoFar m k history [] f f 0 0 0 since since p p
lane-starts m k history f since p = record {
  connections = [];
  endings = [];
  added = sym (append-nil p.connections);
  told = record { whole = refl; each = tt };
  answers = refl;
  covered = λ a b. omega arith;
  faulted = λ a b. omega arith;
  cut_interrupted = omega arith;
  halts_are = refl;
  since = adds-none k since;
}

pub lane-goes : (m : Meaning) (k : ℕ) (at : Address) (seen longer : List Signed) (own more : List Placed) (p q now : Past) (f0 f1 f2 f3 answered cut halts : ℕ) (end : ConnectionEnd) (since told later : Option (List ℕ))
    → LaneSoFar m k seen own f0 f1 answered cut halts since told p q → IsPrefix seen longer → IsPrefix (through k own) seen → f1 ≤ f2 → HasRisen end.cause f2 f3
    → ConnectionServed m k at seen longer more end (Some (after_accept (accepted.Connection at) q)) (Some now)
    → SinceAccept told (accepted.Connection at) later → ((serial : ℕ) → CameWith later serial → ConnectionKeepsUp serial k more end (Some (after_accept (accepted.Connection at) q)) (Some now))
    → LaneSoFar m k longer (own ++ more) f0 f3 (min (answered + end.answered) count_end) (cut_by end.cause cut) (halts + cond end.halted 1 0) since later p now
lane-goes m k at seen longer own more p q now f0 f1 f2 f3 answered cut halts end since told later so_far front last le rose one came up =
    let f = after_all one.taken one.ended one.sent in
    let way = one.ending.way in
    let is : now ≡ with_connection f (after_accept (accepted.Connection at) q) = past_is at q now f one.past in
    let faults : now.accept_faults ≡ q.accept_faults = ap (λ (z : Past). z.accept_faults) is in
    let early : interrupted_in (so_far.endings ++ one.ending ∷ []) ≡ interrupted_in so_far.endings + cond (is_interrupted way) 1 0 = count-more is_interrupted so_far.endings one.ending in
    let faulted : faulted_in (so_far.endings ++ one.ending ∷ []) ≡ faulted_in so_far.endings + cond (is_faulted way) 1 0 = count-more is_faulted so_far.endings one.ending in
    let halted : halted_in (so_far.endings ++ one.ending ∷ []) ≡ halted_in so_far.endings + cond end.halted 1 0 = count-more finds_halt so_far.endings one.ending ∙ ap (λ (b : Bool). halted_in so_far.endings + cond b 1 0) one.halted_is in
    record {
      connections = so_far.connections ++ f (fresh at) ∷ [];
      endings = so_far.endings ++ one.ending ∷ [];
      added = connections_more at p q now so_far.connections f so_far.added is;
      told = told-together m k longer [] own more so_far.connections (f (fresh at) ∷ []) so_far.endings (one.ending ∷ []) (told-within m k seen longer own so_far.connections so_far.endings front so_far.told)
          (record { whole = sym one.own_is ∙ sym (append-nil one.ending.own); each = (one.serves own last, tt) });
      answers = omega (arith, so_far.answers, one.answers, answered-more so_far.endings one.ending);
      covered = covers-same _ ((interrupted_in so_far.endings + (q.accept_faults - p.accept_faults)) + cond (is_interrupted way) 1 0) f0 f3 (cut_by end.cause cut) (omega (arith, early, faults))
          (covers-more end.cause (is_interrupted way) _ f0 f1 f2 f3 cut (caused-whole end.cause way one.caused) so_far.covered le rose);
      faulted = covers-same _ ((faulted_in so_far.endings + (q.accept_faults - p.accept_faults)) + cond (is_faulted way) 1 0) f0 f3 0 (omega (arith, faulted, faults))
          (faults-more end.cause (is_faulted way) _ f0 f1 f2 f3 (caused-failed end.cause way one.caused) so_far.faulted le rose);
      cut_interrupted = omega (arith, early, cut-more end.cause (is_interrupted way) cut (interrupted_in so_far.endings) (caused-lacking end.cause way one.caused) so_far.cut_interrupted);
      halts_are = ap (λ (n : ℕ). n + cond end.halted 1 0) so_far.halts_are ∙ sym halted;
      since = adds-more k at so_far.connections so_far.endings (f (fresh at)) one.ending since told later so_far.since came (λ serial with_it. keeps-up m k serial at seen longer more end q now one (up serial with_it));
    }

pub lane-ends : (m : Meaning) (k : ℕ) (history : List Signed) (own : List Placed) (p q : Past) (f0 f1 f2 answered cut halts : ℕ) (since told : Option (List ℕ)) → LaneSoFar m k history own f0 f1 answered cut halts since told p q → f1 ≤ f2 → LaneSoFar m k history own f0 f2 answered cut halts since told p (after_accept accepted.Ended q)
lane-ends m k history own p q f0 f1 f2 answered cut halts since told so_far le = record {
  connections = so_far.connections;
  endings = so_far.endings;
  added = so_far.added;
  told = so_far.told;
  answers = so_far.answers;
  covered = λ a b. let h : f1 < count_end = omega (arith, le) in omega (arith, so_far.covered h b, le);
  faulted = λ a b. let h : f1 < count_end = omega (arith, le) in omega (arith, so_far.faulted h b, le);
  cut_interrupted = so_far.cut_interrupted;
  halts_are = so_far.halts_are;
  since = so_far.since;
}

pub lane-fails : (m : Meaning) (k : ℕ) (history : List Signed) (own : List Placed) (p q : Past) (f0 f1 f2 answered cut halts : ℕ) (since told : Option (List ℕ)) → LaneSoFar m k history own f0 f1 answered cut halts since told p q → f1 ≤ f2 → Rose f1 f2 → LaneSoFar m k history own f0 f2 answered cut halts since told p (after_accept accepted.Failed q)
lane-fails m k history own p q f0 f1 f2 answered cut halts since told so_far le rose = record {
  connections = so_far.connections;
  endings = so_far.endings;
  added = so_far.added;
  told = so_far.told;
  answers = so_far.answers;
  covered = λ a b. let h : f1 < count_end = omega (arith, le) in omega (arith, so_far.covered h b, le, rose);
  faulted = λ a b. let h : f1 < count_end = omega (arith, le) in omega (arith, so_far.faulted h b, le, rose);
  cut_interrupted = so_far.cut_interrupted;
  halts_are = so_far.halts_are;
  since = so_far.since;
}

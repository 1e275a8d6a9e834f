-- What a lane and its peers tell of a connection, one call after another.
use Rattle.std.proofs.Common.{◌≡◌, ◌≤◌, ◌<◌, ◌∙◌, ◌++◌, ◌+◌, ◌||◌, ℕ, Bool, true, false, cond, List, [], ◌∷◌, Option, Some, None, option_map, refl, ap, sym, arith}
use Rattle.std.specs.Prelude.{flat_map, sum_by, count_by}
use Rattle.std.proofs.Math.Bool.{or-false, or-true}
use Rattle.std.proofs.lemmas.List.{append_assoc, append-nil}
use Rattle.std.proofs.lemmas.List.Sums.{sum_by-append}
use Rattle.std.proofs.lemmas.Grind.{flat_map-append}
use Rattle.cd_outside.specs.declared.past.Connection.{Connection}
use Rattle.cd_outside.specs.declared.past.Past.{Past}
use Rattle.cd_outside.specs.Counts.{count_end, Rose, Covers}
use Rattle.cd_outside.specs.Past.{with_connection, after_put}
use Rattle.cd_session.specs.Reading.{with_taken, with_end}
use Rattle.cd_session.proofs.Causes.{covers-same}
use Rattle.cd_session.proofs.Changes.{changes, no-change}
use Rattle.cd_peers.specs.declared.dialled.Dialled.{Dialled}
use Rattle.cd_proxy.specs.declared.exchanges.Outcome.{Outcome}
use Rattle.cd_proxy.specs.declared.exchanges.Outcome.TheVariants as outcome
use Rattle.cd_proxy.specs.Exchanges.{with_one}
use Rattle.cd_proxy.specs.Replies.{Reply}
use Rattle.cd_gateway.specs.Connections.{exchanges_of, failed_of, has_failed}
use Rattle.cd_gateway.specs.Stepping.{Moment, HasExchanged, after_all}

-- ---- a connection

unchanged : (c : Connection) → after_all [] false [] c ≡ c
unchanged c =
    ap (λ (p : List ℕ). record c { taken = c.taken ++ []; ended = c.ended || false; put = p }) (append-nil c.put)
    ∙ ap (λ (t : List ℕ). record c { taken = t; ended = c.ended || false }) (append-nil c.taken)
    ∙ ap (λ (b : Bool). record c { ended = b }) (or-false c.ended)

pub nothing-yet : (told : Option Past) → told ≡ option_map (with_connection (after_all [] false [])) told
nothing-yet told = no-change (after_all [] false []) told unchanged

pub taking : (taken piece : List ℕ) (ended : Bool) (put : List ℕ) (first old now : Option Past) → old ≡ option_map (with_connection (after_all taken ended put)) first → now ≡ option_map (with_connection (with_taken piece)) old
    → now ≡ option_map (with_connection (after_all (taken ++ piece) ended put)) first
taking taken piece ended put first old now one two =
    changes (after_all taken ended put) (with_taken piece) (after_all (taken ++ piece) ended put) first old now one two
    (λ c. ap (λ (t : List ℕ). record (after_all taken ended put c) { taken = t }) (append_assoc c.taken taken piece))

pub ending : (taken put : List ℕ) (first old now : Option Past) → old ≡ option_map (with_connection (after_all taken false put)) first → now ≡ option_map (with_connection with_end) old → now ≡ option_map (with_connection (after_all taken true put)) first
ending taken put first old now one two =
    changes (after_all taken false put) with_end (after_all taken true put) first old now one two
    (λ c. ap (λ (b : Bool). record (after_all taken true put c) { ended = b }) (sym (or-true c.ended)))

pub putting : (taken : List ℕ) (ended : Bool) (put part : List ℕ) (first old now : Option Past) → old ≡ option_map (with_connection (after_all taken ended put)) first → now ≡ option_map (after_put part) old
    → now ≡ option_map (with_connection (after_all taken ended (put ++ part))) first
putting taken ended put part first old now one two =
    changes (after_all taken ended put) (λ c. record c { put = c.put ++ part }) (after_all taken ended (put ++ part)) first old now one two
    (λ c. ap (λ (p : List ℕ). record (after_all taken ended put c) { put = p }) (append_assoc c.put put part))

-- ---- lists of requests, and counts over them

pub list-more : {A : Type 0} (f : Reply → List A) (replies : List Reply) (r : Reply) → flat_map f (replies ++ r ∷ []) ≡ flat_map f replies ++ f r
list-more f replies r = flat_map-append f replies (r ∷ []) ∙ ap (λ xs. flat_map f replies ++ xs) (append-nil (f r))

-- a count over a list with one more
pub count-more : {A : Type 0} (f : A → Bool) (xs : List A) (x : A) → count_by f (xs ++ x ∷ []) ≡ count_by f xs + cond (f x) 1 0
count-more {A} f xs x =
    let g = λ (y : A). cond {A = ℕ} (f y) 1 0 in
    let one : sum_by g (x ∷ []) ≡ g x = omega arith in
    sum_by-append g xs (x ∷ []) ∙ ap (λ (n : ℕ). sum_by g xs + n) one

pub sum-more : {A : Type 0} (f : A → ℕ) (xs : List A) (x : A) → sum_by f (xs ++ x ∷ []) ≡ sum_by f xs + f x
sum-more f xs x =
    let one : sum_by f (x ∷ []) ≡ f x = omega arith in
    sum_by-append f xs (x ∷ []) ∙ ap (λ (n : ℕ). sum_by f xs + n) one

-- ---- exchanges

one-more : (e : Option Dialled) (past xs : List Dialled) → with_one e (past ++ xs) ≡ past ++ (xs ++ with_one e [])
one-more None past xs = ap (λ ys. past ++ ys) (sym (append-nil xs))
one-more (Some d) past xs = append_assoc past xs (d ∷ [])

told-more : (e : Option Dialled) (xs : List Dialled) (first old now : Option (List Dialled)) → old ≡ option_map (λ past. past ++ xs) first → now ≡ option_map (with_one e) old → now ≡ option_map (λ past. past ++ (xs ++ with_one e [])) first
told-more e xs None old now one two = two ∙ ap (option_map (with_one e)) one
told-more e xs (Some past) old now one two = two ∙ (ap (option_map (with_one e)) one ∙ ap Some (one-more e past xs))

pub told-none : (told : Option (List Dialled)) → told ≡ option_map (λ past. past ++ []) told
told-none None = refl
told-none (Some past) = ap Some (sym (append-nil past))

-- some exchanges, and then others
pub told-both : (xs ys : List Dialled) (first old now : Option (List Dialled)) → old ≡ option_map (λ past. past ++ xs) first → now ≡ option_map (λ past. past ++ ys) old → now ≡ option_map (λ past. past ++ (xs ++ ys)) first
told-both xs ys None old now one two = two ∙ ap (option_map (λ past. past ++ ys)) one
told-both xs ys (Some past) old now one two = two ∙ (ap (option_map (λ past. past ++ ys)) one ∙ ap Some (append_assoc past xs ys))

-- a fault of the peers more
failures-more : (failed : Bool) (n f0 f1 f2 : ℕ) → (failed ≡ true → Rose f1 f2) → Covers n f0 f1 0 → f1 ≤ f2 → Covers (n + cond failed 1 0) f0 f2 0
failures-more true n f0 f1 f2 rose covers le = λ a b. let r : Rose f1 f2 = rose refl in let h : f1 < count_end = omega (arith, le) in omega (arith, covers h b, le, r)
failures-more false n f0 f1 f2 rose covers le = λ a b. let h : f1 < count_end = omega (arith, le) in omega (arith, covers h b, le)

-- faults of the peers, and then others
pub failures-both : (m n f0 f1 f2 : ℕ) → Covers m f0 f1 0 → Covers n f1 f2 0 → f1 ≤ f2 → Covers (m + n) f0 f2 0
failures-both m n f0 f1 f2 one two le = λ a b. let h : f1 < count_end = omega (arith, le) in omega (arith, one h b, two a b)

failed-is : (came : Outcome) → has_failed came ≡ true → came ≡ outcome.Failed
failed-is (outcome.Passed answer) is = absurd (let h : false ≡ true = is in cc)
failed-is outcome.Bad is = absurd (let h : false ≡ true = is in cc)
failed-is outcome.Failed is = refl
failed-is outcome.NoMemory is = absurd (let h : false ≡ true = is in cc)

pub exchanged-none : (now : Moment) → HasExchanged [] now now
exchanged-none now = record { told = told-none now.peers; later = omega arith; failures = λ a b. omega arith }

pub exchanged-more : (replies : List Reply) (r : Reply) (first old now : Moment) → HasExchanged replies first old → now.peers ≡ option_map (with_one r.exchange) old.peers → old.failed ≤ now.failed → (r.came ≡ outcome.Failed → Rose old.failed now.failed)
    → HasExchanged (replies ++ r ∷ []) first now
exchanged-more replies r first old now s told later failed = record {
  told =
      told-more r.exchange (exchanges_of replies) first.peers old.peers now.peers s.told told
      ∙ ap (λ (xs : List Dialled). option_map (λ (past : List Dialled). past ++ xs) first.peers) (sym (list-more (λ (x : Reply). with_one x.exchange []) replies r));
  later = omega (arith, s.later, later);
  failures =
      covers-same (failed_of (replies ++ r ∷ [])) (failed_of replies + cond (has_failed r.came) 1 0) first.failed now.failed 0 (count-more (λ (x : Reply). has_failed x.came) replies r)
      (failures-more (has_failed r.came) (failed_of replies) first.failed old.failed now.failed (λ is. failed (failed-is r.came is)) s.failures later);
}

-- the peers tell nothing more where only the lane was called
pub lane-only : (replies : List Reply) (first now : Moment) (lane : Option Past) → HasExchanged replies first now → HasExchanged replies first (record now { lane = lane })
lane-only replies first now lane s = record { told = s.told; later = s.later; failures = s.failures }

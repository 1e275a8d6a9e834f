-- Histories of signed entries: their prefixes and what follows these, one entry more, and the entries of one pass.
use Rattle.std.proofs.Common.{◌≡◌, ◌≢◌, ℕ, ◌==◌, Bool, true, false, cond, List, [], ◌∷◌, ◌++◌, refl, sym, ap, subst, ◌∙◌, append_assoc, eq-eqb, ne_eqb}
use Rattle.std.proofs.lemmas.List.{append-nil}
use mathlib.Core.List.{IsPrefix}
use Rattle.cd_legal.specs.declared.entry.Entry.{Entry}
use Rattle.cd_legal.specs.declared.entry.Signed.{Signed}
use Rattle.cd_legal.specs.declared.state.State.{State}
use Rattle.cd_legal.specs.Entry.{signed, entries, mine}
use Rattle.cd_legal.specs.State.{opening_state}
use Rattle.cd_legal.specs.Legal.{allowed, after, legal, legal_from, state_from, state_of, state_at, IsLegal}
use Rattle.cd_legal.specs.Calls.{entry_calls, fixture_calls}
use Rattle.cd_legal.specs.Owing.{owes_of}
use Rattle.cd_legal.specs.Signing.{may_sign, are_signed_from, are_signed, IsHistory}
use Rattle.cd_legal.proofs.Histories.{both, first, second, legal_from-snoc, legal_from-front, legal_from-back, state_from-append, entries-snoc, calls_from-snoc}

-- ---- prefixes

pub prefix_more : {A : Type 0} (xs ys zs : List A) → IsPrefix xs ys → IsPrefix xs (ys ++ zs)
prefix_more xs ys zs p = (p.0 ++ zs, sym (append_assoc xs p.0 zs) ∙ ap (λ w. w ++ zs) p.1)

pub prefix_trans : {A : Type 0} (xs ys zs : List A) → IsPrefix xs ys → IsPrefix ys zs → IsPrefix xs zs
prefix_trans xs ys zs p q = (p.0 ++ q.0, sym (append_assoc xs p.0 q.0) ∙ (ap (λ w. w ++ q.0) p.1 ∙ q.1))

-- lists that end with an entry are the same in both parts
pub snoc_same : {A : Type 0} (xs ys : List A) (x y : A) → xs ++ x ∷ [] ≡ ys ++ y ∷ [] → (xs ≡ ys) × (x ≡ y)
snoc_same [] [] x y is = (refl, cc)
snoc_same [] (b ∷ []) x y is = absurd (let h : x ∷ [] ≡ b ∷ (y ∷ []) = is in cc)
snoc_same [] (b ∷ c ∷ bs) x y is = absurd (let h : x ∷ [] ≡ b ∷ (c ∷ (bs ++ y ∷ [])) = is in cc)
snoc_same (a ∷ []) [] x y is = absurd (let h : a ∷ (x ∷ []) ≡ y ∷ [] = is in cc)
snoc_same (a ∷ c ∷ cs) [] x y is = absurd (let h : a ∷ (c ∷ (cs ++ x ∷ [])) ≡ y ∷ [] = is in cc)
snoc_same (a ∷ az) (b ∷ bs) x y is =
    let rest : az ++ x ∷ [] ≡ bs ++ y ∷ [] = cc in
    let head : a ≡ b = cc in
    let same = snoc_same az bs x y rest in
    (ap (λ (z : List _). a ∷ z) same.0 ∙ ap (λ z. z ∷ bs) head, same.1)

-- ---- their states

pub entries-append : (xs ys : List Signed) → entries (xs ++ ys) ≡ entries xs ++ entries ys
entries-append [] ys = refl
entries-append (x ∷ xs) ys = ap (λ (z : List Entry). x.entry ∷ z) (entries-append xs ys)

-- a history leaves what its last entries leave of the state after those before
pub state-append : (xs ys : List Signed) → state_at (xs ++ ys) ≡ state_from (state_at xs) (entries ys)
state-append xs ys = ap state_of (entries-append xs ys) ∙ state_from-append opening_state (entries xs) (entries ys)

-- what one entry more leaves
pub state-snoc : (log : List Signed) (x : Signed) → state_at (log ++ x ∷ []) ≡ after (state_at log) x.entry
state-snoc log x = state-append log (x ∷ [])

-- what the fixtures are asked for by one entry more
pub calls-snoc : (log : List Signed) (x : Signed) → fixture_calls (entries (log ++ x ∷ [])) ≡ fixture_calls (entries log) ++ entry_calls (state_at log) x.entry
calls-snoc log x = ap fixture_calls (entries-snoc log x) ∙ calls_from-snoc opening_state (entries log) x.entry

-- one entry more, which is allowed
pub legal-snoc : (log : List Signed) (x : Signed) → IsLegal log → allowed (state_at log) x.entry ≡ true → IsLegal (log ++ x ∷ [])
legal-snoc log x is may = ap legal (entries-snoc log x) ∙ legal_from-snoc opening_state (entries log) x.entry is may

-- the last entries of a legal history are legal in the state that those before leave
pub legal-back : (front back : List Signed) → IsLegal (front ++ back) → legal_from (state_at front) (entries back) ≡ true
legal-back front back is = legal_from-back opening_state (entries front) (entries back) (ap legal (sym (entries-append front back)) ∙ is)

-- each prefix of it is legal
pub legal-front : (front log : List Signed) → IsPrefix front log → IsLegal log → IsLegal front
legal-front front log p is =
    legal_from-front opening_state (entries front) (entries p.0) (ap legal (sym (entries-append front p.0)) ∙ (ap (λ (z : List Signed). legal (entries z)) p.1 ∙ is))

-- ---- the entries of one pass

pick : (b : Bool) (x : Signed) (xs ys : List Signed) → cond b (x ∷ (xs ++ ys)) (xs ++ ys) ≡ cond b (x ∷ xs) xs ++ ys
pick true x xs ys = refl
pick false x xs ys = refl

pub mine-append : (k : ℕ) (xs ys : List Signed) → mine k (xs ++ ys) ≡ mine k xs ++ mine k ys
mine-append k [] ys = refl
mine-append k (x ∷ xs) ys = ap (λ (z : List Signed). cond (x.by == k) (x ∷ z) z) (mine-append k xs ys) ∙ pick (x.by == k) x (mine k xs) (mine k ys)

-- its own entry more
pub mine-own : (log : List Signed) (k : ℕ) (e : Entry) → mine k (log ++ signed k e ∷ []) ≡ mine k log ++ signed k e ∷ []
mine-own log k e = mine-append k log (signed k e ∷ []) ∙ ap (λ (b : Bool). mine k log ++ cond b (signed k e ∷ []) []) (eq-eqb k k refl)

-- another's entry more
pub mine-other : (log : List Signed) (j k : ℕ) (e : Entry) → j ≢ k → mine k (log ++ signed j e ∷ []) ≡ mine k log
mine-other log j k e ne =
    mine-append k log (signed j e ∷ []) ∙ (ap (λ (b : Bool). mine k log ++ cond b (signed j e ∷ []) []) (ne_eqb j k ne) ∙ append-nil (mine k log))

-- ---- their signatures

-- of one entry more
signed_from-snoc : (before log : List Signed) (x : Signed) → are_signed_from before log ≡ true → may_sign x.by (owes_of x.by (before ++ log)) x.entry ≡ true → are_signed_from before (log ++ x ∷ []) ≡ true
signed_from-snoc before [] x all may = both (may_sign x.by (owes_of x.by before) x.entry) true (subst (λ (b : List Signed). may_sign x.by (owes_of x.by b) x.entry ≡ true) (append-nil before) may) refl
signed_from-snoc before (y ∷ ys) x all may =
    both (may_sign y.by (owes_of y.by before) y.entry) _ (first (may_sign y.by (owes_of y.by before) y.entry) _ all)
    (signed_from-snoc (before ++ y ∷ []) ys x (second (may_sign y.by (owes_of y.by before) y.entry) _ all)
    (subst (λ (b : List Signed). may_sign x.by (owes_of x.by b) x.entry ≡ true) (sym (append_assoc before (y ∷ []) ys)) may))

-- so is a prefix
signed_from-front : (before xs ys : List Signed) → are_signed_from before (xs ++ ys) ≡ true → are_signed_from before xs ≡ true
signed_from-front before [] ys all = refl
signed_from-front before (x ∷ xs) ys all =
    both (may_sign x.by (owes_of x.by before) x.entry) _ (first (may_sign x.by (owes_of x.by before) x.entry) _ all)
    (signed_from-front (before ++ x ∷ []) xs ys (second (may_sign x.by (owes_of x.by before) x.entry) _ all))

-- one entry more, which is allowed, by a pass that may sign it
pub history-snoc : (log : List Signed) (x : Signed) → IsHistory log → allowed (state_at log) x.entry ≡ true → may_sign x.by (owes_of x.by log) x.entry ≡ true → IsHistory (log ++ x ∷ [])
history-snoc log x is may signs = record {
  is_legal = legal-snoc log x is.is_legal may;
  is_signed = signed_from-snoc [] log x is.is_signed signs;
}

-- each prefix of a history is one
pub history-front : (front log : List Signed) → IsPrefix front log → IsHistory log → IsHistory front
history-front front log p is = record {
  is_legal = legal-front front log p is.is_legal;
  is_signed = signed_from-front [] front p.0 (ap are_signed p.1 ∙ is.is_signed);
}

-- what holds of the empty history, and each entry that is allowed and rightly signed keeps, holds of each history
history_from : (P : List Signed → Type 0) → ((before : List Signed) (x : Signed) → allowed (state_at before) x.entry ≡ true → may_sign x.by (owes_of x.by before) x.entry ≡ true → P before → P (before ++ x ∷ []))
    → (before log : List Signed) → legal_from (state_at before) (entries log) ≡ true → are_signed_from before log ≡ true → P before → P (before ++ log)
history_from P keeps before [] legal all p = subst P (sym (append-nil before)) p
history_from P keeps before (x ∷ xs) legal all p =
    subst P (append_assoc before (x ∷ []) xs)
    (history_from P keeps (before ++ x ∷ []) xs
    (ap (λ (s : State). legal_from s (entries xs)) (state-snoc before x) ∙ second (allowed (state_at before) x.entry) _ legal)
    (second (may_sign x.by (owes_of x.by before) x.entry) _ all)
    (keeps before x (first (allowed (state_at before) x.entry) _ legal) (first (may_sign x.by (owes_of x.by before) x.entry) _ all) p))

pub history-along : (P : List Signed → Type 0) → ((before : List Signed) (x : Signed) → allowed (state_at before) x.entry ≡ true → may_sign x.by (owes_of x.by before) x.entry ≡ true → P before → P (before ++ x ∷ [])) → (log : List Signed) → IsHistory log → P [] → P log
history-along P keeps log is p = history_from P keeps [] log is.is_legal is.is_signed p

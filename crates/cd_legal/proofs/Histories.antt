-- Histories: one entry more, their prefixes and what follows these, and what each of their states has.
use Rattle.std.proofs.Common.{◌≡◌, Bool, true, false, ◌&&◌, List, [], ◌∷◌, ◌++◌, refl, sym, ap, ◌∙◌, append_assoc}
use Rattle.std.proofs.lemmas.List.{append-nil}
use Rattle.cd_legal.specs.declared.entry.Entry.{Entry}
use Rattle.cd_legal.specs.declared.entry.Signed.{Signed}
use Rattle.cd_legal.specs.declared.state.State.{State}
use Rattle.cd_legal.specs.Entry.{entries}
use Rattle.cd_legal.specs.Legal.{allowed, after, legal_from, state_from, legal}
use Rattle.cd_legal.specs.Calls.{entry_calls, calls_from}

pub both : (a b : Bool) → a ≡ true → b ≡ true → (a && b) ≡ true
both true b e f = f
both false b e f = e

pub first : (a b : Bool) → (a && b) ≡ true → a ≡ true
first true b e = refl
first false b e = e

pub second : (a b : Bool) → (a && b) ≡ true → b ≡ true
second true b e = e
second false b e = cc

pub legal_from-snoc : (s : State) (log : List Entry) (e : Entry) → legal_from s log ≡ true → allowed (state_from s log) e ≡ true → legal_from s (log ++ e ∷ []) ≡ true
legal_from-snoc s [] e legal may = both (allowed s e) true may refl
legal_from-snoc s (x ∷ xs) e legal may = both (allowed s x) _ (first (allowed s x) _ legal) (legal_from-snoc (after s x) xs e (second (allowed s x) _ legal) may)

pub state_from-snoc : (s : State) (log : List Entry) (e : Entry) → state_from s (log ++ e ∷ []) ≡ after (state_from s log) e
state_from-snoc s [] e = refl
state_from-snoc s (x ∷ xs) e = state_from-snoc (after s x) xs e

pub calls_from-snoc : (s : State) (log : List Entry) (e : Entry) → calls_from s (log ++ e ∷ []) ≡ calls_from s log ++ entry_calls (state_from s log) e
calls_from-snoc s [] e = append-nil (entry_calls s e)
calls_from-snoc s (x ∷ xs) e = ap (λ z. entry_calls s x ++ z) (calls_from-snoc (after s x) xs e) ∙ sym (append_assoc (entry_calls s x) (calls_from (after s x) xs) (entry_calls (state_from (after s x) xs) e))

-- a prefix of a legal history is legal
pub legal_from-front : (s : State) (xs ys : List Entry) → legal_from s (xs ++ ys) ≡ true → legal_from s xs ≡ true
legal_from-front s [] ys legal = refl
legal_from-front s (x ∷ xs) ys legal = both (allowed s x) _ (first (allowed s x) _ legal) (legal_from-front (after s x) xs ys (second (allowed s x) _ legal))

-- and what follows is legal in the state that the prefix leaves
pub legal_from-back : (s : State) (xs ys : List Entry) → legal_from s (xs ++ ys) ≡ true → legal_from (state_from s xs) ys ≡ true
legal_from-back s [] ys legal = legal
legal_from-back s (x ∷ xs) ys legal = legal_from-back (after s x) xs ys (second (allowed s x) _ legal)

-- a history leaves what its last entries leave of the state after those before
pub state_from-append : (s : State) (xs ys : List Entry) → state_from s (xs ++ ys) ≡ state_from (state_from s xs) ys
state_from-append s [] ys = refl
state_from-append s (x ∷ xs) ys = state_from-append (after s x) xs ys

-- what the first state has, and each allowed entry keeps, each state of a legal history has
pub along : (P : State → Type 0) → ((s : State) (e : Entry) → allowed s e ≡ true → P s → P (after s e)) → (s : State) (log : List Entry) → legal_from s log ≡ true → P s → P (state_from s log)
along P keeps s [] legal p = p
along P keeps s (e ∷ es) legal p = along P keeps (after s e) es (second (allowed s e) _ legal) (keeps s e (first (allowed s e) _ legal) p)

pub entries-snoc : (log : List Signed) (x : Signed) → entries (log ++ x ∷ []) ≡ entries log ++ x.entry ∷ []
entries-snoc [] x = refl
entries-snoc (y ∷ ys) x = ap (λ z. y.entry ∷ z) (entries-snoc ys x)

-- Open tickets, and the serials that they keep from being retired.
use Rattle.std.proofs.Common.{◌≡◌, ◌≢◌, ℕ, suc, ◌+◌, ◌<◌, ◌≤◌, ◌==◌, Bool, true, false, not, cond, List, [], ◌∷◌, ◌++◌, Some, refl, sym, ap, ◌∙◌, subst, ⊎_elim, arith, eq-eqb, ne_eqb}
use Rattle.std.specs.Prelude.{◌||◌}
use Rattle.std.proofs.lemmas.Bool.{eqb-true}
use Rattle.std.proofs.lemmas.List.{append-nil, append_cancel_left}
use mathlib.Core.List.{IsPrefix}
use Rattle.cd_legal.specs.declared.entry.Entry.{Entry}
use Rattle.cd_legal.specs.declared.entry.Entry.TheVariants.{Publish, Begin, Finish, Retire, Halt}
use Rattle.cd_legal.specs.declared.entry.Signed.{Signed}
use Rattle.cd_legal.specs.declared.state.State.{State}
use Rattle.cd_legal.specs.declared.state.OpenTicket.{OpenTicket}
use Rattle.cd_legal.specs.Entry.{entries, mine}
use Rattle.cd_legal.specs.State.{opening_state, has_number, is_ticketed, ticket_of, open_at, without_ticket}
use Rattle.cd_legal.specs.Legal.{allowed, after, legal, state_of, state_at}
use Rattle.cd_legal.specs.Owing.{Owes, owes_of}
use Rattle.cd_legal.specs.Signing.{IsHistory}
use Rattle.cd_legal.proofs.Callers.{open_at-none, open_at-push, open_at-without, ticket-born}
use Rattle.cd_legal.proofs.Facts.{Retires, can}
use Rattle.cd_legal.proofs.Fresh.{serial_rises}
use Rattle.cd_legal.proofs.Histories.{along}
use Rattle.cd_legal.proofs.Logs.{history-front, mine-append}
use Rattle.cd_legal.proofs.Owed.{owed-ticket}
use Rattle.cd_legal.proofs.Owing.{owes-stays}
use Rattle.cd_gate.proofs.Numbers.{has_append, either}

-- ---- how many there are

one_more : (b : Bool) (z : ℕ) (t : Bool) → t ≡ not (z == 0) → (b || t) ≡ not (cond b (suc z) z == 0)
one_more true z t is = sym (ap (λ (q : Bool). not q) (ne_eqb (suc z) 0 (λ e. absurd (omega arith))))
one_more false z t is = is

pub ticketed-is : (n : ℕ) (ts : List OpenTicket) → is_ticketed n ts ≡ not (open_at n ts == 0)
ticketed-is n [] = refl
ticketed-is n (t ∷ ts) = one_more (t.serial == n) (open_at n ts) (is_ticketed n ts) (ticketed-is n ts)

-- the same count, the same answer
pub ticketed-same : (n : ℕ) (xs ys : List OpenTicket) → open_at n xs ≡ open_at n ys → is_ticketed n xs ≡ is_ticketed n ys
ticketed-same n xs ys is = ticketed-is n xs ∙ (ap (λ (z : ℕ). not (z == 0)) is ∙ sym (ticketed-is n ys))

pub one_off : (m n : ℕ) → m ≢ n → ◌≡◌ {A = ℕ} (cond (m == n) 1 0) 0
one_off m n ne = ap (λ (b : Bool). cond {A = ℕ} b 1 0) (ne_eqb m n ne)

pub one_on : (m n : ℕ) → m ≡ n → ◌≡◌ {A = ℕ} (cond (m == n) 1 0) 1
one_on m n e = ap (λ (b : Bool). cond {A = ℕ} b 1 0) (eq-eqb m n e)

-- ---- a superseded serial that has none gets none

abbrev pub Freed : ℕ → State → Type 0
Freed n s = (n < s.serial) × (open_at n s.tickets ≡ 0)

rises : (n a b : ℕ) → n < a → a ≤ b → n < b
rises n a b low le = omega arith

none_more : (m n c z : ℕ) → c ≡ 0 → z ≡ 0 → c + z ≡ 0
none_more m n c z e f = omega arith

differs : (n m serial : ℕ) → n < serial → m ≡ serial → m ≢ n
differs n m serial low is = λ e. absurd (omega arith)

less_none : (a b : ℕ) → a ≤ b → b ≡ 0 → a ≡ 0
less_none a b le none = omega arith

pub freed_by : (n : ℕ) (s : State) (e : Entry) → allowed s e ≡ true → Freed n s → Freed n (after s e)
freed_by n s (Begin k m) may h = (
  h.0,
  open_at-push n s.tickets (record { caller = k; serial = m })
      ∙ none_more m n (cond (m == n) 1 0) (open_at n s.tickets) (one_off m n (differs n m s.serial h.0 (can s (Begin k m) may).current)) h.1,
)
freed_by n s (Finish k) may h = (h.0, less_none (open_at n (without_ticket k s.tickets)) (open_at n s.tickets) (open_at-without n k s.tickets) h.1)
freed_by n s (Publish d m from c) may h = (rises n s.serial (after s (Publish d m from c)).serial h.0 (serial_rises s (Publish d m from c) may), h.1)
freed_by n s (Halt m) may h = (rises n s.serial (after s (Halt m)).serial h.0 (serial_rises s (Halt m) may), h.1)
freed_by n s e may h = h

-- ---- a retired serial has none

abbrev Released : State → Type 0
Released s = (n : ℕ) → has_number n s.retired ≡ true → Freed n s

released_by : (s : State) (e : Entry) → allowed s e ≡ true → Released s → Released (after s e)
released_by s (Retire m) may had = λ n is. ⊎_elim
    (λ q. had n q)
    (λ q. let f : Retires s m = can s (Retire m) may in
    let same : n ≡ m = ⊎_elim (λ t. eqb-true n m t) (λ t. absurd (let h : false ≡ true = t in cc)) (either (n == m) false q) in
    (subst (λ (z : ℕ). z < s.serial) (sym same) f.superseded, open_at-none n s.tickets (ap (λ (z : ℕ). is_ticketed z s.tickets) same ∙ f.unticketed)))
    (either (has_number n s.retired) (has_number n (m ∷ [])) (sym (has_append n s.retired (m ∷ [])) ∙ is))
released_by s e may had = λ n is. freed_by n s e may (had n is)

pub retired-free : (log : List Entry) (n : ℕ) → legal log ≡ true → has_number n (state_of log).retired ≡ true → (n < (state_of log).serial) × (open_at n (state_of log).tickets ≡ 0)
retired-free log n legal is = along Released released_by opening_state log legal (λ m e. absurd (let h : false ≡ true = e in cc)) n is

-- so the balance of a serial with an open ticket was not used again
pub not_reused : (log : List Entry) (n edge window : ℕ) → legal log ≡ true → ((m : ℕ) → m + window ≤ edge → has_number m (state_of log).retired ≡ true) → 0 < open_at n (state_of log).tickets → edge < n + window
not_reused log n edge window legal reused some = go (open_at n (state_of log).tickets) edge (n + window) some (λ le. (retired-free log n legal (reused n le)).1)
  where
    go : (z a b : ℕ) → 0 < z → (b ≤ a → z ≡ 0) → a < b
    go z a b some none = grind arith

-- ---- what a pass has seen of its own ticket

pub ticket_seen : (k n : ℕ) (seen log : List Signed) → IsHistory log → IsPrefix seen log → mine k log ≡ mine k seen → ticket_of k (state_at log).tickets ≡ Some n → n ≤ (state_at seen).serial
ticket_seen k n seen log is p same has =
    let more : List Signed = p.0 in
    let whole : seen ++ more ≡ log = p.1 in
    let front = history-front seen log p is in
    let none : mine k more ≡ [] = append_cancel_left (mine k seen) (mine k more) [] (sym (mine-append k seen more) ∙ (ap (λ (l : List Signed). mine k l) whole ∙ (same ∙ sym (append-nil (mine k seen))))) in
    let owes : owes_of k log ≡ owes_of k seen = ap (owes_of k) (sym whole) ∙ owes-stays k seen more none in
    ticket-born (entries seen) k n front.is_legal (sym (owed-ticket seen k front) ∙ (ap (λ (o : Owes). o.ticket) (sym owes) ∙ (owed-ticket log k is ∙ has)))

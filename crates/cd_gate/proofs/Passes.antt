-- What a step leaves of a pass.
use Rattle.std.proofs.Common.{◌≡◌, ℕ, Bool, true, false, cond, List, [], ◌∷◌, Option, Some, None, sym, ap, subst, ◌∙◌}
use Rattle.atomic_table.specs.Seated.{TableId}
use Rattle.atomic_table.specs.Table.{Me}
use Rattle.cd_legal.specs.declared.entry.Signed.{Signed}
use Rattle.cd_gate.specs.declared.table.TheConstants.{BOARD_SLOT}
use Rattle.cd_gate.specs.declared.view.Unsettled.{Unsettled}
use Rattle.cd_gate.specs.declared.view.View.{View}
use Rattle.cd_gate.specs.Steps.{checking, worn, readied, settled}
use Rattle.cd_gate.specs.Tables.{FoundInTurn}

module _ {T : Type 0} where
  -- what a step on its own request leaves
  pub record Keeps (v w : View T) : Type 0 where
    pub live : w.live ≡ v.live
    pub number : w.number ≡ v.number
    pub turn : w.turn ≡ v.turn
    pub ready : w.ready ≡ v.ready
    pub unsettled : w.unsettled ≡ v.unsettled
    pub older : w.older ≡ v.older
    pub opening : w.opening ≡ v.opening

  pub keeps_all : (v w : View T) (checked : Bool) (seen mine : List Signed) (ticket draft : Option ℕ) (duties : List ℕ) → w ≡ record v { checked = checked; seen = seen; mine = mine; ticket = ticket; draft = draft; duties = duties } → Keeps v w
  keeps_all v w checked seen mine ticket draft duties is = record {
    live = ap (λ (z : View T). z.live) is;
    number = ap (λ (z : View T). z.number) is;
    turn = ap (λ (z : View T). z.turn) is;
    ready = ap (λ (z : View T). z.ready) is;
    unsettled = ap (λ (z : View T). z.unsettled) is;
    older = ap (λ (z : View T). z.older) is;
    opening = ap (λ (z : View T). z.opening) is;
  }

  pub keeps_checked : (v w : View T) (log : List Signed) (b : Bool) → w ≡ cond b (checking v log) (worn v log) → Keeps v w
  keeps_checked v w log true is = keeps_all v w true log v.mine v.ticket v.draft v.duties is
  keeps_checked v w log false is = keeps_all v w v.checked log v.mine v.ticket v.draft v.duties is

  -- a pass of the table z, which began with the value o
  abbrev Is : TableId → T → ℕ → TableId → Me (Option T) (View T) → Type 0
  Is z o number table me = (table ≡ z) × (me.0.live ≡ true) × (number ≡ me.0.number) × (me.0.opening ≡ Some o) × (me.0.older ≡ []) × (me.0.ready ≡ false)

  abbrev Idles : TableId → T → ℕ → TableId → Me (Option T) (View T) → Type 0
  Idles z o number table me = Is z o number table me × (me.0.turn ≡ false) × (me.1 ≡ []) × (me.0.unsettled ≡ None)

  abbrev Turns : TableId → T → ℕ → TableId → Me (Option T) (View T) → Type 0
  Turns z o number table me = Is z o number table me × (me.0.turn ≡ true) × (me.1 ≡ (BOARD_SLOT, None) ∷ [])

  module _ (z : TableId) (o : T) (number : ℕ) (table table' : TableId) (me me' : Me (Option T) (View T)) (same : table' ≡ table) (slots : me'.1 ≡ me.1) where
    pub stays : Keeps me.0 me'.0 → Is z o number table me → Is z o number table' me' × (Idles z o number table me → Idles z o number table' me') × (Turns z o number table me → Turns z o number table' me')
    stays k is =
        let now : Is z o number table' me' = (same ∙ is.0, k.live ∙ is.1, is.2 ∙ sym k.number, k.opening ∙ is.3, k.older ∙ is.4, k.ready ∙ is.5) in
        (now, (λ idle. (now, k.turn ∙ idle.1, slots ∙ idle.2, k.unsettled ∙ idle.3)), (λ has. (now, k.turn ∙ has.1, slots ∙ has.2)))

    -- a step in the turn, which may change what is unsettled
    pub turn_stays : (seen mine : List Signed) (ticket draft : Option ℕ) (duties : List ℕ) (unsettled : Option Unsettled)
        → me'.0 ≡ record (me.0) { ready = false; unsettled = unsettled; seen = seen; mine = mine; ticket = ticket; draft = draft; duties = duties } → Turns z o number table me → Turns z o number table' me'
    turn_stays seen mine ticket draft duties unsettled is has =
        let own = has.0 in (
          (same ∙ own.0, ap (λ (u : View T). u.live) is ∙ own.1, own.2 ∙ sym (ap (λ (u : View T). u.number) is), ap (λ (u : View T). u.opening) is ∙ own.3, ap (λ (u : View T). u.older) is ∙ own.4, ap (λ (u : View T). u.ready) is),
          ap (λ (u : View T). u.turn) is ∙ has.1,
          slots ∙ has.2,
        )

    -- and one that settles
    pub settle_stays : (n : ℕ) (due : Bool) → me'.0 ≡ settled me.0 n due → Turns z o number table me → Turns z o number table' me'
    settle_stays n due is has =
        let own = has.0 in (
          (same ∙ own.0, ap (λ (u : View T). u.live) is ∙ own.1, own.2 ∙ sym (ap (λ (u : View T). u.number) is), ap (λ (u : View T). u.opening) is ∙ own.3, ap (λ (u : View T). u.older) is ∙ own.4, ap (λ (u : View T). u.ready) is ∙ own.5),
          ap (λ (u : View T). u.turn) is ∙ has.1,
          slots ∙ has.2,
        )

  -- what was found where a balance was made ready first
  pub found_ready : (v u : View T) (log : List Signed) → u ≡ readied v → FoundInTurn u log → FoundInTurn v log
  found_ready v u log is f =
      let r : FoundInTurn (readied v) log = subst (λ (z : View T). FoundInTurn z log) is f in
      record { found = record { history = r.found.history; seen = r.found.seen; own = r.found.own; own_seen = r.found.own_seen; owes = r.found.owes; in_turn = r.found.in_turn }; core_is = r.core_is }

-- What is known of a pass between its calls.
use Rattle.std.specs.Prelude.{◌≡◌, ℕ, false, List, [], Option, Some}
use Rattle.cd_tree.specs.declared.tree.Tree.{Tree}
use Rattle.cd_gate.specs.declared.pass.Pass.{Pass}
use Rattle.cd_gate.specs.Passes.{view}
use Rattle.cd_gate.specs.Words.{owed}
use Rattle.cd_life.specs.declared.board.Board.{Board}
use Rattle.cd_life.specs.declared.board.Draft.{Draft}
use Rattle.cd_hall.specs.declared.hall.Hall.{Hall}
use Rattle.cd_hall.specs.declared.hall.Ticket.{Ticket}
use Rattle.cd_hall.specs.Calls.{IsPassOf}
use Rattle.cd_hall.specs.Drafts.{Held, IsDraftOf}
use Rattle.cd_hall.specs.Tickets.{IsTicketOf}

module _ {A F B : Type 0} {g : _} (h : Hall A F B g) (p : Pass (Board A F B g)) (k : ℕ) where
  -- a pass of the hall with this number, which has this ticket, this draft and these duties; that of number 0 began with two passes
  pub record Has (ticket draft : Option ℕ) (due : List ℕ) : Type 0 where
    pub pass : IsPassOf h p
    pub number : (view p).number ≡ k
    pub owes : owed (view p) ≡ record { ticket = ticket; draft = draft }
    pub duties : (view p).duties ≡ due
    pub root : k ≡ 0 → ((view p).made ≡ 2) × ((view p).joined ≡ [])

  -- its request runs, and it has this draft
  pub record Runs (t : Ticket A B g) (draft : Option ℕ) : Type 0 where
    pub has : Has (Some t.serial) draft []
    pub ticket : IsTicketOf (view p) t

  -- its request runs, and it has the draft
  pub record HasDraft (t : Ticket A B g) (d : Draft A B g) : Type 0 where
    pub runs : Runs t (Some d.left.number)
    pub draft : IsDraftOf (view p) d

-- a draft of this tree of which nothing is there yet
pub record IsNew (h : Held) (t : Tree) : Type 0 where
  pub tree : h.tree ≡ t
  pub made : h.made ≡ 0
  pub started : h.started ≡ 0
  pub failed : h.failed ≡ false

-- A pass of a hall may go to another thread, and threads may share a hall. Each step here is one former.
use denote.RattleType.{RattleType}
use denote.Param.Send.{IsSend, IsSync, sendable}
use denote.Param.SendFields.{declared_send, declared_sync}
use Rattle.std.proofs.Crossing as std
use Rattle.cd_tree.proofs.tree.Tree.TheLaws.TheKnot as trees
use Rattle.cd_tree.specs.contracts.tree.Tree as Tree
use Rattle.cd_legal.proofs.plan.Plan.TheSendSync as plan
use Rattle.cd_pool.proofs.pool.Pool.TheSendSync as pool
use Rattle.cd_module_set.specs.contracts.loaded.Loaded as Loaded
use Rattle.cd_life.specs.contracts.share.Nothing as Nothing
use Rattle.cd_life.specs.contracts.board.Kept as Kept
use Rattle.cd_life.specs.contracts.board.Board as Board
use Rattle.cd_desk.specs.contracts.row.Row as Row
use Rattle.cd_desk.specs.contracts.books.Books as Books
use Rattle.cd_desk.specs.contracts.desk.Desk as Desk
use Rattle.cd_gate.specs.contracts.pass.Pass as Pass
use Rattle.cd_gate.proofs.gate.Gate.TheSendSync as gate
use Rattle.cd_gate.proofs.pass.Pass.TheSendSync as pass
use Rattle.cd_hall.specs.contracts.hall.Hall as Hall

tree_send : IsSend Tree.the_row
tree_send = search (trees.crosses_both, std.crosses, sendable) depth 60 fits 20000

tree_sync : IsSync Tree.the_row
tree_sync = search (trees.crosses_both, std.crosses, sendable) depth 60 fits 20000

row_send : IsSend Row.the_row
row_send = declared_send Row.the_type (search (std.crosses, sendable) depth 60 fits 20000)

books_send : IsSend Books.the_row
books_send =
    let r = row_send in
    declared_send Books.the_type (pool.the_send, (search sendable, (search (r, std.crosses, sendable), (search sendable, tt))))

desk_send : (F : RattleType) → IsSend F → IsSend (Desk.the_row F)
desk_send F fs = let b = books_send in declared_send (Desk.the_type F) (search (fs, sendable), (b, (search (std.crosses, sendable) depth 60 fits 20000)))

module _ (M F C : RattleType) (g : _) (fs : IsSend F) (cs : IsSend C) (cy : IsSync C) where
  loaded_send : IsSend (Loaded.the_row M C g)
  loaded_send = declared_send (Loaded.the_type M C g) (tree_send, (plan.the_send, (search (cs, sendable), tt)))

  loaded_sync : IsSync (Loaded.the_row M C g)
  loaded_sync = declared_sync (Loaded.the_type M C g) (tree_sync, (plan.the_sync, (search (cy, sendable), tt)))

  nothing_send : IsSend (Nothing.the_row M C g)
  nothing_send = declared_send (Nothing.the_type M C g) (tree_send, (search (cs, sendable), tt))

  nothing_sync : IsSync (Nothing.the_row M C g)
  nothing_sync = declared_sync (Nothing.the_type M C g) (tree_sync, (search (cy, sendable), tt))

  kept_send : IsSend (Kept.the_row M C g)
  kept_send = let s = loaded_send in let y = loaded_sync in declared_send (Kept.the_type M C g) (search sendable, (search (s, y, std.crosses, sendable), tt))

  board_send : IsSend (Board.the_row M F C g)
  board_send =
      let s = nothing_send in
      let y = nothing_sync in
      let k = kept_send in
      declared_send (Board.the_type M F C g) (desk_send F fs, (search (s, y, std.crosses, sendable), (search (k, std.crosses, sendable), (search sendable, tt))))

  pub pass_send : IsSend (Pass.the_row (Board.the_row M F C g))
  pass_send = pass.the_send (Board.the_row M F C g) board_send

  pub hall_sync : (f : _) → IsSync (Hall.the_row M F C g f)
  hall_sync f = let b = board_send in declared_sync (Hall.the_type M F C g f) (search (b, gate.the_sync, sendable), tt)

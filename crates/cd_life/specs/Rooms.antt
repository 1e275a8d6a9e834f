-- For how much the board has room.
use Rattle.std.specs.Prelude.{◌≡◌}
use Rattle.std.specs.Vec.{vec_capacity}
use Rattle.cd_desk.specs.Rooms.{KeepsRoom as KeepsDesk}
use Rattle.cd_life.specs.declared.board.Board.{Board}

-- the board has as much room for drafts, for callers and for configurations as before: it took no memory for them, and gave none
-- back
abbrev pub KeepsRoom : {A F B : Type 0} {g : _} → Board A F B g → Board A F B g → Type 0
KeepsRoom v w = KeepsDesk v.desk w.desk × (vec_capacity w.kept ≡ vec_capacity v.kept)

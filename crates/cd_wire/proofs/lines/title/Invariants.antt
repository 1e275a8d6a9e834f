use Rattle.std.proofs.Common.{◌≡◌, ◌++◌, take, drop, true}
use Rattle.cd_wire.specs.Render.{titled}
use Rattle.cd_wire.proofs.lines.title.Given as goal

abbrev pub invariant-loop-byte : goal.invariant-loop-byte
invariant-loop-byte l =
    take l.byte-index l.name ++ titled l.begins (drop l.byte-index l.name) ≡ titled true l.fn.name

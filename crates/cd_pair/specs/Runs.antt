-- Which configurations run.
use Rattle.std.specs.Prelude.{Bool, true, false}
use Rattle.cd_legal.specs.State.{Conf}

-- a configuration runs, neither before the first one nor after the halt
abbrev pub runs : Conf → Bool
runs Conf.Opening = false
runs (Conf.Of tree) = true
runs Conf.Halted = false

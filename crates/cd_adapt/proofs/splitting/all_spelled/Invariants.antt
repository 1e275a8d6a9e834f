use Rattle.std.proofs.Common.{◌≡◌, map, take}
use Rattle.cd_caddyfile.specs.Shorthands.{spelled}
use Rattle.cd_adapt.proofs.splitting.all_spelled.Given as goal

abbrev pub invariant-loop-word : goal.invariant-loop-word
invariant-loop-word l = l.made ≡ map spelled (take l.word-index l.words)

use Rattle.std.proofs.Common.{◌≡◌, take}
use Rattle.cd_caddyfile.proofs.notes.copies.Given as goal

abbrev pub invariant-loop-word : goal.invariant-loop-word
invariant-loop-word l = l.made ≡ take l.word-index l.words

use Rattle.std.proofs.Common.{◌≡◌, drop}
use Rattle.std.specs.List.{find}
use Rattle.std.specs.Str.{bytes_eq}
use Rattle.cd_match.specs.Names.{kind_name, kinds}
use Rattle.cd_match.proofs.kind.MatcherKind.named.Given as goal

abbrev pub invariant-loop-kind : goal.invariant-loop-kind
invariant-loop-kind l =
    find (λ kind. bytes_eq (kind_name kind) l.name) (drop l.kind-index l.kind-items) ≡ find (λ kind. bytes_eq (kind_name kind) l.name) kinds

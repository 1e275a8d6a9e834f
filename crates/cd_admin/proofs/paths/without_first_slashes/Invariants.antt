use Rattle.std.proofs.Common.{◌≡◌, length}
use Rattle.cd_admin.specs.Endpoints.{skip_slashes}
use Rattle.cd_admin.proofs.paths.without_first_slashes.Given as goal

abbrev pub invariant-loop-bytes : goal.invariant-loop-bytes
invariant-loop-bytes l = skip_slashes l.bytes ≡ skip_slashes l.fn.bytes

abbrev pub decreases-loop-bytes : goal.decreases-loop-bytes
decreases-loop-bytes l = length l.bytes

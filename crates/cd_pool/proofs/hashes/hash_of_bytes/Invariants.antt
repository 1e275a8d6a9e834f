use Rattle.std.proofs.Common.{◌≡◌, drop}
use Rattle.cd_pool.specs.Hashes.{hashed}
use Rattle.cd_pool.specs.declared.hashes.TheConstants.{BASIS}
use Rattle.cd_pool.proofs.hashes.hash_of_bytes.Given as goal

abbrev pub invariant-loop-byte : goal.invariant-loop-byte
invariant-loop-byte l = hashed l.hash (drop l.byte-index l.bytes) ≡ hashed BASIS l.bytes

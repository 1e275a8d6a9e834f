use Rattle.std.proofs.Common.{BuildHasherDefault, FoldHasher, ◌≡◌, ◌+◌, ◌-◌, ◌++◌, arith, ap, refl, ◌∙◌, length, length-append, rules}
use Rattle.std.specs.Vec.{vec_len}
use Rattle.cd_pool.specs.Numbers.{numbers_from}
use Rattle.cd_pool.specs.Slots.{leases}
use Rattle.cd_pool.proofs.Counted.{counted_same}
use Rattle.cd_pool.proofs.Gaps.{length-leases}
use Rattle.cd_pool.proofs.Numbers.{filled, same_numbers, length-numbers_from}
use Rattle.cd_pool.proofs.pool.Pool.reserve.Goals as goal

pub invariant_of-self-2 : goal.invariant_of-self-2
invariant_of-self-2 c =
    let before = leases c.self.inside.slots.items in
    let free_before = c.self.inside.free.items in
    let spare : c.len-spare.result ≡ length free_before = search rules in
    let free_len : vec_len c.self.inside.free ≡ length free_before = search rules in
    let slots_len : vec_len c.self.inside.slots ≡ length c.self.inside.slots.items = search rules in
    let from = c.self.inside.count + c.len-spare.result in
    let missing = c.args.count - c.len-spare.result in
    let numbers : numbers_from from (from + missing - from) ≡ numbers_from from missing = same_numbers from from missing (from + missing - from) refl (omega arith) in
    let free : c.add_numbers.new.free.items ≡ free_before ++ numbers_from from missing = c.add_numbers.ensures.items ∙ ap (λ z. z ++ numbers_from from (from + missing - from)) c.in_ok-reserve-2.ensures.items ∙ ap (λ z. free_before ++ z) numbers in
    let more : length c.add_numbers.new.free.items ≡ length free_before + missing = ap length free ∙ omega (arith, length-append free_before (numbers_from from missing), length-numbers_from from missing) in
    let held : leases c.reserve.new.self.items ≡ before = ap leases c.in_ok-reserve.ensures.items in
    record {
      numbers = filled before _ free_before _ from missing _ held free (omega (arith, more, spare)) (rw spare c.self.invariant.numbers);
      counts = omega (arith, ap length held, c.self.invariant.counts);
      fits = omega (arith, more, spare, slots_len, length-leases c.self.inside.slots.items, c.self.invariant.counts, c.in_ok-reserve.ensures.ok);
      free_fits = omega (arith, more, spare, free_len, c.add_numbers.ensures.capacity, c.in_ok-reserve-2.ensures.ok);
      hashed = λ known. counted_same {S = BuildHasherDefault FoldHasher} c.self.inside.hashes c.reserve-4.new.self before _ held c.in_ok-reserve-4.ensures.entries.2 (c.self.invariant.hashed known);
    }

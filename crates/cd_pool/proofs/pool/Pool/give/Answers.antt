use Rattle.std.proofs.Common.{BuildHasherDefault, FoldHasher, ◌≡◌, ◌∙◌, arith, ap, length, ◌∷◌, [], length-append}
use Rattle.std.specs.Option.{IsSome}
use Rattle.cd_pool.specs.Pairs.{Holdings, pair_at}
use Rattle.cd_pool.specs.Slots.{leases}
use Rattle.cd_pool.proofs.Counted.{counted_without}
use Rattle.cd_pool.proofs.Numbers.{give_numbers}
use Rattle.cd_pool.proofs.Giving.{pool_last}
use Rattle.cd_pool.proofs.Named.{gone, still_given}
use Rattle.cd_pool.proofs.Gaps.{length-without}
use Rattle.cd_pool.proofs.pool.Pool.give.Goals as goal

pub invariant_of-self : goal.invariant_of-self
invariant_of-self c =
    let before = leases c.self.inside.slots.items in
    let seen : before ≡ c.args.self.now.held = ap (λ (z : Holdings). z.held) c.self.view_is in
    let some : IsSome (pair_at c.lease.inside.number before) = rw (seen, c.lease.view_is) c.requires in
    let held = c.take_out-leased.ensures.rest in
    let one_less = ap length held in
    let fewer = length-without c.lease.inside.number before some in
    let free = ap length c.push_reserved.ensures.items ∙ length-append c.self.inside.free.items (c.lease.inside.number ∷ []) in
    record {
      numbers = give_numbers before _ c.lease.inside.number c.self.inside.free.items _ _ _ held c.push_reserved.ensures.items some (omega (arith, free, fewer, c.self.invariant.counts)) c.self.invariant.numbers;
      counts = omega (arith, one_less, fewer, c.self.invariant.counts);
      fits = omega (arith, free, fewer, c.self.invariant.counts, c.take_out-leased.ensures.capacity, c.self.invariant.fits);
      free_fits = omega (arith, free, fewer, c.self.invariant.counts, c.push_reserved.ensures.capacity, c.self.invariant.free_fits);
      hashed = λ known. counted_without {S = BuildHasherDefault FoldHasher} c.self.inside.hashes c.forget-self-inside.new.hashes before _ c.lease.inside.number _ c.hash_of-hash.result c.hash_of-hash.ensures c.take_out-leased.ensures.pair held (c.forget-self-inside.ensures.counted known) (c.self.invariant.hashed (c.forget-self-inside.ensures.known known));
    }

pub returns-clause-gone : goal.returns-clause-gone
returns-clause-gone c =
    let before = leases c.self.inside.slots.items in
    let seen : before ≡ c.args.self.now.held = ap (λ (z : Holdings). z.held) c.self.view_is in
    let some : IsSome (pair_at c.lease.inside.number before) = rw (seen, c.lease.view_is) c.requires in
    rw (← c.lease.view_is, c.take_out-leased.ensures.rest) (gone c.lease.inside.number before c.self.inside.free.items _ some c.self.invariant.numbers)

pub returns-clause-others : goal.returns-clause-others
returns-clause-others c = λ n.
    let before = leases c.self.inside.slots.items in
    let seen : before ≡ c.args.self.now.held = ap (λ (z : Holdings). z.held) c.self.view_is in
    rw (← c.lease.view_is, c.take_out-leased.ensures.rest, ← seen) (still_given n c.lease.inside.number before)

pub returns-clause-last : goal.returns-clause-last
returns-clause-last c = λ h ns.
    let before = leases c.self.inside.slots.items in
    let seen : before ≡ c.args.self.now.held = ap (λ (z : Holdings). z.held) c.self.view_is in
    rw (← c.lease.view_is, ← seen) (pool_last h c.lease.inside.number before _ c.self.inside.free.items _ c.self.invariant.numbers c.take_out-leased.ensures.rest ns)

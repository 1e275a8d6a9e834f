use Rattle.std.proofs.Common.{BuildHasherDefault, FoldHasher, ◌≡◌, ◌+◌, ◌++◌, ◌∷◌, [], ◌∙◌, ap, arith, length, length-append}
use Rattle.cd_outside.specs.declared.holder.Pair.{Pair}
use Rattle.cd_pool.specs.Slots.{leases}
use Rattle.cd_pool.proofs.Counted.{counted_push}
use Rattle.cd_pool.proofs.Numbers.{take_numbers, new_number}
use Rattle.cd_pool.proofs.Named.{lease, named, still_taken}
use Rattle.cd_pool.proofs.pool.Pool.take.Goals as goal

pub invariant_of-self : goal.invariant_of-self
invariant_of-self c =
    let pair : Pair = record { key = c.args.key; holder = c.args.holder } in
    let before = leases c.self.inside.slots.items in
    let its = lease c.in-Some.number pair in
    let held : leases c.put_last.new.slots.items ≡ before ++ its ∷ [] = c.put_last.ensures.leases ∙ ap (λ z. z ++ its ∷ []) c.make_room.ensures.same in
    let more : length (leases c.put_last.new.slots.items) ≡ length before + 1 = ap length held ∙ length-append before (its ∷ []) in
    let free = ap length c.in-Some.ensures.items ∙ length-append c.pop.new.self.items (c.in-Some.number ∷ []) in
    record {
      numbers = take_numbers before _ its c.self.inside.free.items _ _ _ held c.in-Some.ensures.items (omega arith) c.self.invariant.numbers;
      counts = omega (arith, more, c.self.invariant.counts);
      fits = omega (arith, free, c.put_last.ensures.capacity, c.make_room.ensures.capacity, c.self.invariant.fits);
      free_fits = omega (arith, free, c.in-Some.ensures.capacity, c.self.invariant.free_fits);
      hashed = λ known. counted_push {S = BuildHasherDefault FoldHasher} c.self.inside.hashes c.note-self-inside.new.hashes before _ its c.hash_of-hash.result c.hash_of-hash.ensures held (c.note-self-inside.ensures.counted known) (c.self.invariant.hashed (c.note-self-inside.ensures.known known));
    }

pub returns-clause-new : goal.returns-clause-new
returns-clause-new c = rw (← c.self.view_is) (new_number (leases c.self.inside.slots.items) _ c.self.inside.free.items c.pop.new.self.items _ c.in-Some.ensures.items c.self.invariant.numbers)

pub returns-clause-named : goal.returns-clause-named
returns-clause-named c =
    let pair : Pair = record { key = c.args.key; holder = c.args.holder } in
    let before = leases c.self.inside.slots.items in
    let held : leases c.put_last.new.slots.items ≡ before ++ lease c.in-Some.number pair ∷ [] = c.put_last.ensures.leases ∙ ap (λ z. z ++ lease c.in-Some.number pair ∷ []) c.make_room.ensures.same in
    rw held (named c.in-Some.number pair before (new_number before _ c.self.inside.free.items c.pop.new.self.items _ c.in-Some.ensures.items c.self.invariant.numbers))

pub returns-clause-others : goal.returns-clause-others
returns-clause-others c = λ n ne.
    let pair : Pair = record { key = c.args.key; holder = c.args.holder } in
    let before = leases c.self.inside.slots.items in
    let held : leases c.put_last.new.slots.items ≡ before ++ lease c.in-Some.number pair ∷ [] = c.put_last.ensures.leases ∙ ap (λ z. z ++ lease c.in-Some.number pair ∷ []) c.make_room.ensures.same in
    rw (held, ← c.self.view_is) (still_taken n c.in-Some.number pair before ne)

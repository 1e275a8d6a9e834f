use Rattle.std.proofs.Common.{◌≡◌, ◌<◌, rules, arith, Some, sym, ap, ◌∙◌, length, get_or, slice_set}
use Rattle.cd_pool.specs.Slots.{leases, number_at}
use Rattle.cd_pool.proofs.Gaps.{at_index, number_there, gap_there, pair_there}
use Rattle.cd_pool.proofs.slots.take_out.Goals as goal

pub returns-clause-rest : goal.returns-clause-rest
returns-clause-rest c =
    let slots = c.args.slots.now.items in
    let at = c.place_of-at.result in
    let s = c.in-Some.slot in
    let within : at < length slots = omega (arith, ap length c.as_slice.ensures.value, c.place_of-at.ensures.within) in
    let is : Some s ≡ get_or slots at c.index_mut.result.now = search rules in
    let there = at_index slots at (Some s) c.index_mut.result.now within is in
    let named : number_at at slots ≡ Some c.args.number = ap (number_at at) (sym c.as_slice.ensures.value) ∙ c.place_of-at.ensures.number in
    ap (λ z. leases (slice_set slots at z)) c.replace.ensures.after ∙ gap_there c.args.number slots at s there (number_there c.args.number at slots s there named) c.requires.once

pub returns-clause-pair : goal.returns-clause-pair
returns-clause-pair c =
    let slots = c.args.slots.now.items in
    let at = c.place_of-at.result in
    let s = c.in-Some.slot in
    let within : at < length slots = omega (arith, ap length c.as_slice.ensures.value, c.place_of-at.ensures.within) in
    let is : Some s ≡ get_or slots at c.index_mut.result.now = search rules in
    let there = at_index slots at (Some s) c.index_mut.result.now within is in
    let named : number_at at slots ≡ Some c.args.number = ap (number_at at) (sym c.as_slice.ensures.value) ∙ c.place_of-at.ensures.number in
    pair_there c.args.number slots at s there (number_there c.args.number at slots s there named) c.requires.once

use Rattle.std.proofs.Common.{arith, rules, refl, length, set, ◌≡◌, ◌∙◌, ap, sym, ◌+◌, reverse, subst}
use Rattle.cd_outside.specs.declared.holder.Holder.{Holder}
use Rattle.cd_desk.specs.Instances.{Takes}
use Rattle.std.proofs.lemmas.List.{length-set}
use Rattle.std.proofs.lemmas.Option.{slice_get_read}
use Rattle.cd_desk.proofs.Lists.{wait_on, spent_on}
use Rattle.cd_desk.proofs.Wholes.{opened_all}
use Rattle.cd_desk.proofs.line.Line.open_next.Goals as goal

pub returns-clause-opens : goal.returns-clause-opens
returns-clause-opens g c = record {
  was = c.index_mut.result.now;
  is = c.take_all-taken.new.self;
  there = slice_get_read c.args.self.now.parts.items _ c.args.self.now.opened c.index_mut.result.now refl c.requires.left (search rules);
  parts = search rules;
  takes = subst (λ (h : Holder). Takes (reverse c.index_mut.result.now.waiting.items) h c.args.pool.now.held c.take_all-taken.new.pool.held (g.F.Fixtures.calls c.args.fixtures.now) (g.F.Fixtures.calls c.take_all-taken.new.fixtures) c.take_all-taken.new.self.leases.items c.take_all-taken.result) c.holder_of-holder.ensures c.take_all-taken.ensures.takes;
  spare = c.take_all-taken.ensures.spare;
  none = ap length c.take_all-taken.ensures.none;
  opened = refl;
  ended = refl;
  part = refl;
  plan = refl;
}

pub invariant_of-self : goal.invariant_of-self
invariant_of-self g c =
    let same : length (set c.args.self.now.parts.items c.args.self.now.opened c.take_all-taken.new.self) ≡ length c.args.self.now.parts.items = length-set c.args.self.now.parts.items c.args.self.now.opened c.take_all-taken.new.self in
    record {
      over = (let o = c.args.self.now.over in omega arith);
      all = λ some. opened_all c.args.self.now c.requires.left ∙ sym same;
      within = λ left. (let l = c.requires.left in omega (arith, l, same));
      bound = (let b = c.args.self.now.bound in omega arith);
      wait = wait_on c.args.self.now.opened c.args.self.now.parts.items _ c.take_all-taken.new.self _ (search rules) c.args.self.now.wait;
      spent = spent_on (c.args.self.now.opened + 1) _ _ _ (let none = c.requires.unended in omega arith) (wait_on c.args.self.now.opened c.args.self.now.parts.items _ c.take_all-taken.new.self _ (search rules) c.args.self.now.wait);
    }

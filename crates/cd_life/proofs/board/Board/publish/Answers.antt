use Rattle.std.proofs.Common.{◌≡◌, ◌∙◌, ◌+◌, ◌-◌, ℕ, sym, subst, arith, rules, refl}
use Rattle.std.specs.Arc.{arc_value}
use Rattle.cd_legal.specs.declared.entry.Entry.TheVariants.{Publish}
use Rattle.cd_desk.specs.Desks.{AddsTo}
use Rattle.cd_life.specs.Origins.{change_of}
use Rattle.cd_life.proofs.Standings.{adds, calm, shelf_publish}
use Rattle.cd_life.proofs.Laws.{publish_fits}
use Rattle.cd_life.proofs.board.Board.publish.Goals as goal

pub publish-requires : goal.publish-requires
publish-requires g c =
    let i = c.requires.draft in
    let f = i.follows in
    let from = c.requires.current in
    let bound = c.requires.bound in
    record {
      can = record {
        place = i.place;
        row = i.row;
        at = i.at;
        complete = record { live = f.live; unfailed = f.failed ∙ c.requires.unfailed; made = f.made ∙ (c.requires.made ∙ sym f.modules); started = f.started ∙ (c.requires.started ∙ sym f.apps) };
        running = c.requires.running;
        bound = omega (arith, from, bound);
      };
    }

pub returns-clause-entry : goal.returns-clause-entry
returns-clause-entry g c =
    let calls = g.F.Fixtures.calls in
    let faults = g.F.Fixtures.faults in
    let plan = g.M.ModuleSet.plan in
    let change = g.M.ModuleSet.change in
    let v = c.args.self.now in
    let l = c.args.draft.left in
    let t = (arc_value c.args.draft.loaded).tree in
    let way = change_of c.args.origin in
    let live : c.saturating_sub-self.result ≡ v.live - 1 = search rules in
    let serial : c.publish.new.self.serial ≡ c.args.from + 1 = search rules in
    adds calls faults plan change v _ _
    (subst (λ (z : ℕ). AddsTo calls v.desk c.publish.new.self (Publish l.number (z + 1) z way)) (sym c.requires.current) (c.publish.ensures.entry way))
    (calm _ _ c.publish.ensures.faults)
    (λ o log h. publish_fits calls faults plan change o v log h t l c.args.from (c.args.from + 1) way c.requires.draft c.requires.current c.requires.change)
    (shelf_publish calls faults plan change v _ l c.args.from way t (record { serial = c.publish.new.self.serial; loaded = c.args.draft.loaded }) serial refl c.requires.draft c.keep.ensures.items c.keep.ensures.len c.keep.ensures.capacity live)

use Rattle.std.proofs.Common.{rules, ◌≡◌, true, false, sym, subst}
use Rattle.cd_tree.specs.declared.tree.Tree.TheVariants as value
use Rattle.cd_legal.specs.declared.entry.Change.{Change}
use Rattle.cd_life.specs.Fits.{Suits}
use Rattle.cd_life.specs.Shares.{conf_in}
use Rattle.cd_legal.specs.Serials.{is_halted}
use Rattle.cd_fixed.specs.Fixed.{fixed_change}
use Rattle.cd_pair.specs.Runs.{runs}
use Rattle.cd_pair.proofs.Following.{by-request, by-none}
use Rattle.cd_pair.proofs.origins.origin_after.Goals as goal

pub returns-then-runs : goal.returns-then-runs
returns-then-runs g c =
    let is : runs (conf_in c.args.ticket.now.share) ≡ true = search rules in
    subst (λ (z : Change). Suits fixed_change (conf_in c.args.ticket.now.share) z (value.Bool c.args.other)) (sym c.of.ensures) (by-request (conf_in c.args.ticket.now.share) c.in-Ok.request c.args.other is c.in-Ok.ensures)

pub returns : goal.returns
returns g c =
    let is : runs (conf_in c.args.ticket.now.share) ≡ false = search rules in
    let free : is_halted (conf_in c.args.ticket.now.share) ≡ false = search rules in
    by-none (conf_in c.args.ticket.now.share) c.args.other is free

use Rattle.std.proofs.Common.{◌∙◌, [], refl, sym, ap, inr}
use Rattle.cd_life.specs.Shares.{conf_in, tree_in}
use Rattle.cd_tree.specs.declared.tree.Tree.{Tree}
use Rattle.cd_admin.specs.Deciding.{reply, decided}
use Rattle.cd_serve.specs.declared.how.How.TheVariants as how
use Rattle.cd_serve.specs.Meanings.{Meaning, Decides}
use Rattle.cd_serve.proofs.Acts.{quiet-answer, quiet-lacking}
use Rattle.cd_serve.proofs.Answered.{runs-tree}
use Rattle.cd_serve.proofs.Begun.{acted-in-place}
use Rattle.cd_serve.proofs.task.Task.act_by_admin.Goals as goal

pub returns-in-Ok-Reply-clause-acted : goal.returns-in-Ok-Reply-clause-acted
returns-in-Ok-Reply-clause-acted g c =
    let m : Meaning = record { acts = g.M.ModuleSet.acts; plan = g.M.ModuleSet.plan } in
    let conf = conf_in c.args.ticket.now.share in
    let q = c.args.self.now.request.now in
    let exact = rw c.in-Ok-Reply.field-0-is at c.in-Ok-Reply.ensures.exact in
    let d : Decides m conf c.args.self.now.means.now.at.now q (reply c.in-Ok-Reply.answer) = record {
      tree = tree_in c.args.ticket.now.share;
      runs = runs-tree g.M.ModuleSet.acts c.args.ticket.now.share c.args.self.now.means.now.at.now c.requires.admin;
      there = c.requires.admin;
      comes_to = ap (λ (t : Tree). decided g.M.ModuleSet.plan t q) (sym c.tree.ensures) ∙ sym exact;
    } in
    acted-in-place m c.args.self.now.means.now.hall.now c.args.ticket.now c.args.self.now.means.now.at.now q c.reply_with.result c.args.pass.now _ (g.L.Lane.past c.args.lane.now) (g.L.Lane.past c.reply_with.new.lane) c.requires.may
    (quiet-answer m c.args.self.now.means.now.at.now q conf c.args.ticket.now.serial c.in-Ok-Reply.answer [] c.reply_with.result (g.L.Lane.past c.args.lane.now) (g.L.Lane.past c.reply_with.new.lane) (inr (d, refl)) c.reply_with.ensures.sent)

pub returns-in-Err-clause-acted : goal.returns-in-Err-clause-acted
returns-in-Err-clause-acted g c =
    let m : Meaning = record { acts = g.M.ModuleSet.acts; plan = g.M.ModuleSet.plan } in
    acted-in-place m c.args.self.now.means.now.hall.now c.args.ticket.now c.args.self.now.means.now.at.now c.args.self.now.request.now how.NoMemory c.args.pass.now _ (g.L.Lane.past c.args.lane.now) (g.L.Lane.past c.args.lane.now) c.requires.may
    (quiet-lacking m c.args.self.now.means.now.at.now c.args.self.now.request.now (conf_in c.args.ticket.now.share) c.args.ticket.now.serial (g.L.Lane.past c.args.lane.now))

use Rattle.std.proofs.Common.{ap, ◌∙◌}
use Rattle.cd_tree.specs.Reading.{tree_of}
use Rattle.cd_tree.proofs.ReadBack.{written_reads}
use Rattle.cd_tree.proofs.printing.print.Goals as goal

pub returns-clause-reads_back : goal.returns-clause-reads_back
returns-clause-reads_back c =
    let w = c.in_ok-made.ensures in
    ap tree_of w.text ∙ written_reads c.args.tree.now c.requires w.utf8 w.lexed

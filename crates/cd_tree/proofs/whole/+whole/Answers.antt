use Rattle.std.proofs.Common.{sym, ap, ◌∙◌}
use Rattle.cd_tree.specs.Marked.{is_whole}
use Rattle.cd_tree.proofs.Marks.{whole-Items, whole-Object}
use Rattle.cd_tree.proofs.whole.+whole.Goals as goal

pub is_whole-returns-in-Items : goal.is_whole-returns-in-Items
is_whole-returns-in-Items t c = c.are_whole_items.ensures ∙ sym (whole-Items c.in-Items.items) ∙ ap is_whole (sym c.in-Items.is)

pub is_whole-returns-in-Object : goal.is_whole-returns-in-Object
is_whole-returns-in-Object t c = c.are_whole_members.ensures ∙ sym (whole-Object c.in-Object.members) ∙ ap is_whole (sym c.in-Object.is)

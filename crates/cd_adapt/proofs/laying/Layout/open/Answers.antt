use Rattle.std.proofs.Common.{◌≡◌, ◌∙◌}
use Rattle.cd_parts.specs.Matching.{set_named}
use Rattle.cd_adapt.proofs.LayingSteps.{opens_laid, block_same, free_same}
use Rattle.cd_adapt.proofs.laying.Layout.open.Goals as goal

pub returns : goal.returns
returns c tests_of next n said after words-is agrees laid =
    let self = c.args.self.now in
    let sets = set_named c.args.table.now c.args.site in
    let inside-is : c.replace-inside.result ≡ self.here = c.replace-inside.ensures.value ∙ c.take_after-after.ensures.here in
    opens_laid sets tests_of agrees next n said after self.outer c.take_after-after.new.self.outer self.here c.take_after-after.result c.add_block.new.after self.free c.in_ok-free.free
    c.take_after-after.ensures.taken laid
    (c.in_ok-free.ensures.after ∙ block_same sets _ _ _ _ _ _ _ _ words-is inside-is c.take_after-after.ensures.free c.replace-inside.ensures.after)
    (c.in_ok-free.ensures.free ∙ free_same _ _ _ _ _ _ words-is inside-is c.take_after-after.ensures.free)

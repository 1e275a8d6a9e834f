use Rattle.std.proofs.Common.{rules, ◌≡◌, ◌+◌, ◌-◌, length, take, drop, sym, ap, ◌∙◌}
use Rattle.std.proofs.lemmas.List.{length-drop}
use Rattle.cd_wire.specs.declared.scanning.Line.TheVariants as place
use Rattle.cd_wire.specs.Scanning.{scan}
use Rattle.cd_wire.proofs.ScanLemmas.{scan_more, scan_stays}
use Rattle.cd_wire.proofs.scanning.scan_on.Goals as goal

-- one byte more, and then those that leave the line as it is
pub loop-count-preserved : goal.loop-count-preserved
loop-count-preserved c =
    let here : scan place.Blank (take (c.loop-count.count + 1) c.args.bytes.now) ≡ c.step-line.result = search (rules, scan_more) in
    let on : scan c.step-line.result (take c.unchanged-count.result (drop (c.loop-count.count + 1) c.args.bytes.now)) ≡ c.step-line.result = search rules in
    let left : length c.rest_from.result.now ≡ length c.args.bytes.now - (c.loop-count.count + 1) = ap length c.rest_from.ensures ∙ length-drop (c.loop-count.count + 1) c.args.bytes.now in
    record {
      within = search (rules, left);
      stands = sym (scan_stays c.step-line.result c.args.bytes.now (c.loop-count.count + 1) c.unchanged-count.result here on);
    }

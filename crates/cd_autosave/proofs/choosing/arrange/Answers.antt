use Rattle.std.proofs.Common.{rules, ◌≡◌, ◌∙◌, ap, option_map}
use Rattle.cd_autosave.specs.Places.{other}
use Rattle.cd_autosave.specs.Opening.{kept_of, record_of, gate_for, count_or}
use Rattle.cd_autosave.specs.declared.found.Record.{Record}
use Rattle.cd_autosave.proofs.Choices.{arranged_kept, arranged_opened, slots_equal, small_count}
use Rattle.cd_autosave.proofs.choosing.arrange.Goals as goal

pub returns-clause-kept : goal.returns-clause-kept
returns-clause-kept g c =
    let first = c.args.both.first in
    let second = c.args.both.second in
    let held_r : c.number_in-number.result ≡ option_map (λ (f : Record). f.number) (record_of first.held second.held) = c.number_in-number.ensures.number ∙ ap (option_map (λ (f : Record). f.number)) c.choose-slot.ensures.held in
    let found_is : c.unwrap_or.result ≡ count_or c.number_in-number.result = search rules in
    let next_is = c.other.ensures ∙ ap other c.choose-slot.ensures.slot in
    let next_too = c.other-2.ensures ∙ ap other c.choose-slot.ensures.slot in
    let gate_is = c.gate_of_slot.ensures ∙ ap (λ k. gate_for k first.gate second.gate) next_too in
    let kept_is = c.gate_of_slot-2.ensures ∙ ap (λ k. gate_for k first.gate second.gate) c.choose-slot.ensures.slot in
    arranged_kept g.D.Disk.seen g.D.Disk.left_now c.args.disk first second c.number_in-number.result held_r c.requires.first c.requires.second _
    (slots_equal c.args.disk (kept_of first.held second.held) c.number_in-number.result first.gate second.gate _ _ _ _ found_is next_is gate_is kept_is)
    c.requires.durable (small_count c.number_in-number.result c.number_in-number.ensures.small)

pub returns-clause-opened : goal.returns-clause-opened
returns-clause-opened g c =
    let first = c.args.both.first in
    let second = c.args.both.second in
    let held_r : c.number_in-number.result ≡ option_map (λ (f : Record). f.number) (record_of first.held second.held) = c.number_in-number.ensures.number ∙ ap (option_map (λ (f : Record). f.number)) c.choose-slot.ensures.held in
    let found_is : c.unwrap_or.result ≡ count_or c.number_in-number.result = search rules in
    let next_is = c.other.ensures ∙ ap other c.choose-slot.ensures.slot in
    let next_too = c.other-2.ensures ∙ ap other c.choose-slot.ensures.slot in
    let gate_is = c.gate_of_slot.ensures ∙ ap (λ k. gate_for k first.gate second.gate) next_too in
    let kept_is = c.gate_of_slot-2.ensures ∙ ap (λ k. gate_for k first.gate second.gate) c.choose-slot.ensures.slot in
    arranged_opened g.D.Disk.seen g.D.Disk.left_now c.args.disk first second c.number_in-number.result held_r c.requires.first c.requires.second _ _
    (slots_equal c.args.disk (kept_of first.held second.held) c.number_in-number.result first.gate second.gate _ _ _ _ found_is next_is gate_is kept_is)
    (c.tree_in.ensures.tree ∙ ap (option_map (λ (f : Record). f.tree)) c.choose-slot.ensures.held)

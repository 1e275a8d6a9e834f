use Rattle.std.proofs.Common.{◌≡◌, ◌∙◌, ap}
use Rattle.cd_program.specs.Storm.{storm_line}
use Rattle.cd_program.proofs.Said.{wrote_line}
use Rattle.cd_program.proofs.Storms.{some_line, gave_all}
use Rattle.cd_program.proofs.storm.run_storm.Goals as goal

pub say-requires : goal.say-requires
say-requires g c = some_line c.as_str-2.result.now c.args.number c.in-Ok.done.answered c.in-Ok.done.published c.as_str.result.now (c.as_str-2.ensures ∙ c.in-Ok-storm_line.ensures)

pub returns-in-All : goal.returns-in-All
returns-in-All g c =
    let done = c.in-Ok.done in
    let part = c.say.ensures.part in
    let made : c.in-Ok-storm_line.line ≡ storm_line c.args.number done.answered done.published c.as_str.result.now = c.in-Ok-storm_line.ensures in
    let line : c.as_str-2.result.now ≡ storm_line c.args.number done.answered done.published done.digits = c.as_str-2.ensures ∙ (made ∙ ap (storm_line c.args.number done.answered done.published) c.as_str.ensures) in
    record {
      digits = done.digits;
      stormed = c.in-Ok.ensures;
      wrote = wrote_line c.say.result (storm_line c.args.number done.answered done.published done.digits) c.as_str-2.result.now part.0 (Unit {0})
          (g.O.Sink.holds c.args.out.now) (g.O.Sink.holds c.say.new.out) line part.1 part.2 (λ failed whole. gave_all c.say.result c.in-All.is failed);
    }

pub returns : goal.returns
returns g c =
    let done = c.in-Ok.done in
    let part = c.say.ensures.part in
    let made : c.in-Ok-storm_line.line ≡ storm_line c.args.number done.answered done.published c.as_str.result.now = c.in-Ok-storm_line.ensures in
    let line : c.as_str-2.result.now ≡ storm_line c.args.number done.answered done.published done.digits = c.as_str-2.ensures ∙ (made ∙ ap (storm_line c.args.number done.answered done.published) c.as_str.ensures) in (
      record {
        digits = done.digits;
        stormed = c.in-Ok.ensures;
        wrote = wrote_line c.say.result (storm_line c.args.number done.answered done.published done.digits) c.as_str-2.result.now part.0 ⊥
            (g.O.Sink.holds c.args.out.now) (g.O.Sink.holds c.say.new.out) line part.1 part.2 (λ failed whole. whole);
      },
      c.say.ensures.failed c.in-Failed.is,
    )

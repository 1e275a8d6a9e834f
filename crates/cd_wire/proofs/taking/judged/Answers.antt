use Rattle.std.proofs.Common.{drop, sym, ap, ◌∙◌, inl, Ok}
use Rattle.cd_wire.proofs.TakingLemmas.{refused_no_request, refused_after_head}
use Rattle.cd_wire.proofs.taking.judged.Goals as goal

pub returns-in-Err : goal.returns-in-Err
returns-in-Err c =
    let rest = drop c.args.len c.args.bytes.now in (
      refused_no_request c.args.bytes.now c.args.head rest c.in-Err.fault c.requires.begins (sym c.judge.ensures ∙ c.in-Err.is),
      inl (refused_after_head c.args.bytes.now c.args.head rest c.in-Err.fault c.requires.begins (sym c.judge.ensures ∙ c.in-Err.is)),
    )

pub returns-in-Ok : goal.returns-in-Ok
returns-in-Ok c = (
  c.requires.within,
  c.requires.begins,
  sym c.judge.ensures ∙ c.in-Ok.is ∙ ap Ok c.unread.ensures.framing,
  c.unread.ensures.kept,
  c.marks-marks.ensures.closing,
)

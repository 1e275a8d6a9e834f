use Rattle.std.proofs.Common.{inl, inr, refl}
use Rattle.cd_wire.specs.declared.limits.TheConstants.{MAX_HEAD_BYTES}
use Rattle.cd_wire.proofs.FrontLemmas.{never_head_when_full}
use Rattle.cd_wire.proofs.ScanLemmas.{no_head_yet, no_head_in_part}
use Rattle.cd_wire.proofs.TakingLemmas.{no_head_no_request}
use Rattle.cd_wire.proofs.taking.without_head.Goals as goal

-- it ended so
pub returns-then-ended : goal.returns-then-ended
returns-then-ended c =
    let none = no_head_yet c.args.bytes.now c.requires.none in
    (no_head_no_request c.args.bytes.now none, inr (refl, (c.requires.some, none, inl c.if-ended.true)))

-- it has as many bytes as a head may have
pub returns-then-bytes-ge-MAX_HEAD_BYTES : goal.returns-then-bytes-ge-MAX_HEAD_BYTES
returns-then-bytes-ge-MAX_HEAD_BYTES c =
    let none = no_head_yet c.args.bytes.now c.requires.none in
    let never = never_head_when_full c.args.bytes.now c.if-bytes-ge-MAX_HEAD_BYTES.true (no_head_in_part c.args.bytes.now MAX_HEAD_BYTES c.requires.none) in
    (no_head_no_request c.args.bytes.now none, inr (refl, (c.requires.some, none, inr never)))

-- a head may still come
pub returns : goal.returns
returns c =
    let none = no_head_yet c.args.bytes.now c.requires.none in
    let search = c.args.search in (
      c.if-ended.false,
      (
        no_head_no_request c.args.bytes.now none,
        inl (record {
          short = c.if-bytes-ge-MAX_HEAD_BYTES.false;
          none = none;
          may = record { count = search.parsed; half = c.requires.half; may = c.requires.search.may };
        }),
      ),
      c.requires.search,
    )

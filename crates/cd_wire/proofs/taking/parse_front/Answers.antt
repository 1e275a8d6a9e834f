use Rattle.std.proofs.Common.{subst, inl, inr, refl}
use Rattle.cd_wire.specs.declared.head.HeadRead.{HeadRead}
use Rattle.cd_wire.specs.Taking.{IsFrontRead}
use Rattle.cd_wire.proofs.HeadLemmas.{never_now}
use Rattle.cd_wire.proofs.KeptLemmas.{all_may, all_searched}
use Rattle.cd_wire.proofs.TakingLemmas.{no_head_no_request}
use Rattle.cd_wire.proofs.taking.parse_front.Goals as goal

-- the input ended without a head
pub returns-in-Partial : goal.returns-in-Partial
returns-in-Partial c =
    let read = subst (λ (r : HeadRead). IsFrontRead c.args.bytes.now r) c.in-Partial.is c.in_ok-read.ensures in
    (no_head_no_request c.args.bytes.now read.1, inr (refl, (c.requires.some, read.1, inl c.if-ended.true)))

-- a head may still come
pub returns-in-Partial-2 : goal.returns-in-Partial-2
returns-in-Partial-2 c =
    let read = subst (λ (r : HeadRead). IsFrontRead c.args.bytes.now r) c.in-Partial-2.is c.in_ok-read.ensures in (
      c.if-ended.false,
      (
        no_head_no_request c.args.bytes.now read.1,
        inl (record { short = read.0; none = read.1; may = all_may c.args.bytes.now read.2 }),
      ),
      all_searched c.args.bytes.now c.args.scanned c.requires.scanned read.2,
    )

-- no head can come
pub returns-in-Hopeless : goal.returns-in-Hopeless
returns-in-Hopeless c =
    let read = subst (λ (r : HeadRead). IsFrontRead c.args.bytes.now r) c.in-Hopeless.is c.in_ok-read.ensures in
    let none = never_now c.args.bytes.now read in
    (no_head_no_request c.args.bytes.now none, inr (refl, (c.requires.some, none, inr read)))

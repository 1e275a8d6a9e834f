use Rattle.cd_adapt.proofs.AdaptSteps.{too_long, too_deep, fits}
use Rattle.cd_adapt.proofs.adapting.within_limits.Goals as goal

pub returns-then-made-gt-MAX_TEXT_BYTES : goal.returns-then-made-gt-MAX_TEXT_BYTES
returns-then-made-gt-MAX_TEXT_BYTES c t is other = too_long t c.args.made is c.if-made-gt-MAX_TEXT_BYTES.true

pub returns-then-made-gt-MAX_DEPTH : goal.returns-then-made-gt-MAX_DEPTH
returns-then-made-gt-MAX_DEPTH c t is other = too_deep t c.args.made is c.if-made-gt-MAX_TEXT_BYTES.false c.if-made-gt-MAX_DEPTH.true

pub returns : goal.returns
returns c t is = fits t c.args.made is c.if-made-gt-MAX_TEXT_BYTES.false c.if-made-gt-MAX_DEPTH.false

use Rattle.std.proofs.Common.{◌≡◌, true, sym, subst}
use Rattle.cd_text.specs.Numbers.{IsPlain}
use Rattle.cd_text.proofs.NumberLemmas.{parsed_is_decimal, refused_is_none, other_is_none}
use Rattle.cd_text.proofs.numbers.number_of.Goals as goal

pub returns-then-not-is_plain-clause-none : goal.returns-then-not-is_plain-clause-none
returns-then-not-is_plain-clause-none c =
    other_is_none c.args.text.now
    (λ plain. let yes : c.is_plain.result ≡ true = c.is_plain.ensures.1 (subst IsPlain (sym c.as_bytes.ensures.value) plain) in cc)

pub returns-in-Ok-clause-some : goal.returns-in-Ok-clause-some
returns-in-Ok-clause-some c =
    parsed_is_decimal c.args.text.now c.in-Ok.number (subst IsPlain c.as_bytes.ensures.value (c.is_plain.ensures.0 c.if-not-is_plain.false)) c.in-Ok.ensures.value.0

pub returns-in-Err-clause-none : goal.returns-in-Err-clause-none
returns-in-Err-clause-none c = refused_is_none c.args.text.now c.in-Err.field-0 c.in-Err.ensures.value.0

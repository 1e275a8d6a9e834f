use Rattle.std.proofs.Common.{rules}
use Rattle.cd_fill.proofs.Meanings.{meant_none, meant_escape, meant_plain, some_length, escape_length}
use Rattle.cd_fill.proofs.escapes.first_meant.Goals as goal

pub returns-then-is_empty : goal.returns-then-is_empty
returns-then-is_empty c = meant_none c.args.raw.now (search rules)

pub returns-in-Some : goal.returns-in-Some
returns-in-Some c = rw (c.rest_from.ensures, c.in-Some.ensures.1) (meant_escape c.args.raw.now c.in-Some.ensures.0, escape_length c.args.raw.now c.in-Some.ensures.0)

pub returns-in-None : goal.returns-in-None
returns-in-None c = search (rules, meant_plain, some_length)

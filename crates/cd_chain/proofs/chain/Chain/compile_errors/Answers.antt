use Rattle.std.proofs.Common.{arith}
use Rattle.cd_chain.specs.Laying.{entered_by}
use Rattle.cd_chain.proofs.Standing.{errors_laid}
use Rattle.cd_chain.proofs.chain.Chain.compile_errors.Goals as goal

pub lay_routes-requires : goal.lay_routes-requires
lay_routes-requires c = record { rest = omega arith; entries = c.requires.entries; sound = c.requires.sound }

pub returns-in_ok-begin-in-Some-clause-stands : goal.returns-in_ok-begin-in-Some-clause-stands
returns-in_ok-begin-in-Some-clause-stands c =
    errors_laid (entered_by c.args.plan.now.places.items c.args.compiler.now.entries.now c.args.compiler.now.names.now) c.args.plan.now.places.items c.lay_routes.new.plan.places.items c.in_ok-begin-in-Some.begin c.args.errors c.in-Some.given c.in-Some.is c.in_ok-begin-in-Some.ensures.meaning

use Rattle.std.proofs.Common.{ap, sym, ◌∙◌}
use Rattle.std.specs.Option.{option_copied}
use Rattle.cd_chain.proofs.Layouts.{invoke_added}
use Rattle.cd_chain.proofs.compiling.lay_handler.Goals as goal

pub returns-in_ok-begin-in-Some-clause-meaning : goal.returns-in_ok-begin-in-Some-clause-meaning
returns-in_ok-begin-in-Some-clause-meaning c back =
    invoke_added c.args.names.now c.in-Some.name.now c.args.handler c.args.entries.now c.place_of.result c.entry-inside.result c.args.places.now.items c.add.new.places.items c.args.rest c.in_ok-begin-in-Some.begin back
    (sym c.invoked.ensures ∙ ap option_copied c.in-Some.is) c.place_of.ensures c.entry-inside.ensures c.in_ok-begin-in-Some.ensures.items c.in_ok-begin-in-Some.ensures.number

use Rattle.cd_chain.proofs.naming.lay_one.Goals as goal

pub lay_route-requires : goal.lay_route-requires
lay_route-requires c = record { rest = c.requires.rest; entries = c.requires.entries; sound = c.requires.sound }

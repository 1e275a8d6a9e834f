use Rattle.cd_desk.proofs.Emptied.{nothing_held, all_closed}
use Rattle.cd_desk.proofs.desk.Desk.end.Goals as goal

pub end_books-requires : goal.end_books-requires
end_books-requires g c = record {
  held = nothing_held g.F.Fixtures.calls c.args.self c.requires;
  closed = all_closed g.F.Fixtures.calls c.args.self c.requires;
}

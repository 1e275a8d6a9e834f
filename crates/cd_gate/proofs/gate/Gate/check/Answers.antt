use Rattle.std.proofs.Common.{rules, ap}
use Rattle.cd_gate.proofs.Passes.{stays, keeps_checked}
use Rattle.cd_gate.proofs.RequestSteps.{looks_for_room, room_of, none_of}
use Rattle.cd_gate.proofs.gate.Gate.check.Goals as goal

pub load-found-requires : goal.load-found-requires
load-found-requires g c = (search rules, search rules, looks_for_room g.T.Stands.stands c.args.self.now.table.shared.key.value _ _ c.args.pass.now.seat.me c.requires.pass.1)

pub returns-clause-pass : goal.returns-clause-pass
returns-clause-pass g c =
    let t = c.load-found.ensures.2 in
    stays c.args.self.now.table.shared.table_id c.args.self.now.table.shared.key.value c.args.pass.now.number c.args.pass.now.seat.table_id c.load-found.new.seat.table_id c.args.pass.now.seat.me c.load-found.new.seat.me c.load-found.ensures.0 (ap (λ m. m.1) t.3) (keeps_checked _ _ t.0 _ (ap (λ m. m.0) t.3)) c.requires.pass

pub returns-clause-room : goal.returns-clause-room
returns-clause-room g c = λ is. let t = room_of c.args.pass.now.seat.me c.load-found.new.seat.me c.load-found.result c.load-found.ensures.2 is in (t.0, t.1, t.2, ap (λ m. m.0) t.3)

pub returns-clause-worn : goal.returns-clause-worn
returns-clause-worn g c = λ is. let t = none_of c.args.pass.now.seat.me c.load-found.new.seat.me c.load-found.result c.load-found.ensures.2 is in (t.0, t.1, t.2, ap (λ m. m.0) t.3)

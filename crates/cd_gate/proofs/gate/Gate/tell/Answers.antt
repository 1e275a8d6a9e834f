use Rattle.std.proofs.Common.{rules, ◌≡◌, sym, ap, ◌∙◌, subst, List}
use mathlib.Core.Option.{some}
use mathlib.Core.List.{IsPrefix}
use lib.ListN.{get_elem?}
use Rattle.cd_legal.specs.declared.entry.Signed.{Signed}
use Rattle.cd_gate.specs.declared.view.View.{View}
use Rattle.cd_gate.specs.Steps.{messenger}
use Rattle.cd_gate.proofs.SeatSteps.{sends_out, hears, compares_lists}
use Rattle.cd_gate.proofs.gate.Gate.tell.Goals as goal

pub split_seat-messenger-requires : goal.split_seat-messenger-requires
split_seat-messenger-requires g c = (search rules, search rules, sends_out g.T.Stands.stands c.args.self.now.table.shared.key.value _ _)

pub join_seat-requires : goal.join_seat-requires
join_seat-requires g c =
    let sent : c.split_seat-messenger.result.me.0 ≡ messenger c.args.from.now.seat.me.0.seen = ap (λ m. m.0) c.split_seat-messenger.ensures.4 in (
      search rules,
      search rules,
      search rules,
      search rules,
      hears g.T.Stands.stands c.args.self.now.table.shared.key.value _ _ _ _ (ap (λ (v : View g.row.T.Denot). v.live) sent),
    )

pub load-requires : goal.load-requires
load-requires g c = (search rules, search rules, compares_lists g.T.Stands.stands c.args.self.now.table.shared.key.value _ _ _)

pub returns-clause-seen : goal.returns-clause-seen
returns-clause-seen g c =
    let t = c.load.ensures.2 in
    let joined = ap (λ m. m.0) c.join_seat.ensures.2 in
    let sent : c.split_seat-messenger.result.me.0.seen ≡ c.args.from.now.seat.me.0.seen = ap (λ m. m.0.seen) c.split_seat-messenger.ensures.4 in
    let older = ap (λ (v : View g.row.T.Denot). v.older) joined in
    let seen = ap (λ m. m.0.seen) t.0 in
    let one = t.1 0 c.args.to.now.seat.me.0.seen (ap (λ l. get_elem? l 0) older) in
    let two = t.1 1 c.args.from.now.seat.me.0.seen (ap (λ l. get_elem? l 1) older ∙ ap (λ (l : List Signed). some l) sent) in
    (subst (λ l. IsPrefix c.args.to.now.seat.me.0.seen l) (sym seen) one, subst (λ l. IsPrefix c.args.from.now.seat.me.0.seen l) (sym seen) two)

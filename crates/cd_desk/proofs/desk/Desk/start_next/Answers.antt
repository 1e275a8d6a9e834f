use Rattle.std.proofs.Common.{◌≡◌, is_err, ap, subst, rules}
use Rattle.cd_desk.specs.Instances.{failed_of}
use Rattle.cd_desk.specs.Lefts.{IsLeft, one_started}
use Rattle.cd_desk.proofs.Counts.{can_start, started_left, started_entry}
use Rattle.cd_desk.proofs.desk.Desk.start_next.Goals as goal

pub start-started-requires : goal.start-started-requires
start-started-requires g c = record { can = can_start c.args.self.now.books c.requires.at.0 c.args.left.now c.requires.at.1 c.requires.ready c.requires.more c.requires.unfailed }

pub returns-in-Err-clause-entry : goal.returns-in-Err-clause-entry
returns-in-Err-clause-entry g c = started_entry g.F.Fixtures.calls c.args.self.now c.start-started.new.self c.requires.at.0 c.args.left.now c.start-started.result _ (ap failed_of c.in-Err.is) c.requires.at.1 c.start-started.ensures.entry

pub returns-in-Err-clause-at : goal.returns-in-Err-clause-at
returns-in-Err-clause-at g c t left =
    let e = c.start-started.ensures.entry in
    let failed : is_err c.start-started.result ≡ c.is_err-left.result = search rules in
    subst (λ z. IsLeft c.start-started.new.self.books t (one_started c.args.left.now z)) failed (started_left c.args.self.now.books c.start-started.new.self.books c.args.left.now e.place _ _ c.start-started.result e.at e.opens t left)

pub returns-clause-entry : goal.returns-clause-entry
returns-clause-entry g c = started_entry g.F.Fixtures.calls c.args.self.now c.start-started.new.self c.requires.at.0 c.args.left.now c.start-started.result _ (ap failed_of c.in_default.is) c.requires.at.1 c.start-started.ensures.entry

pub returns-clause-at : goal.returns-clause-at
returns-clause-at g c t left =
    let e = c.start-started.ensures.entry in
    let failed : is_err c.start-started.result ≡ c.is_err-left.result = search rules in
    subst (λ z. IsLeft c.start-started.new.self.books t (one_started c.args.left.now z)) failed (started_left c.args.self.now.books c.start-started.new.self.books c.args.left.now e.place _ _ c.start-started.result e.at e.opens t left)

use Rattle.std.proofs.Common.{◌≡◌, is_err, ap, subst, rules}
use Rattle.cd_desk.specs.Instances.{failed_of}
use Rattle.cd_desk.specs.Lefts.{IsLeft, one_made}
use Rattle.cd_desk.proofs.Counts.{can_make, made_left, made_entry}
use Rattle.cd_desk.proofs.desk.Desk.make_next.Goals as goal

pub make-made-requires : goal.make-made-requires
make-made-requires g c = record { can = can_make c.args.self.now.books c.requires.at.0 c.args.left.now c.requires.at.1 c.requires.more c.requires.unfailed }

pub returns-in-Err-clause-entry : goal.returns-in-Err-clause-entry
returns-in-Err-clause-entry g c = made_entry g.F.Fixtures.calls c.args.self.now c.make-made.new.self c.requires.at.0 c.args.left.now c.make-made.result _ (ap failed_of c.in-Err.is) c.requires.at.1 c.make-made.ensures.entry

pub returns-in-Err-clause-at : goal.returns-in-Err-clause-at
returns-in-Err-clause-at g c t left =
    let e = c.make-made.ensures.entry in
    let failed : is_err c.make-made.result ≡ c.is_err-left.result = search rules in
    subst (λ z. IsLeft c.make-made.new.self.books t (one_made c.args.left.now z)) failed (made_left c.args.self.now.books c.make-made.new.self.books c.args.left.now e.place _ _ c.make-made.result e.at e.opens t left)

pub returns-clause-entry : goal.returns-clause-entry
returns-clause-entry g c = made_entry g.F.Fixtures.calls c.args.self.now c.make-made.new.self c.requires.at.0 c.args.left.now c.make-made.result _ (ap failed_of c.in_default.is) c.requires.at.1 c.make-made.ensures.entry

pub returns-clause-at : goal.returns-clause-at
returns-clause-at g c t left =
    let e = c.make-made.ensures.entry in
    let failed : is_err c.make-made.result ≡ c.is_err-left.result = search rules in
    subst (λ z. IsLeft c.make-made.new.self.books t (one_made c.args.left.now z)) failed (made_left c.args.self.now.books c.make-made.new.self.books c.args.left.now e.place _ _ c.make-made.result e.at e.opens t left)

use Rattle.std.proofs.Common.{rules, ◌≡◌, None, refl, sym, subst}
use Rattle.cd_gate.specs.Passes.{view}
use Rattle.cd_hall.specs.Caches.{IsCacheOf}
use Rattle.cd_hall.specs.Requests.{BegunNow}
use Rattle.cd_hall.proofs.Cached.{cached_is, cache_stays, ticket_ready, begun_seen, begun_history, worn_seen, worn_history}
use Rattle.cd_hall.proofs.hall.Hall.begin_now.Goals as goal

pub returns-in_default-clause-cache : goal.returns-in_default-clause-cache
returns-in_default-clause-cache g c =
    let v = view c.args.pass.now in
    let w = view c.begin_request.new.pass in
    let none : c.begin_request.result ≡ None = search rules in
    let is = c.begin_request.ensures.worn none in
    cache_stays v w c.args.cache.now c.requires.cache (worn_seen v w is) (worn_history v w is)

pub returns-in-Some-take_at-clause-ready : goal.returns-in-Some-take_at-clause-ready
returns-in-Some-take_at-clause-ready g c =
    let v = view c.args.pass.now in
    let w = view c.begin_request.new.pass in
    let b = c.in-Some.ensures.begun in
    let h = c.in-Some-take_at.ensures.here in
    let t = c.in-Some-take_at.ticket in (
      b.0,
      subst (λ n. BegunNow v w n b.0) (sym h.1) b.1,
      cached_is c.args.cache.now t h.0,
      h.2,
      ticket_ready v w c.args.cache.now t c.in-Some.serial b.0 c.requires.cache h.0 h.1 b.1,
    )

pub returns-in-Some-take_at-clause-taken : goal.returns-in-Some-take_at-clause-taken
returns-in-Some-take_at-clause-taken g c = let h = c.in-Some-take_at.ensures.here in h.0

pub returns-in-None-clause-cache : goal.returns-in-None-clause-cache
returns-in-None-clause-cache g c =
    let v = view c.args.pass.now in
    let w = view c.begin_request.new.pass in
    let b = c.in-Some.ensures.begun in
    let same = (c.in-None.ensures.other refl).1 in
    subst (λ z. IsCacheOf w z) (sym same) (cache_stays v w c.args.cache.now c.requires.cache (begun_seen v w c.in-Some.serial b.0 b.1) (begun_history v w c.in-Some.serial b.0 b.1))

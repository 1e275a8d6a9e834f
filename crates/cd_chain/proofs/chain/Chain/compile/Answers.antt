use Rattle.std.proofs.Common.{◌≡◌, ap, sym, subst, ◌∙◌, arith}
use Rattle.cd_routes.specs.Named.{named_routes}
use Rattle.cd_chain.specs.Laying.{AreLaid, entered_by}
use Rattle.cd_chain.proofs.Layouts.{entered_kept}
use Rattle.cd_chain.proofs.Standing.{chain_stands, routes_stand, errors_named}
use Rattle.cd_chain.proofs.chain.Chain.compile.Goals as goal

pub lay_routes-requires : goal.lay_routes-requires
lay_routes-requires c = record {
  rest = omega arith;
  entries = subst (AreLaid c.in_ok-layout.layout.plan.places.items) (sym c.as_slice.ensures.value) c.in_ok-layout.ensures.laid;
  sound = c.in_ok-layout.ensures.sound;
}

pub returns : goal.returns
returns c =
    let l = c.in_ok-layout.layout in
    let names = l.names in
    let entries = c.as_slice.result.now in
    let places = c.lay_routes.new.plan.places.items in
    let first : entered_by l.plan.places.items entries names ≡ named_routes c.args.named =
    ap (λ es. entered_by l.plan.places.items es names) c.as_slice.ensures.value ∙ c.in_ok-layout.ensures.named in
    let second : entered_by places entries names ≡ named_routes c.args.named =
    ap (λ es. entered_by places es names) c.as_slice.ensures.value
    ∙ entered_kept l.plan.places.items places l.entries.items l.names c.in_ok-layout.ensures.laid c.in_ok-main.ensures.grows ∙ c.in_ok-layout.ensures.named in
    chain_stands _ c.compile_errors.new.plan.places.items c.args.routes c.args.errors c.args.named c.from_vec.ensures
    (routes_stand (entered_by l.plan.places.items entries names) c.args.named l.plan.places.items places c.compile_errors.new.plan.places.items c.in_ok-main.main c.args.routes first c.in_ok-main.ensures.meaning c.in_ok-main.ensures.within c.in_ok-failing.ensures.grows)
    (errors_named c.compile_errors.new.plan.places.items c.in_ok-failing.failing (entered_by places entries names) (named_routes c.args.named) c.args.errors second c.in_ok-failing.ensures.stands)

use Rattle.std.proofs.Common.{rules, ◌≡◌, length}
use Rattle.cd_caddyfile.specs.Matchers.{with_value}
use Rattle.cd_parts.proofs.PlaceSteps.{name_put, places_added}
use Rattle.cd_parts.proofs.names.add_name.Goals as goal

pub returns-in-Ok-clause-places : goal.returns-in-Ok-clause-places
returns-in-Ok-clause-places c =
    let made : c.push_name.new.all.items ≡ with_value c.args.name.now c.args.value c.args.all.now.items = search (rules, name_put) in
    let all : c.len-at.result ≡ length c.args.all.now.items = search rules in
    places_added c.args.name.now c.args.value c.args.all.now.items c.push_name.new.all.items c.args.places.now c.insert.new.self c.len-at.result c.requires.places
    c.requires.absent all c.in-Ok.ensures.updates made

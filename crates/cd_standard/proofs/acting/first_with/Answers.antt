use Rattle.std.proofs.Common.{◌∙◌, sym, refl, rules}
use Rattle.std.proofs.lemmas.Option.{slice_get_read}
use Rattle.cd_standard.specs.Compiled.{has_address}
use Rattle.cd_standard.proofs.Finding.{found_first}
use Rattle.cd_standard.proofs.acting.first_with.Goals as goal

pub returns-then-has_address : goal.returns-then-has_address
returns-then-has_address c =
    let servers = c.args.servers.now in
    let place = c.loop-place.place in
    let server = c.index-servers-place.result in (
      server,
      sym c.loop-place.invariant ∙ found_first (has_address c.args.at.now) servers place server c.loop-place-test.true c.index-servers-place.is (search rules),
      slice_get_read servers _ place server refl c.loop-place-test.true c.index-servers-place.is,
    )

use Rattle.cd_caddyfile.specs.Blocks.{file_lines}
use Rattle.cd_caddyfile.specs.Faults.{defined}
use Rattle.cd_caddyfile.specs.FileSites.{tested, tests_named, sites}
use Rattle.cd_caddyfile.specs.Walk.{walk}
use Rattle.cd_caddyfile.specs.declared.within.Within.TheVariants as place
use Rattle.cd_site.proofs.Files.{sites_fit}
use Rattle.cd_site.proofs.Whole.{sites_answer_at}
use Rattle.cd_site.proofs.file_law.caddyfiles_mean_their_sites.Goals as goal

pub returns : goal.returns
returns c bytes plan port q fine some =
    let fit = sites_fit (tests_named (walk defined place.File (file_lines bytes)) (walk tested place.File (file_lines bytes))) (file_lines bytes) in
    sites_answer_at (sites bytes) plan port q fit.0 fit.1 some fine

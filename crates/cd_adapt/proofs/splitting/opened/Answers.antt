use Rattle.std.proofs.Common.{List, sym, ap, ◌∙◌, Some, None}
use Rattle.cd_caddyfile.specs.Addresses.{address_of}
use Rattle.cd_caddyfile.specs.Blocks.{preceded_by}
use Rattle.cd_caddyfile.specs.declared.line.Line.{Line}
use Rattle.cd_adapt.specs.Splitting.{sites_left}
use Rattle.cd_adapt.specs.declared.splitting.Numbered.{Numbered}
use Rattle.cd_adapt.proofs.SplitSteps.{open_here, opens_site, says_outside, closes_outside}
use Rattle.cd_adapt.proofs.TextSteps.{address_text}
use Rattle.cd_adapt.specs.Splitting.{HasTextHost}
use Rattle.cd_caddyfile.specs.declared.address.Address.{Address}
use Rattle.std.specs.Prelude.{IfSome}
use Rattle.std.proofs.Common.{Option, refl, subst}
use Rattle.cd_adapt.proofs.splitting.opened.Goals as goal

pub returns-in-Closes-clause-sites : goal.returns-in-Closes-clause-sites
returns-in-Closes-clause-sites c tests_of after =
    ap (λ (l : Line). sites_left tests_of None (preceded_by c.args.number l after)) c.in-Closes.is ∙ closes_outside tests_of c.args.number after

pub returns-in-Opens-clause-sites : goal.returns-in-Opens-clause-sites
returns-in-Opens-clause-sites c tests_of after =
    ap (λ (l : Line). sites_left tests_of None (preceded_by c.args.number l after)) c.in-Opens.is
    ∙ (opens_site tests_of c.args.number c.in-Opens.words c.in_ok-address-in-Opens.address after (c.in_ok-address-in-Opens.ensures ∙ ap address_of c.as_slice.ensures)
    ∙ ap (λ (ls : List Numbered). sites_left tests_of (Some (record { line = c.args.number; address = c.in_ok-address-in-Opens.address; lines = ls; levels = 0 })) after) (sym c.new.ensures))

pub returns-in-Says-clause-sites : goal.returns-in-Says-clause-sites
returns-in-Says-clause-sites c tests_of after =
    ap (λ (l : Line). sites_left tests_of None (preceded_by c.args.number l after)) c.in-Says.is ∙ says_outside tests_of c.args.number c.in-Says.field-0 after

pub returns-in-Opens-clause-open : goal.returns-in-Opens-clause-open
returns-in-Opens-clause-open c =
    open_here (record { line = c.args.number; address = c.in_ok-address-in-Opens.address; lines = c.new.result; levels = 0 }) c.new.ensures refl (subst (λ (a : Option Address). IfSome a HasTextHost) (sym c.in_ok-address-in-Opens.ensures) (address_text c.as_slice.result.now))

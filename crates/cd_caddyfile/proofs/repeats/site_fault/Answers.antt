use Rattle.std.proofs.Common.{refl, sym, ap, not, ◌∙◌, ◌++◌, ◌+◌, take, drop}
use Rattle.cd_caddyfile.specs.Faults.{sooner, first_fault, fault_where, repeated_sites}
use Rattle.cd_caddyfile.specs.declared.fault.CaddyfileKind.TheVariants.{RepeatedSite}
use Rattle.cd_caddyfile.specs.declared.named.Located.{Located}
use Rattle.cd_caddyfile.proofs.KeySteps.{not_not, no_addresses, addresses_more, address_known}
use Rattle.cd_caddyfile.proofs.RepeatSteps.{blame_on, site_fault, sites_step}
use Rattle.cd_caddyfile.proofs.repeats.site_fault.Goals as goal

pub each_site-init : goal.each_site-init
each_site-init c = record { addresses = no_addresses c.new-addresses.result c.new-addresses.ensures.empty; fault = refl }

pub each_site-preserved : goal.each_site-preserved
each_site-preserved c =
    let i = c.each_site.site-index in
    let all = c.args.sites.now in
    let x = c.site-item.result in
    let k = c.site_key_of.result in
    let port-is = c.site_key_of.ensures.port in
    let host-is = c.site_key_of.ensures.host in
    record {
      addresses = addresses_more c.each_site.addresses c.insert.new.self all i x k c.each_site-test.true
          (port-is ∙ ap (λ (s : Located). s.address.port) c.site-item.is) (host-is ∙ ap (λ (s : Located). s.address.host) c.site-item.is)
          c.each_site.invariant.addresses (λ q. c.in_ok-is_new.ensures.updates.0 q);
      fault = blame_on _ c.each_site.fault c.sooner-fault.result (site_fault (take i all) x) _ _ c.each_site.invariant.fault
          (sites_step all i x c.each_site-test.true
          ∙ ap (λ (s : Located). site_fault (take i all) s ++ repeated_sites (take (i + 1) all) (drop (i + 1) all)) (sym c.site-item.is))
          (c.sooner-fault.ensures ∙ ap (λ f. sooner c.each_site.fault f) (c.fault_where-here.ensures
          ∙ ap (λ b. first_fault (fault_where b x.line RepeatedSite)) (ap not c.in_ok-is_new.ensures.added
          ∙ (not_not _ ∙ address_known c.each_site.addresses (take i all) x k port-is host-is c.each_site.invariant.addresses))));
    }

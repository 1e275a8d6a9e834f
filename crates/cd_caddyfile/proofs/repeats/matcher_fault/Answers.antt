use Rattle.std.proofs.Common.{refl, sym, ap, not, ◌∙◌, ◌++◌, ◌+◌, take, drop}
use Rattle.cd_caddyfile.specs.Faults.{sooner, first_fault, fault_where, repeated_matchers, unknown_matchers}
use Rattle.cd_caddyfile.specs.declared.fault.CaddyfileKind.TheVariants.{RepeatedMatcher, UnknownMatcher}
use Rattle.cd_caddyfile.specs.declared.named.Named.{Named}
use Rattle.cd_caddyfile.proofs.KeySteps.{not_not, no_names, names_more, name_known}
use Rattle.cd_caddyfile.proofs.RepeatSteps.{blame_on, matcher_fault, matchers_step, use_fault, uses_step}
use Rattle.cd_caddyfile.proofs.repeats.matcher_fault.Goals as goal

pub each_defined-init : goal.each_defined-init
each_defined-init c = record { names = no_names c.new-names.result c.new-names.ensures.empty; repeated = refl }

pub each_defined-preserved : goal.each_defined-preserved
each_defined-preserved c =
    let i = c.each_defined.matcher-index in
    let all = c.args.defined.now in
    let x = c.matcher-item.result in
    let k = c.key_of.result in
    let site-is = c.key_of.ensures.site in
    let name-is = c.key_of.ensures.name in
    record {
      names = names_more c.each_defined.names c.insert.new.self all i x k c.each_defined-test.true
          (site-is ∙ ap (λ (m : Named). m.site) c.matcher-item.is) (name-is ∙ ap (λ (m : Named). m.name) c.matcher-item.is)
          c.each_defined.invariant.names (λ q. c.in_ok-is_new.ensures.updates.0 q);
      repeated = blame_on _ c.each_defined.repeated c.sooner-repeated.result (matcher_fault (take i all) x) _ _ c.each_defined.invariant.repeated
          (matchers_step all i x c.each_defined-test.true
          ∙ ap (λ (m : Named). matcher_fault (take i all) m ++ repeated_matchers (take (i + 1) all) (drop (i + 1) all)) (sym c.matcher-item.is))
          (c.sooner-repeated.ensures ∙ ap (λ f. sooner c.each_defined.repeated f) (c.fault_where-here.ensures
          ∙ ap (λ b. first_fault (fault_where b x.line RepeatedMatcher)) (ap not c.in_ok-is_new.ensures.added
          ∙ (not_not _ ∙ name_known c.each_defined.names (take i all) x k site-is name-is c.each_defined.invariant.names))));
    }

pub each_used-preserved : goal.each_used-preserved
each_used-preserved c =
    let i = c.each_used.matcher-index in
    let all = c.args.defined.now in
    let x = c.matcher-item-in-each_used.result in
    record {
      names = c.each_used.invariant.names;
      unknown = blame_on _ c.each_used.unknown c.sooner-unknown.result (use_fault all x) _ _ c.each_used.invariant.unknown
          (uses_step all c.args.used.now i x c.each_used-test.true
          ∙ ap (λ (m : Named). use_fault all m ++ unknown_matchers all (drop (i + 1) c.args.used.now)) (sym c.matcher-item-in-each_used.is))
          (c.sooner-unknown.ensures ∙ ap (λ f. sooner c.each_used.unknown f) (c.fault_where-here-in-each_used.ensures
          ∙ ap (λ b. first_fault (fault_where (not b) x.line UnknownMatcher)) (c.contains-is_known.ensures
          ∙ name_known c.each_defined.names all x c.key_of-in-each_used.result c.key_of-in-each_used.ensures.site c.key_of-in-each_used.ensures.name c.each_used.invariant.names)));
    }

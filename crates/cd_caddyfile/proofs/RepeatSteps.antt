-- What each site and each matcher does to the first fault.
use Rattle.std.proofs.Common.{◌≡◌, ℕ, suc, ◌+◌, ◌<◌, true, not, List, [], ◌∷◌, ◌++◌, length, get_or, take, drop, map, reverse, refl, sym, ap, ◌∙◌, add-one, drop-cons, Option, Some, None}
use Rattle.std.specs.List.{list_any}
use Rattle.std.proofs.lemmas.List.{take_more}
use Rattle.cd_caddyfile.specs.Faults.{sooner, first_fault, fault_at, fault_where, same_address, same_matcher, repeated_sites, repeated_matchers, unknown_matchers}
use Rattle.cd_caddyfile.specs.Left.{opening_lines}
use Rattle.cd_caddyfile.specs.declared.fault.CaddyfileFault.{CaddyfileFault}
use Rattle.cd_caddyfile.specs.declared.fault.CaddyfileKind.TheVariants.{BadBlock, RepeatedSite, RepeatedMatcher, UnknownMatcher}
use Rattle.cd_caddyfile.specs.declared.named.Located.{Located}
use Rattle.cd_caddyfile.specs.declared.named.Named.{Named}
use Rattle.cd_caddyfile.specs.declared.reader.OpenBlock.{OpenBlock}
use Rattle.cd_caddyfile.proofs.Sooner.{sooner-assoc, first_of_both}
use Rattle.cd_caddyfile.proofs.ReaderSteps.{pushed}

pub no_sooner : (f : Option CaddyfileFault) → sooner f None ≡ f
no_sooner None = refl
no_sooner (Some f) = refl

-- a fault more
pub blame_on : (total old new : Option CaddyfileFault) (said whole rest : List CaddyfileFault) → total ≡ sooner old (first_fault whole) → whole ≡ said ++ rest →
    new ≡ sooner old (first_fault said) → total ≡ sooner new (first_fault rest)
blame_on total old new said whole rest known whole-is new-is =
    known ∙ (ap (λ w. sooner old (first_fault w)) whole-is ∙ (ap (λ f. sooner old f) (first_of_both said rest)
    ∙ sym (ap (λ n. sooner n (first_fault rest)) new-is ∙ sooner-assoc old (first_fault said) (first_fault rest))))

-- none is left
pub blame_ends : (total found : Option CaddyfileFault) (rest : List CaddyfileFault) → total ≡ sooner found (first_fault rest) → rest ≡ [] → found ≡ total
blame_ends total found rest known is = sym (known ∙ (ap (λ r. sooner found (first_fault r)) is ∙ no_sooner found))

abbrev pub site_fault : List Located → Located → List CaddyfileFault
site_fault before s = fault_where (list_any (λ (other : Located). same_address other.address s.address) before) s.line RepeatedSite

pub sites_step : (all : List Located) (i : ℕ) (d : Located) → i < length all →
    repeated_sites (take i all) (drop i all) ≡ site_fault (take i all) (get_or all i d) ++ repeated_sites (take (i + 1) all) (drop (i + 1) all)
sites_step all i d within =
    ap (λ l. repeated_sites (take i all) l) (drop-cons all i d within)
    ∙ (ap (λ t. site_fault (take i all) (get_or all i d) ++ repeated_sites t (drop (suc i) all)) (sym (take_more all i d within))
    ∙ ap (λ k. site_fault (take i all) (get_or all i d) ++ repeated_sites (take (i + 1) all) (drop k all)) (sym (add-one i)))

abbrev pub matcher_fault : List Named → Named → List CaddyfileFault
matcher_fault before m = fault_where (list_any (λ (other : Named). same_matcher other m) before) m.line RepeatedMatcher

pub matchers_step : (all : List Named) (i : ℕ) (d : Named) → i < length all →
    repeated_matchers (take i all) (drop i all) ≡ matcher_fault (take i all) (get_or all i d) ++ repeated_matchers (take (i + 1) all) (drop (i + 1) all)
matchers_step all i d within =
    ap (λ l. repeated_matchers (take i all) l) (drop-cons all i d within)
    ∙ (ap (λ t. matcher_fault (take i all) (get_or all i d) ++ repeated_matchers t (drop (suc i) all)) (sym (take_more all i d within))
    ∙ ap (λ k. matcher_fault (take i all) (get_or all i d) ++ repeated_matchers (take (i + 1) all) (drop k all)) (sym (add-one i)))

abbrev pub use_fault : List Named → Named → List CaddyfileFault
use_fault all m = fault_where (not (list_any (λ (other : Named). same_matcher other m) all)) m.line UnknownMatcher

pub uses_step : (defined all : List Named) (i : ℕ) (d : Named) → i < length all →
    unknown_matchers defined (drop i all) ≡ use_fault defined (get_or all i d) ++ unknown_matchers defined (drop (i + 1) all)
uses_step defined all i d within =
    ap (λ l. unknown_matchers defined l) (drop-cons all i d within)
    ∙ ap (λ k. use_fault defined (get_or all i d) ++ unknown_matchers defined (drop k all)) (sym (add-one i))

-- a block that is left open
abbrev pub block_faults : List OpenBlock → List CaddyfileFault
block_faults bs = map (λ n. fault_at n BadBlock) (opening_lines (reverse bs))

pub blocks_step : (bs bs' : List OpenBlock) (b : OpenBlock) → bs ≡ bs' ++ b ∷ [] → block_faults bs ≡ fault_where true b.line BadBlock ++ block_faults bs'
blocks_step bs bs' b is = ap (λ l. map (λ n. fault_at n BadBlock) (opening_lines l)) (pushed bs' bs b is)

pub none_open : (bs : List OpenBlock) → bs ≡ [] → block_faults bs ≡ []
none_open bs is = ap block_faults is

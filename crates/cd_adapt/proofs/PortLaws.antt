-- The sites of a port, as they are gathered.
use Rattle.std.proofs.Common.{◌≡◌, ℕ, suc, ◌+◌, ◌≤◌, ◌<◌, ◌==◌, ◌&&◌, Bool, true, false, if◌then◌else◌, List, [], ◌∷◌, ◌++◌, length, map, filter, get_or, drop, is_some, refl, sym, ap, subst, ◌∙◌, append_assoc, append-nil, add-one, drop-cons, arith}
use Rattle.std.specs.List.{All}
use Rattle.std.proofs.lemmas.List.{drop_all}
use Rattle.std.proofs.lemmas.List.Elements.{All-append, All-filter}
use Rattle.std.proofs.lemmas.List.Sums.{sum_by-append, sum_by-cons}
use Rattle.cd_adapt.specs.Ports.{and_site, has_host, is_served}
use Rattle.cd_adapt.specs.Splitting.{IsWhole, size_of}
use Rattle.cd_adapt.specs.declared.splitting.SiteLines.{SiteLines}

-- ---- one site after another

next-site : (i : ℕ) (all : List SiteLines) (x : SiteLines) → i < length all → x ≡ get_or all i x → drop i all ≡ x ∷ drop (i + 1) all
next-site i all x within is = drop-cons all i x within ∙ (ap (λ s. s ∷ drop (suc i) all) (sym is) ∙ ap (λ k. x ∷ drop k all) (sym (add-one i)))

-- a site of those that are added, at the port or not
added-if : (here : Bool) (port : ℕ) (h : Bool) (x : SiteLines) (xs old : List SiteLines) → (x.address.port == port) ≡ here → has_host h x ≡ true →
    and_site port x old ++ filter (is_served port h) xs ≡ old ++ filter (is_served port h) (x ∷ xs)
added-if true port h x xs old here-is has = rw (here-is, has) (append_assoc old (x ∷ []) (filter (is_served port h) xs))
added-if false port h x xs old here-is has = rw here-is refl

-- another
passed-if : (here : Bool) (port : ℕ) (h : Bool) (x : SiteLines) (xs : List SiteLines) → (x.address.port == port) ≡ here → has_host h x ≡ false →
    filter (is_served port h) xs ≡ filter (is_served port h) (x ∷ xs)
passed-if true port h x xs here-is has = rw (here-is, has) refl
passed-if false port h x xs here-is has = rw here-is refl

module _ (port : ℕ) (h : Bool) (i : ℕ) (all : List SiteLines) (x : SiteLines) (within : i < length all) (is : x ≡ get_or all i x) where
  pub site_on : (old new whole : List SiteLines) → has_host h x ≡ true → new ≡ and_site port x old →
      old ++ filter (is_served port h) (drop i all) ≡ whole → new ++ filter (is_served port h) (drop (i + 1) all) ≡ whole
  site_on old new whole has new-is known =
      ap (λ l. l ++ filter (is_served port h) (drop (i + 1) all)) new-is
      ∙ (added-if (x.address.port == port) port h x (drop (i + 1) all) old refl has
      ∙ (sym (ap (λ l. old ++ filter (is_served port h) l) (next-site i all x within is)) ∙ known))

  pub site_past : (old whole : List SiteLines) → has_host h x ≡ false →
      old ++ filter (is_served port h) (drop i all) ≡ whole → old ++ filter (is_served port h) (drop (i + 1) all) ≡ whole
  site_past old whole has known =
      ap (λ l. old ++ l) (passed-if (x.address.port == port) port h x (drop (i + 1) all) refl has)
      ∙ (sym (ap (λ l. old ++ filter (is_served port h) l) (next-site i all x within is)) ∙ known)

-- all have been looked at
pub sites_done : (port : ℕ) (h : Bool) (i : ℕ) (all made whole : List SiteLines) → length all ≤ i → made ++ filter (is_served port h) (drop i all) ≡ whole → made ≡ whole
sites_done port h i all made whole over known =
    sym (append-nil made) ∙ (sym (ap (λ l. made ++ filter (is_served port h) l) (drop_all i all over)) ∙ known)

-- ---- the sites of a port are some of all

pub size-cons : (x : SiteLines) (xs : List SiteLines) → size_of (x ∷ xs) ≡ suc (length x.lines) + size_of xs
size-cons x xs = sum_by-cons (λ (s : SiteLines). suc (length s.lines)) x xs

fewer-if : (at has : Bool) (port : ℕ) (x : SiteLines) (xs : List SiteLines) → (x.address.port == port) ≡ at → is_some x.address.host ≡ has →
    size_of (filter (is_served port true) xs) + size_of (filter (is_served port false) xs) ≤ size_of xs →
    size_of (filter (is_served port true) (x ∷ xs)) + size_of (filter (is_served port false) (x ∷ xs)) ≤ size_of (x ∷ xs)
fewer-if true true port x xs p q known = rw (p, q) (omega (arith, known, size-cons x xs, size-cons x (filter (is_served port true) xs)))
fewer-if true false port x xs p q known = rw (p, q) (omega (arith, known, size-cons x xs, size-cons x (filter (is_served port false) xs)))
fewer-if false has port x xs p q known = rw p (omega (arith, known, size-cons x xs))

fewer : (port : ℕ) (xs : List SiteLines) → size_of (filter (is_served port true) xs) + size_of (filter (is_served port false) xs) ≤ size_of xs
fewer port [] = omega arith
fewer port (x ∷ xs) = fewer-if (x.address.port == port) (is_some x.address.host) port x xs refl refl (fewer port xs)

module _ (port : ℕ) (sites all : List SiteLines) (is : sites ≡ filter (is_served port true) all ++ filter (is_served port false) all) where
  pub whole_served : All IsWhole all → All IsWhole sites
  whole_served whole =
      subst (All IsWhole) (sym is) (All-append IsWhole (filter (is_served port true) all) (filter (is_served port false) all)
      (All-filter (is_served port true) IsWhole all whole) (All-filter (is_served port false) IsWhole all whole))

  pub size_served : size_of sites ≤ size_of all
  size_served =
      omega (arith, ap size_of is, sum_by-append (λ (s : SiteLines). suc (length s.lines)) (filter (is_served port true) all) (filter (is_served port false) all), fewer port all)

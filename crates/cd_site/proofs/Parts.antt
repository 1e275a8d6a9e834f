-- The servers of a tree, by the ports of the sites.
use Rattle.std.proofs.Common.{◌≡◌, ℕ, suc, ◌+◌, ◌≤◌, Bool, true, false, not, ◌&&◌, ◌||◌, List, [], ◌∷◌, ◌++◌, map, filter, refl, sym, ap, ap₂, ◌∙◌, arith, decimal, eqb-true}
use Rattle.std.specs.Prelude.{◌==◌, codes, nat_le, if◌then◌else◌}
use Rattle.std.specs.List.{list_any, list_all}
use Rattle.std.proofs.lemmas.Bool.{and_parts, and_from}
use Rattle.std.proofs.lemmas.Bool.Decides.{nat_tests}
use Rattle.cd_text.specs.ByKey.{key_le, put_by_key, by_key}
use Rattle.cd_caddyfile.specs.Shape as shape
use Rattle.cd_caddyfile.specs.Shape.{Entry, member, has_host, sites_at, ports_after}
use Rattle.cd_caddyfile.specs.Sites.{Site}
use Rattle.cd_site.specs.Variables.{are_plain}

-- a server: its port, its number, and that of its first group
pub record Part : Type 0 where
  pub port : ℕ
  pub number : ℕ
  pub first : ℕ

abbrev pub parts_from : List ℕ → List Site → ℕ → ℕ → List Part
parts_from [] ss k n = []
parts_from (port ∷ ports) ss k n = record { port = port; number = k; first = n } ∷ parts_from ports ss (suc k) (n + shape.all_groups (sites_at port ss))

abbrev pub part_name : Part → List ℕ
part_name p = codes "srv" ++ decimal p.number

abbrev pub entry_of : List Site → Part → Entry
entry_of ss p = member (part_name p) (shape.server p.port (sites_at p.port ss) p.first)

pub entries_of_parts : (ports : List ℕ) (ss : List Site) (k n : ℕ) → shape.servers ports ss k n ≡ map (entry_of ss) (parts_from ports ss k n)
unfolding shape.servers
entries_of_parts [] ss k n = refl
entries_of_parts (port ∷ ports) ss k n = ap (λ l. member (codes "srv" ++ decimal k) (shape.server port (sites_at port ss) n) ∷ l) (entries_of_parts ports ss (suc k) (n + shape.all_groups (sites_at port ss)))

-- ---- tests of numbers, as facts

pub is_le : (a b : ℕ) → a ≤ b → nat_le a b ≡ true
is_le a b h = grind (arith, nat_tests)

pub le_is : (a b : ℕ) → nat_le a b ≡ true → a ≤ b
le_is a b h = grind (arith, nat_tests)

-- ---- tests of all and of any, whatever the order

and_swap : (a b c : Bool) → (a && (b && c)) ≡ (b && (a && c))
and_swap true true c = refl
and_swap true false c = refl
and_swap false true c = refl
and_swap false false c = refl

or_swap : (a b c : Bool) → (a || (b || c)) ≡ (b || (a || c))
or_swap true true c = refl
or_swap true false c = refl
or_swap false true c = refl
or_swap false false c = refl

all_put : {A : Type 0} (key : A → List ℕ) (p : A → Bool) (x : A) (xs : List A) → list_all p (put_by_key key x xs) ≡ (p x && list_all p xs)
all_put key p x [] = refl
all_put key p x (y ∷ ys) = by (key_le key x y) (put_by_key key x ys) (all_put key p x ys)
  where
    by : (t : Bool) (zs : List _) → list_all p zs ≡ (p x && list_all p ys) → list_all p (if t then x ∷ (y ∷ ys) else y ∷ zs) ≡ (p x && (p y && list_all p ys))
    by true zs is = refl
    by false zs is = ap (λ b. p y && b) is ∙ and_swap (p y) (p x) (list_all p ys)

pub all_by_key : {A : Type 0} (key : A → List ℕ) (p : A → Bool) (xs : List A) → list_all p (by_key key xs) ≡ list_all p xs
all_by_key key p [] = refl
all_by_key key p (x ∷ xs) = all_put key p x (by_key key xs) ∙ ap (λ b. p x && b) (all_by_key key p xs)

any_put : {A : Type 0} (key : A → List ℕ) (p : A → Bool) (x : A) (xs : List A) → list_any p (put_by_key key x xs) ≡ (p x || list_any p xs)
any_put key p x [] = refl
any_put key p x (y ∷ ys) = by (key_le key x y) (put_by_key key x ys) (any_put key p x ys)
  where
    by : (t : Bool) (zs : List _) → list_any p zs ≡ (p x || list_any p ys) → list_any p (if t then x ∷ (y ∷ ys) else y ∷ zs) ≡ (p x || (p y || list_any p ys))
    by true zs is = refl
    by false zs is = ap (λ b. p y || b) is ∙ or_swap (p y) (p x) (list_any p ys)

pub any_by_key : {A : Type 0} (key : A → List ℕ) (p : A → Bool) (xs : List A) → list_any p (by_key key xs) ≡ list_any p xs
any_by_key key p [] = refl
any_by_key key p (x ∷ xs) = any_put key p x (by_key key xs) ∙ ap (λ b. p x || b) (any_by_key key p xs)

-- ---- groups

abbrev pub groups_at : List Site → Part → ℕ
groups_at ss p = shape.all_groups (sites_at p.port ss)

abbrev pub sum_of : List Site → List Part → ℕ
sum_of ss [] = 0
sum_of ss (p ∷ ps) = groups_at ss p + sum_of ss ps

sum_put : (ss : List Site) (p : Part) (ps : List Part) → sum_of ss (put_by_key part_name p ps) ≡ groups_at ss p + sum_of ss ps
sum_put ss p [] = refl
sum_put ss p (q ∷ qs) = by (key_le part_name p q) (put_by_key part_name p qs) (sum_put ss p qs)
  where
    by : (t : Bool) (zs : List Part) → sum_of ss zs ≡ groups_at ss p + sum_of ss qs → sum_of ss (if t then p ∷ (q ∷ qs) else q ∷ zs) ≡ groups_at ss p + (groups_at ss q + sum_of ss qs)
    by true zs is = refl
    by false zs is = omega (arith, is)

pub sum_by_key : (ss : List Site) (ps : List Part) → sum_of ss (by_key part_name ps) ≡ sum_of ss ps
sum_by_key ss [] = refl
sum_by_key ss (p ∷ ps) = sum_put ss p (by_key part_name ps) ∙ ap (λ (n : ℕ). groups_at ss p + n) (sum_by_key ss ps)

-- the numbers of a server's groups are below this
abbrev pub ends_below : List Site → ℕ → Part → Bool
ends_below ss total p = nat_le (p.first + groups_at ss p) total

pub all_end_below : (ports : List ℕ) (ss : List Site) (k n total : ℕ) → n + sum_of ss (parts_from ports ss k n) ≤ total → list_all (ends_below ss total) (parts_from ports ss k n) ≡ true
all_end_below [] ss k n total room = refl
all_end_below (port ∷ ports) ss k n total room =
    and_from _ _ (is_le (n + shape.all_groups (sites_at port ss)) total (omega (arith, room)))
    (all_end_below ports ss (suc k) (n + shape.all_groups (sites_at port ss)) total (omega (arith, room)))

-- ---- ports

-- one more test of the ports before the rest
abbrev pub is_small : ℕ → Bool
is_small port = nat_le port 65535

small_either : (t : Bool) (s : Site) (rest more : List ℕ) → is_small s.address.port ≡ true → list_all is_small rest ≡ true → list_all is_small more ≡ true → list_all is_small (if t then rest else s.address.port ∷ more) ≡ true
small_either true s rest more one first others = first
small_either false s rest more one first others = and_from _ _ one others

pub ports_small : (before : List ℕ) (ss : List Site) → list_all (λ (s : Site). is_small s.address.port) ss ≡ true → list_all is_small (ports_after before ss) ≡ true
unfolding ports_after
ports_small before [] h = refl
ports_small before (s ∷ ss) h =
    let both = and_parts (is_small s.address.port) (list_all (λ (s : Site). is_small s.address.port) ss) h in
    small_either (list_any (λ port. port == s.address.port) before) s (ports_after before ss) (ports_after (s.address.port ∷ before) ss) both.0 (ports_small before ss both.1) (ports_small (s.address.port ∷ before) ss both.1)

pub parts_small : (ports : List ℕ) (ss : List Site) (k n : ℕ) → list_all is_small ports ≡ true → list_all (λ (p : Part). is_small p.port) (parts_from ports ss k n) ≡ true
parts_small [] ss k n h = refl
parts_small (port ∷ ports) ss k n h =
    let both = and_parts (is_small port) (list_all is_small ports) h in
    and_from _ _ both.0 (parts_small ports ss (suc k) (n + shape.all_groups (sites_at port ss)) both.1)

abbrev pub among : ℕ → List ℕ → Bool
among port ports = list_any (λ q. q == port) ports

or_true : (b : Bool) → (b || true) ≡ true
or_true true = refl
or_true false = refl

seen : (before : List ℕ) (p q : ℕ) → among p before ≡ true → (p == q) ≡ true → among q before ≡ true
seen before p q h same = ap (λ n. among n before) (sym (eqb-true p q same)) ∙ h

among_either : (port : ℕ) (before : List ℕ) (s : Site) (ss : List Site) (t u : Bool) → among s.address.port before ≡ t → (s.address.port == port) ≡ u → (u || list_any (λ (s : Site). s.address.port == port) ss) ≡ true →
    ((b : List ℕ) → list_any (λ (s : Site). s.address.port == port) ss ≡ true → (among port b || among port (ports_after b ss)) ≡ true) →
    (among port before || among port (if t then ports_after before ss else s.address.port ∷ ports_after (s.address.port ∷ before) ss)) ≡ true
among_either port before s ss true true known same some further = rw (seen before s.address.port port known same) refl
among_either port before s ss true false known same some further = further before some
among_either port before s ss false true known same some further = rw same (or_true (among port before))
among_either port before s ss false false known same some further =
    or_swap (among port before) (s.address.port == port) (among port (ports_after (s.address.port ∷ before) ss))
    ∙ (or_assoc (s.address.port == port) (among port before) _ ∙ further (s.address.port ∷ before) some)
  where
    or_assoc : (a b c : Bool) → (a || (b || c)) ≡ ((a || b) || c)
    or_assoc true b c = refl
    or_assoc false b c = refl

ports_met : (port : ℕ) (before : List ℕ) (ss : List Site) → list_any (λ (s : Site). s.address.port == port) ss ≡ true → (among port before || among port (ports_after before ss)) ≡ true
unfolding ports_after
ports_met port before [] h = cc
ports_met port before (s ∷ ss) h = among_either port before s ss (among s.address.port before) (s.address.port == port) refl refl h (λ b some. ports_met port b ss some)

-- each port that a site has is among them
pub port_met : (port : ℕ) (ss : List Site) → list_any (λ (s : Site). s.address.port == port) ss ≡ true → among port (ports_after [] ss) ≡ true
port_met port ss h = ports_met port [] ss h

pub part_met : (port : ℕ) (ports : List ℕ) (ss : List Site) (k n : ℕ) → among port ports ≡ true → list_any (λ (p : Part). p.port == port) (parts_from ports ss k n) ≡ true
part_met port [] ss k n h = cc
part_met port (q ∷ ports) ss k n h = by (q == port) h (λ later. part_met port ports ss (suc k) (n + shape.all_groups (sites_at q ss)) later)
  where
    by : (t : Bool) → (t || among port ports) ≡ true → (among port ports ≡ true → list_any (λ (p : Part). p.port == port) (parts_from ports ss (suc k) (n + shape.all_groups (sites_at q ss))) ≡ true) →
        (t || list_any (λ (p : Part). p.port == port) (parts_from ports ss (suc k) (n + shape.all_groups (sites_at q ss)))) ≡ true
    by true is later = refl
    by false is later = later is

-- ---- variables

all_filtered : {A : Type 0} (p q : A → Bool) (xs : List A) → list_all p xs ≡ true → list_all p (filter q xs) ≡ true
all_filtered p q [] h = refl
all_filtered p q (x ∷ xs) h = let both = and_parts (p x) (list_all p xs) h in by (q x) both.0 (all_filtered p q xs both.1)
  where
    by : (t : Bool) → p x ≡ true → list_all p (filter q xs) ≡ true → list_all p (if t then x ∷ filter q xs else filter q xs) ≡ true
    by true one others = and_from _ _ one others
    by false one others = others

all_both : {A : Type 0} (p : A → Bool) (xs ys : List A) → list_all p xs ≡ true → list_all p ys ≡ true → list_all p (xs ++ ys) ≡ true
all_both p [] ys one two = two
all_both p (x ∷ xs) ys one two = let both = and_parts (p x) (list_all p xs) one in and_from _ _ both.0 (all_both p xs ys both.1 two)

pub plain_at : (port : ℕ) (ss : List Site) → list_all (λ (s : Site). are_plain s.block) ss ≡ true → list_all (λ (s : Site). are_plain s.block) (sites_at port ss) ≡ true
plain_at port ss h =
    let here = all_filtered (λ (s : Site). are_plain s.block) (λ s. s.address.port == port) ss h in
    all_both (λ (s : Site). are_plain s.block) (filter (λ s. has_host s) (filter (λ s. s.address.port == port) ss)) (filter (λ s. not (has_host s)) (filter (λ s. s.address.port == port) ss))
    (all_filtered (λ (s : Site). are_plain s.block) (λ s. has_host s) _ here) (all_filtered (λ (s : Site). are_plain s.block) (λ s. not (has_host s)) _ here)

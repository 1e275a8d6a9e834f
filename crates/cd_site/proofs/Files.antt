-- The sites of a file have ports up to 65535, and set no variable of a name that `vars` has for itself.
use Rattle.std.proofs.Common.{◌≡◌, ℕ, Bool, true, false, not, ◌&&◌, ◌||◌, List, [], ◌∷◌, map, length, Option, Some, None, refl, sym, ap, ◌∙◌, subst, drop, option_map, IfSome}
use Rattle.std.specs.Prelude.{◌==◌, codes, nat_le, nat_eq, if◌then◌else◌, ⊤}
use Rattle.std.specs.List.{list_all, list_any, starts_with, before_first, after_first}
use Rattle.std.specs.Str.{bytes_eq}
use Rattle.std.specs.Char.{to_ascii_lowercase}
use Rattle.std.proofs.lemmas.Bool.{and_parts, and_from}
use Rattle.cd_caddyfile.specs.Addresses.{begins_with, is_host, is_decimal, number, port_of, at_port, port_alone, host_alone, is_colon, host_then_port, host_and_port, address_in, address_of}
use Rattle.cd_caddyfile.specs.Blocks.{Lines, end, line, block}
use Rattle.cd_caddyfile.specs.Directives.{code_of, redir_code, respond_one, action_of}
use Rattle.cd_caddyfile.specs.FileSites.{block_of, put_site, sites_in}
use Rattle.cd_caddyfile.specs.Sites.{Tests, Action, vars, set_field, add_field, delete_field, redir, rewrite, respond, Block, done, act, handle, Site}
use Rattle.cd_caddyfile.specs.declared.address.Address.{Address}
use Rattle.cd_caddyfile.specs.declared.directive.Directive.{Directive}
use Rattle.cd_caddyfile.specs.declared.directive.Directive.TheVariants.{Vars, Header, Redir, Rewrite, Handle, Respond}
use Rattle.cd_site.specs.Variables.{is_plain, are_plain}
use Rattle.cd_adapt.proofs.FileParts.{HoldIn, hold_in_block_of}
use Rattle.cd_site.proofs.Parts.{is_small}

-- ---- directives

some_plain : (x a : Action) → ◌≡◌ {A = Option Action} (Some x) (Some a) → is_plain x ≡ true → is_plain a ≡ true
some_plain x a h plain = let same : x ≡ a = cc in subst (λ y. is_plain y ≡ true) same plain

if_plain : (t : Bool) (x a : Action) → ◌≡◌ {A = Option Action} (if t then Some x else None) (Some a) → is_plain x ≡ true → is_plain a ≡ true
if_plain true x a h plain = some_plain x a h plain
if_plain false x a h plain = cc

mapped_plain : {A : Type 0} (f : A → Action) (o : Option A) (a : Action) → option_map f o ≡ Some a → ((x : A) → is_plain (f x) ≡ true) → is_plain a ≡ true
mapped_plain f None a h all = cc
mapped_plain f (Some x) a h all = some_plain (f x) a h (all x)

vars_plain : (name value : List ℕ) (a : Action) (t : Bool) → (bytes_eq name (codes "handler") || bytes_eq name (codes "@id")) ≡ t → ◌≡◌ {A = Option Action} (if t then None else Some (vars name value)) (Some a) → is_plain a ≡ true
vars_plain name value a true is h = cc
vars_plain name value a false is h = some_plain (vars name value) a h (ap not is)

header_plain : (field value : List ℕ) (a : Action) (t u : Bool) → ◌≡◌ {A = Option Action} (if t then None else (if u then Some (add_field (drop 1 field) value) else Some (set_field field value))) (Some a) → is_plain a ≡ true
header_plain field value a true u h = cc
header_plain field value a false true h = some_plain (add_field (drop 1 field) value) a h refl
header_plain field value a false false h = some_plain (set_field field value) a h refl

one_plain : (text : List ℕ) (o : Option ℕ) → is_plain (respond_one text o) ≡ true
one_plain text None = refl
one_plain text (Some code) = refl

action_plain : (name : Directive) (args : List (List ℕ)) (a : Action) → action_of name args ≡ Some a → is_plain a ≡ true
action_plain Vars [] a h = cc
action_plain Vars (name ∷ []) a h = cc
action_plain Vars (name ∷ value ∷ []) a h = vars_plain name value a (bytes_eq name (codes "handler") || bytes_eq name (codes "@id")) refl h
action_plain Vars (name ∷ value ∷ other ∷ others) a h = cc
action_plain Header [] a h = cc
action_plain Header (field ∷ []) a h = if_plain (begins_with 45 field) (delete_field (drop 1 field)) a h refl
action_plain Header (field ∷ value ∷ []) a h = header_plain field value a (begins_with 45 field) (begins_with 43 field) h
action_plain Header (field ∷ value ∷ other ∷ others) a h = cc
action_plain Redir [] a h = cc
action_plain Redir (to ∷ []) a h = some_plain (redir to 302) a h refl
action_plain Redir (to ∷ code ∷ []) a h = mapped_plain (λ n. redir to n) (redir_code code) a h (λ n. refl)
action_plain Redir (to ∷ code ∷ other ∷ others) a h = cc
action_plain Rewrite [] a h = cc
action_plain Rewrite (to ∷ []) a h = some_plain (rewrite to) a h refl
action_plain Rewrite (to ∷ other ∷ others) a h = cc
action_plain Handle args a h = cc
action_plain Respond [] a h = some_plain (respond None None) a h refl
action_plain Respond (text ∷ []) a h = some_plain (respond_one text (code_of text)) a h (one_plain text (code_of text))
action_plain Respond (body ∷ status ∷ []) a h = mapped_plain (λ n. respond (Some body) (Some n)) (code_of status) a h (λ n. refl)
action_plain Respond (body ∷ status ∷ other ∷ others) a h = cc

-- ---- blocks

abbrev IsPlain : Action → Type 0
IsPlain a = is_plain a ≡ true

abbrev Any : Option Tests → Type 0
Any m = ⊤

all_plain : (name : Directive) (args : List (List ℕ)) → IfSome (action_of name args) IsPlain
all_plain name args = all (action_of name args) (λ a is. action_plain name args a is)
  where
    all : (o : Option Action) → ((a : Action) → o ≡ Some a → IsPlain a) → IfSome o IsPlain
    all None one = tt
    all (Some a) one = one a refl

plain-from_parts : (b : Block) → HoldIn Any IsPlain b → are_plain b ≡ true
unfolding HoldIn are_plain
plain-from_parts done all = refl
plain-from_parts (act m a b) all = and_from _ _ all.1.0 (plain-from_parts b all.1.1)
plain-from_parts (handle m inside b) all = and_from _ _ (plain-from_parts inside all.1.0) (plain-from_parts b all.1.1)

block_plain : (named : List ℕ → Tests) (ls : Lines) → are_plain (block_of named ls) ≡ true
block_plain named ls = plain-from_parts (block_of named ls) (hold_in_block_of Any IsPlain named (λ name args. tt) all_plain ls)

-- ---- ports

abbrev IsSmall : Option Address → Type 0
IsSmall None = ⊤
IsSmall (Some a) = is_small a.port ≡ true

small_by : (n : ℕ) (s t u : Bool) → nat_le n 65535 ≡ t → (host : Option (List ℕ)) → IsSmall (at_port host (if s && (t && u) then Some n else None))
small_by n true true true is host = is
small_by n true true false is host = tt
small_by n true false u is host = tt
small_by n false t u is host = tt

port_small : (host : Option (List ℕ)) (text : List ℕ) → IsSmall (at_port host (port_of text))
port_small host text = small_by (number 0 text) (is_decimal text) (nat_le (number 0 text) 65535) (not (number 0 text == 443)) refl host

small_if : (t : Bool) (a b : Option Address) → IsSmall a → IsSmall b → IsSmall (if t then a else b)
small_if true a b one two = one
small_if false a b one two = two

alone_small : (text : List ℕ) → IsSmall (port_alone text)
alone_small [] = tt
alone_small (first ∷ rest) = small_if (first == 58) (at_port None (port_of rest)) None (port_small None rest) tt

host_small : (text : List ℕ) → IsSmall (host_alone text)
host_small text = small_if (is_host text) (at_port (Some (map to_ascii_lowercase text)) (Some 80)) None refl tt

then_small : (host port text : List ℕ) → IsSmall (host_then_port host port text)
then_small host port text = small_if (is_host host) (at_port (Some (map to_ascii_lowercase host)) (port_of port)) (port_alone text) (port_small (Some (map to_ascii_lowercase host)) port) (alone_small text)

both_small : (text : List ℕ) → IsSmall (host_and_port text)
both_small text = small_if (list_any is_colon text) (host_then_port (before_first is_colon text) (after_first is_colon text) text) (host_alone text)
    (then_small (before_first is_colon text) (after_first is_colon text) text) (host_small text)

address_small : (ws : List (List ℕ)) → IsSmall (address_of ws)
address_small [] = tt
address_small (text ∷ []) = small_if (starts_with nat_eq text (codes "http://")) (host_and_port (drop 7 text)) (port_alone text) (both_small (drop 7 text)) (alone_small text)
address_small (text ∷ other ∷ others) = tt

-- ---- sites

abbrev AreFit : List Site → Type 0
AreFit ss = (list_all (λ (s : Site). are_plain s.block) ss ≡ true) × (list_all (λ (s : Site). is_small s.address.port) ss ≡ true)

site_fit : (o : Option Address) (b : Block) (ss : List Site) → IsSmall o → are_plain b ≡ true → AreFit ss → AreFit (put_site o b ss)
site_fit None b ss small plain others = others
site_fit (Some address) b ss small plain others = (and_from _ _ plain others.0, and_from _ _ small others.1)

pub sites_fit : (named : ℕ → List ℕ → Tests) (ls : Lines) → AreFit (sites_in named ls)
unfolding sites_in
sites_fit named end = (refl, refl)
sites_fit named (line n ws after) = sites_fit named after
sites_fit named (block n ws is_closed inside after) = site_fit (address_of ws) (block_of (named n) inside) (sites_in named after) (address_small ws) (block_plain (named n) inside) (sites_fit named after)

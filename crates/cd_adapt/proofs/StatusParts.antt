-- The statuses that a file's sites answer with have three digits.
use Rattle.std.proofs.Common.{◌≡◌, ℕ, ◌<◌, Bool, true, false, ◌&&◌, ◌==◌, if◌then◌else◌, List, [], ◌∷◌, length, Option, Some, None, option_map, refl, arith, eqb-true, leb-true, IfSome}
use Rattle.std.specs.Prelude.{All, ⊤, codes, drop}
use Rattle.std.specs.Char.{is_ascii_digit}
use Rattle.std.specs.List.{list_all}
use Rattle.std.specs.Str.{bytes_eq}
use Rattle.std.proofs.lemmas.Bool.{and_parts}
use Rattle.std.proofs.lemmas.List.Elements.{All-nil, All-cons}
use Rattle.cd_caddyfile.specs.Addresses.{begins_with, number, address_of}
use Rattle.cd_caddyfile.specs.Blocks.{Lines, end, line, block, file_lines}
use Rattle.cd_caddyfile.specs.Directives.{code_of, redir_code, respond_one, action_of}
use Rattle.cd_caddyfile.specs.Faults.{defined}
use Rattle.cd_caddyfile.specs.FileSites.{tested, tests_named, block_of, put_site, sites_in, sites}
use Rattle.cd_caddyfile.specs.Sites.{Tests, Action, vars, set_field, add_field, delete_field, redir, rewrite, respond, Block, Site}
use Rattle.cd_caddyfile.specs.Walk.{walk}
use Rattle.cd_caddyfile.specs.declared.address.Address.{Address}
use Rattle.cd_caddyfile.specs.declared.directive.Directive.{Directive}
use Rattle.cd_caddyfile.specs.declared.directive.Directive.TheVariants.{Vars, Header, Redir, Rewrite, Handle, Respond}
use Rattle.cd_caddyfile.specs.declared.within.Within.TheVariants as place
use Rattle.cd_adapt.proofs.FileParts.{HoldIn, hold_in_block_of}

-- three digits write it
abbrev pub IsShort : ℕ → Type 0
IsShort code = code < 1000

-- an action's status, if it has one, is short
abbrev pub HasShortStatus : Action → Type 0
HasShortStatus (vars name value) = ⊤
HasShortStatus (set_field name value) = ⊤
HasShortStatus (add_field name value) = ⊤
HasShortStatus (delete_field name) = ⊤
HasShortStatus (redir to code) = IsShort code
HasShortStatus (rewrite to) = ⊤
HasShortStatus (respond body code) = IfSome code IsShort

abbrev Any : Option Tests → Type 0
Any m = ⊤

abbrev pub HaveShortStatuses : Block → Type 0
HaveShortStatuses b = HoldIn Any HasShortStatus b

abbrev pub AnswerShortStatuses : List Site → Type 0
AnswerShortStatuses ss = All (λ (s : Site). HaveShortStatuses s.block) ss

-- ---- digits

digit_below : (d : ℕ) → is_ascii_digit d ≡ true → d < 58
digit_below d is = omega (arith, leb-true d 57 (and_parts _ _ is).1)

digits_short : (text : List ℕ) → length text ≡ 3 → list_all is_ascii_digit text ≡ true → IsShort (number 0 text)
digits_short [] three all = absurd (omega (arith, three))
digits_short (a ∷ []) three all = absurd (omega (arith, three))
digits_short (a ∷ b ∷ []) three all = absurd (omega (arith, three))
digits_short (a ∷ b ∷ c ∷ []) three all =
    let one = and_parts (is_ascii_digit a) _ all in
    let two = and_parts (is_ascii_digit b) _ one.1 in
    let last = and_parts (is_ascii_digit c) _ two.1 in
    omega (arith, digit_below a one.0, digit_below b two.0, digit_below c last.0)
digits_short (a ∷ b ∷ c ∷ d ∷ others) three all = absurd (omega (arith, three))

code_short : (text : List ℕ) → IfSome (code_of text) IsShort
code_short text = by (length text == 3) (list_all is_ascii_digit text) refl refl
  where
    by : (three all : Bool) → (length text == 3) ≡ three → list_all is_ascii_digit text ≡ all → IfSome (if three && all then Some (number 0 text) else None) IsShort
    by true true is are = digits_short text (eqb-true (length text) 3 is) are
    by true false is are = tt
    by false all is are = tt

if_short : (t : Bool) (one other : Option ℕ) → IfSome one IsShort → IfSome other IsShort → IfSome (if t then one else other) IsShort
if_short true one other is is_other = is
if_short false one other is is_other = is_other

redir_short : (text : List ℕ) → IfSome (redir_code text) IsShort
redir_short text =
    if_short (bytes_eq text (codes "permanent")) (Some 301) _ (omega arith)
    (if_short (bytes_eq text (codes "temporary")) (Some 302) (code_of text) (omega arith) (code_short text))

-- ---- actions

if_action : (t : Bool) (one other : Option Action) → IfSome one HasShortStatus → IfSome other HasShortStatus → IfSome (if t then one else other) HasShortStatus
if_action true one other is is_other = is
if_action false one other is is_other = is_other

mapped_short : (f : ℕ → Action) (o : Option ℕ) → ((n : ℕ) → IsShort n → HasShortStatus (f n)) → IfSome o IsShort → IfSome (option_map f o) HasShortStatus
mapped_short f None all short = tt
mapped_short f (Some n) all short = all n short

one_short : (text : List ℕ) (o : Option ℕ) → IfSome o IsShort → HasShortStatus (respond_one text o)
one_short text None short = tt
one_short text (Some code) short = short

action_short : (name : Directive) (args : List (List ℕ)) → IfSome (action_of name args) HasShortStatus
action_short Vars [] = tt
action_short Vars (name ∷ []) = tt
action_short Vars (name ∷ value ∷ []) = if_action _ None (Some (vars name value)) tt tt
action_short Vars (name ∷ value ∷ other ∷ others) = tt
action_short Header [] = tt
action_short Header (field ∷ []) = if_action (begins_with 45 field) (Some (delete_field (drop 1 field))) None tt tt
action_short Header (field ∷ value ∷ []) =
    if_action (begins_with 45 field) None _ tt (if_action (begins_with 43 field) (Some (add_field (drop 1 field) value)) (Some (set_field field value)) tt tt)
action_short Header (field ∷ value ∷ other ∷ others) = tt
action_short Redir [] = tt
action_short Redir (to ∷ []) = omega arith
action_short Redir (to ∷ code ∷ []) = mapped_short (λ n. redir to n) (redir_code code) (λ n short. short) (redir_short code)
action_short Redir (to ∷ code ∷ other ∷ others) = tt
action_short Rewrite [] = tt
action_short Rewrite (to ∷ []) = tt
action_short Rewrite (to ∷ other ∷ others) = tt
action_short Handle args = tt
action_short Respond [] = tt
action_short Respond (text ∷ []) = one_short text (code_of text) (code_short text)
action_short Respond (body ∷ status ∷ []) = mapped_short (λ n. respond (Some body) (Some n)) (code_of status) (λ n short. short) (code_short status)
action_short Respond (body ∷ status ∷ other ∷ others) = tt

-- ---- sites

block_short : (tests_of : List ℕ → Tests) (ls : Lines) → HaveShortStatuses (block_of tests_of ls)
block_short tests_of ls = hold_in_block_of Any HasShortStatus tests_of (λ name args. tt) action_short ls

site_short : (o : Option Address) (b : Block) (ss : List Site) → HaveShortStatuses b → AnswerShortStatuses ss → AnswerShortStatuses (put_site o b ss)
site_short None b ss short others = others
site_short (Some address) b ss short others = All-cons (λ (s : Site). HaveShortStatuses s.block) (record { address = address; block = b }) ss short others

short_in : (tests_of : ℕ → List ℕ → Tests) (ls : Lines) → AnswerShortStatuses (sites_in tests_of ls)
unfolding sites_in
short_in tests_of end = All-nil (λ (s : Site). HaveShortStatuses s.block)
short_in tests_of (line n ws after) = short_in tests_of after
short_in tests_of (block n ws is_closed inside after) = site_short (address_of ws) (block_of (tests_of n) inside) (sites_in tests_of after) (block_short (tests_of n) inside) (short_in tests_of after)

pub statuses_are_short : (bytes : List ℕ) → AnswerShortStatuses (sites bytes)
statuses_are_short bytes = short_in (tests_named (walk defined place.File (file_lines bytes)) (walk tested place.File (file_lines bytes))) (file_lines bytes)

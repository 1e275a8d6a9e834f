-- Which addresses a text writes does not depend on memory.
use Rattle.std.proofs.Common.{◌≡◌, ℕ, true, false, Bool, List, refl, Option, Some, None, Result, Ok, Err}
use Rattle.std.specs.Prelude.{codes, if◌then◌else◌, ◌+◌, ◌-◌, ◌&&◌, nat_le}
use Rattle.std.specs.List.{list_all}
use Rattle.std.specs.Str.{bytes_eq}
use Rattle.cd_text.specs.Steps.{◌▷◌}
use Rattle.cd_addr.specs.Addresses.{Parts, cut_at, after_leading, of_network, without_network, is_host_byte, is_ip_text, in_brackets, plain, no_brackets, either_host, host_of, port, from_to, one_or_two, ports, range_of}
use Rattle.cd_addr.specs.declared.limits.TheConstants.{MAX_RANGE_PORTS}
use Rattle.cd_addr.specs.declared.fault.AddrFault.{AddrFault}
use Rattle.cd_addr.specs.declared.fault.AddrFault.TheVariants.{BadNetwork, BadPort, BadRange, NoMemory}

-- it is a value, or a fault of the text
abbrev pub is_said : {X : Type 0} → Result X AddrFault → Bool
is_said (Ok x) = true
is_said (Err BadNetwork) = true
is_said (Err BadPort) = true
is_said (Err BadRange) = true
is_said (Err NoMemory) = false

then-sure : {A B : Type 0} (r : Result A AddrFault) (k : A → Result B AddrFault) → is_said r ≡ true → ((a : A) → is_said (k a) ≡ true) → is_said (r ▷ k) ≡ true
then-sure (Ok a) k e h = h a
then-sure (Err BadNetwork) k e h = refl
then-sure (Err BadPort) k e h = refl
then-sure (Err BadRange) k e h = refl
then-sure (Err NoMemory) k e h = cc

if-sure : {A : Type 0} (b : Bool) (x y : Result A AddrFault) → is_said x ≡ true → is_said y ≡ true → is_said (if b then x else y) ≡ true
if-sure true x y e f = e
if-sure false x y e f = f

network-sure : (cut : Option Parts) (s : List ℕ) → is_said (of_network cut s) ≡ true
network-sure None s = refl
network-sure (Some cut) s = if-sure (bytes_eq cut.0 (codes "tcp")) _ _ refl refl

without_network-sure : (s : List ℕ) → is_said (without_network s) ≡ true
unfolding without_network
without_network-sure s = network-sure (cut_at 47 s) s

brackets-sure : (cut : Option Parts) → is_said (in_brackets cut) ≡ true
brackets-sure None = refl
brackets-sure (Some cut) = if-sure (is_ip_text cut.0) _ _ refl refl

plain-sure : (host : List ℕ) (ports : Option (List ℕ)) → is_said (plain host ports) ≡ true
plain-sure host ports = if-sure (list_all is_host_byte host) _ _ refl refl

no_brackets-sure : (cut : Option Parts) (s : List ℕ) → is_said (no_brackets cut s) ≡ true
no_brackets-sure None s = plain-sure s None
no_brackets-sure (Some cut) s = plain-sure cut.0 (Some cut.1)

either-sure : (rest : Option (List ℕ)) (s : List ℕ) → is_said (either_host rest s) ≡ true
either-sure None s = no_brackets-sure (cut_at 58 s) s
either-sure (Some rest) s = brackets-sure (cut_at 93 rest)

host_of-sure : (s : List ℕ) → is_said (host_of s) ≡ true
unfolding host_of
host_of-sure s = either-sure (after_leading 91 s) s

from_to-sure : (first last : Option ℕ) → is_said (from_to first last) ≡ true
from_to-sure None last = refl
from_to-sure (Some first) None = refl
from_to-sure (Some first) (Some last) = if-sure (nat_le first last && nat_le (last - first + 1) MAX_RANGE_PORTS) _ _ refl refl

one_or_two-sure : (cut : Option Parts) (s : List ℕ) → is_said (one_or_two cut s) ≡ true
one_or_two-sure None s = from_to-sure (port s) (port s)
one_or_two-sure (Some cut) s = from_to-sure (port cut.0) (port cut.1)

ports-sure : (o : Option (List ℕ)) → is_said (ports o) ≡ true
unfolding ports
ports-sure None = refl
ports-sure (Some s) = one_or_two-sure (cut_at 45 s) s

pub range_of-sure : (s : List ℕ) → is_said (range_of s) ≡ true
unfolding range_of
range_of-sure s = then-sure (without_network s) _ (without_network-sure s) (λ text. then-sure (host_of text) _ (host_of-sure text) (λ host. then-sure (ports host.1) _ (ports-sure host.1) (λ ends. refl)))

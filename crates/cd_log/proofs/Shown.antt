-- What was read from a connection is shown in a line as it came.
use Rattle.std.proofs.Common.{◌≡◌, ℕ, Bool, true, false, List, [], ◌∷◌, map, refl, ap, ◌∙◌, arith, IsTrue}
use Rattle.std.specs.Prelude.{if◌then◌else◌, ◌&&◌, not, Result, Ok, Err}
use Rattle.std.specs.Char.{is_ascii_graphic}
use Rattle.std.specs.List.{list_all}
use Rattle.std.proofs.lemmas.Bool.Decides.{nat_tests}
use Rattle.std.proofs.lemmas.List.Elements.{All-head, All-tail}
use Rattle.std.proofs.lemmas.List.Sums.{AllPass-from_list_all}
use Rattle.httparse.specs.Grammar.{AllPass, is_token_byte}
use Rattle.cd_wire.specs.declared.fault.WireFault.{WireFault}
use Rattle.cd_wire.specs.declared.fault.WireFault.TheVariants.{BadTarget}
use Rattle.cd_wire.specs.declared.framing.Framing.{Framing}
use Rattle.cd_wire.specs.declared.head.Head.{Head}
use Rattle.cd_wire.specs.declared.request.Request.{Request}
use Rattle.cd_wire.specs.Framing.{judge, request_of}
use Rattle.cd_wire.specs.Requests.{BeginsRequest}
use Rattle.cd_wire.specs.Targets.{is_target, is_target_byte}
use Rattle.cd_log.specs.Lines.{visible}

-- ---- bytes

shown_where : (b : ℕ) (graphic : Bool) → graphic ≡ true → (if graphic then b else 63) ≡ b
shown_where b graphic is = rw is refl

graphic_token : (b : ℕ) → is_token_byte b ≡ true → is_ascii_graphic b ≡ true
unfolding is_token_byte
graphic_token b h = grind (arith, nat_tests)

token_shown : (b : ℕ) → is_token_byte b ≡ true → visible b ≡ b
token_shown b h = shown_where b (is_ascii_graphic b) (graphic_token b h)

graphic_target : (b : ℕ) → is_target_byte b ≡ true → is_ascii_graphic b ≡ true
graphic_target b h = grind (arith, nat_tests)

target_shown : (b : ℕ) → is_target_byte b ≡ true → visible b ≡ b
target_shown b h = shown_where b (is_ascii_graphic b) (graphic_target b h)

all_shown : (test : ℕ → Bool) → ((b : ℕ) → test b ≡ true → visible b ≡ b) → (bytes : List ℕ) → AllPass test bytes → map visible bytes ≡ bytes
all_shown test shown [] all = refl
all_shown test shown (b ∷ bytes) all =
    let first : visible b ≡ b = shown b (All-head (λ (n : ℕ). IsTrue (test n)) b bytes all) in
    let others : map visible bytes ≡ bytes = all_shown test shown bytes (All-tail (λ (n : ℕ). IsTrue (test n)) b bytes all) in
    cc

-- ---- requests

of_target : (b : Bool) (rest : Result Framing WireFault) (framing : Framing) → (if not b then Err BadTarget else rest) ≡ Ok framing → b ≡ true
of_target true rest framing h = refl
of_target false rest framing h = cc

judged_target : (head : Head) (framing : Framing) → judge head ≡ Ok framing → is_target head.method head.target ≡ true
unfolding judge
judged_target head framing h = of_target (is_target head.method head.target) _ framing h

first_of : (a b c : Bool) → (a && b && c) ≡ true → a ≡ true
first_of true b c h = refl
first_of false b c h = h

pub method_came : (input rest : List ℕ) (request : Request) → BeginsRequest input request rest → map visible request.method ≡ request.method
unfolding request_of
method_came input rest request b =
    let is : request.method ≡ b.begins.lines.method = ap (λ (r : Request). r.method) b.is ∙ ap (λ (h : Head). h.method) b.begins.is in
    rw is (all_shown is_token_byte token_shown b.begins.lines.method b.begins.reads.0.method.1)

pub target_came : (input rest : List ℕ) (request : Request) → BeginsRequest input request rest → map visible request.target ≡ request.target
unfolding request_of
target_came input rest request b =
    let is : request.target ≡ b.head.target = ap (λ (r : Request). r.target) b.is in
    let all : list_all is_target_byte b.head.target ≡ true = first_of _ _ _ (judged_target b.head b.framing b.judged) in
    rw is (all_shown is_target_byte target_shown b.head.target (AllPass-from_list_all is_target_byte b.head.target all))

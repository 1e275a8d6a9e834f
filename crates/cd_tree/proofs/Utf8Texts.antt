-- The text of tokens that are text is UTF-8.
use Rattle.std.proofs.Common.{◌≡◌, ℕ, ◌<◌, ◌^◌, List, [], ◌∷◌, ◌++◌, map, Bool, true, false, ◌&&◌, decimal, refl, ap, ◌∙◌}
use Rattle.std.specs.Prelude.{IsUtf8}
use Rattle.std.specs.Str.{is_utf8}
use Rattle.std.proofs.lemmas.Bool.{and_parts}
use Rattle.std.proofs.lemmas.Fmt.{IsAscii-decimal}
use Rattle.std.proofs.lemmas.List.Folds.{list_all-append}
use Rattle.std.proofs.lemmas.Str.{IsUtf8-append, IsUtf8-from_ascii, IsUtf8-from_is_utf8, is_utf8-from_IsUtf8}
use Rattle.json.specs.Print.{print_from, token_text, ends}
use Rattle.json.specs.Token.{Token, begin_object, end_object, begin_array, end_array, key, string, number, boolean, null, bad}
use Rattle.json.proofs.Printed.Utf8.{IsUtf8-are_ascii, IsUtf8-quoted, IsUtf8-key, IsUtf8-boolean, IsUtf8-separator}
use Rattle.cd_text.specs.Steps.{joined}
use Rattle.cd_tree.specs.Tree.{tokens, member_tokens, number_text}
use Rattle.cd_tree.specs.Utf8.{is_text, are_text}
use Rattle.cd_tree.specs.declared.tree.Member.{Member}
use Rattle.cd_tree.specs.declared.tree.Num.{Num}
use Rattle.cd_tree.specs.declared.tree.Tree.{Tree, Items, Object}
use Rattle.cd_tree.proofs.Trees.{tokens-Items, tokens-Object}

token_utf8 : (t : Token) → is_text t ≡ true → IsUtf8 (token_text t)
token_utf8 begin_object h = IsUtf8-are_ascii _ refl
token_utf8 end_object h = IsUtf8-are_ascii _ refl
token_utf8 begin_array h = IsUtf8-are_ascii _ refl
token_utf8 end_array h = IsUtf8-are_ascii _ refl
token_utf8 (key s) h = IsUtf8-key s (IsUtf8-from_is_utf8 s h)
token_utf8 (string s) h = IsUtf8-quoted s (IsUtf8-from_is_utf8 s h)
token_utf8 (number s) h = IsUtf8-from_is_utf8 s h
token_utf8 (boolean b) h = IsUtf8-boolean b
token_utf8 null h = IsUtf8-are_ascii _ refl
token_utf8 bad h = IsUtf8-are_ascii _ refl

pub printed_utf8 : (behind : Bool) (ts : List Token) → are_text ts ≡ true → IsUtf8 (print_from behind ts)
unfolding print_from
printed_utf8 behind [] h = IsUtf8-are_ascii _ refl
printed_utf8 behind (t ∷ ts) h =
    let parts = and_parts (is_text t) _ h in
    IsUtf8-append _ _ (IsUtf8-separator behind t) (IsUtf8-append _ _ (token_utf8 t parts.0) (printed_utf8 (ends t) ts parts.1))

signed_utf8 : (negative : Bool) (size : ℕ) → size < 2 ^ 64 → is_utf8 (number_text (record { negative = negative; size = size })) ≡ true
signed_utf8 true size fits = is_utf8-from_IsUtf8 _ (IsUtf8-append (45 ∷ []) (decimal size) (IsUtf8-are_ascii _ refl) (IsUtf8-from_ascii _ (IsAscii-decimal size fits)))
signed_utf8 false size fits = is_utf8-from_IsUtf8 _ (IsUtf8-from_ascii _ (IsAscii-decimal size fits))

pub digits_utf8 : (n : Num) → n.size < 2 ^ 64 → is_utf8 (number_text n) ≡ true
digits_utf8 n fits = signed_utf8 n.negative n.size fits

-- the first tokens are text, so all are where the rest are
pub one_more : (ts rest : List Token) → are_text ts ≡ true → are_text (ts ++ rest) ≡ are_text rest
one_more ts rest h = list_all-append is_text ts rest ∙ ap (λ b. b && are_text rest) h

bracketed : (ts : List Token) (last : Token) → is_text last ≡ true → are_text ts ≡ true → are_text (ts ++ last ∷ []) ≡ true
bracketed ts last e h = one_more ts (last ∷ []) h ∙ ap (λ b. b && true) e

pub items_text : (items : List Tree) → are_text (joined (map tokens items)) ≡ true → are_text (tokens (Items items)) ≡ true
items_text items h = ap are_text (tokens-Items items) ∙ bracketed (joined (map tokens items)) end_array refl h

pub members_text : (members : List Member) → are_text (joined (map member_tokens members)) ≡ true → are_text (tokens (Object members)) ≡ true
members_text members h = ap are_text (tokens-Object members) ∙ bracketed (joined (map member_tokens members)) end_object refl h

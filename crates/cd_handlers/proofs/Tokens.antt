-- A token, as a test and as a fact.
use Rattle.std.proofs.Common.{◌≡◌, ℕ, true, ◌&&◌, Bool, List, rules}
use Rattle.std.proofs.lemmas.Bool.Decides.{nat_tests}
use Rattle.http_header.specs.Token.{IsToken}
use Rattle.http_header.proofs.TokenLemmas.{AllPass-from_test}
use Rattle.cd_handlers.specs.Rewrite.{is_token}

first : (a b : Bool) → (a && b) ≡ true → a ≡ true
first a b h = search rules

second : (a b : Bool) → (a && b) ≡ true → b ≡ true
second a b h = search rules

pub token : (text : List ℕ) → is_token text ≡ true → IsToken text
token text h = search (rules, first, nat_tests, AllPass-from_test, second)

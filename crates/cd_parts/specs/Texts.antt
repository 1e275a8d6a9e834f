-- Words that are texts, as each word of a file without a fault is. A tree has no other ones.
use Rattle.std.specs.Prelude.{ℕ, List, All, IsUtf8, IfSome}
use Rattle.cd_caddyfile.specs.Sites.{Tests, Wanted}
use Rattle.cd_caddyfile.specs.declared.named.TestLine.{TestLine}

abbrev pub AreTexts : List (List ℕ) → Type 0
AreTexts words = All (λ word. IsUtf8 word) words

-- a name and its values
abbrev pub IsTextual : Wanted → Type 0
IsTextual w = IsUtf8 w.name × AreTexts w.values

pub record TestsAreTexts (t : Tests) : Type 0 where
  pub path : IfSome t.path (λ all. AreTexts all)
  pub method : IfSome t.method (λ all. AreTexts all)
  pub host : IfSome t.host (λ all. AreTexts all)
  pub header : All (λ w. IsTextual w) t.header
  pub query : All (λ w. IsTextual w) t.query

-- the words of tests
abbrev pub LinesAreTexts : List TestLine → Type 0
LinesAreTexts ls = All (λ (l : TestLine). AreTexts l.words) ls

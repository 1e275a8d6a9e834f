-- Part of the main theorem.
-- Shorthands of placeholders.
use Rattle.std.specs.Prelude.{ℕ, ◌==◌, true, false, if◌then◌else◌, List, [], ◌∷◌, ◌++◌, codes}
use Rattle.std.specs.Str.{bytes_eq}

-- the name that a shorthand stands for
abbrev pub long_name : List ℕ → List ℕ
long_name name =
    if bytes_eq name (codes "method") then codes "http.request.method" else
    (if bytes_eq name (codes "host") then codes "http.request.host" else
    (if bytes_eq name (codes "path") then codes "http.request.uri.path" else
    (if bytes_eq name (codes "query") then codes "http.request.uri.query" else
    (if bytes_eq name (codes "uri") then codes "http.request.uri" else name))))

unfoldable mutual
  -- `{method}`, `{host}`, `{path}`, `{query}` and `{uri}` become placeholders, and all else stays
  pub spelled : List ℕ → List ℕ
  spelled [] = []
  spelled (byte ∷ rest) = elim (byte == 123) [ true ↦ after_brace [] rest | false ↦ byte ∷ spelled rest ]

  -- after a `{`, and a name that has no brace
  pub after_brace : List ℕ → List ℕ → List ℕ
  after_brace name [] = 123 ∷ name
  after_brace name (byte ∷ rest) = elim (byte == 123) [
    | true ↦ 123 ∷ (name ++ after_brace [] rest)
    | false ↦ elim (byte == 125) [
      | true ↦ 123 ∷ (long_name name ++ 125 ∷ spelled rest)
      | false ↦ after_brace (name ++ byte ∷ []) rest
    ]
  ]

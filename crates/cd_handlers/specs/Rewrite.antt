-- Part of the main theorem.
-- `rewrite` (Caddy, JSON Config Structure, http.handlers.rewrite).
use Rattle.std.specs.Prelude.{ℕ, ◌==◌, ◌||◌, ◌&&◌, Bool, nat_lt, if◌then◌else◌, List, [], ◌∷◌, map, length, codes, Option, Some, None, unwrap_or, Result, Ok, Err}
use Rattle.std.specs.Char.{to_ascii_uppercase}
use Rattle.std.specs.List.{list_any, list_all, before_first}
use Rattle.http_header.specs.Token.{is_token_byte}
use Rattle.cd_text.specs.Steps.{◌▷◌}
use Rattle.cd_tree.specs.declared.tree.Num.{Num}
use Rattle.cd_tree.specs.declared.path.Path.{Path}
use Rattle.cd_wire.specs.Targets.{is_question_mark, query_of}
use Rattle.cd_module.specs.Faults.{refused}
use Rattle.cd_module.specs.Settings.{Reader, text, whole, list_of, members, optional, needed}
use Rattle.cd_module.specs.declared.fault.LoadFault.{LoadFault}
use Rattle.cd_module.specs.declared.fault.LoadKind.TheVariants.{BadValue}
use Rattle.cd_fill.specs.declared.form.Form.TheVariants as form
use Rattle.cd_fill.specs.declared.request_line.RequestLine.{RequestLine}
use Rattle.cd_fill.specs.declared.scene.Scene.{Scene}
use Rattle.cd_fill.specs.Filling.{open_brace, fill_as}
use Rattle.cd_fill.specs.Scene.{with_slash, original_line}
use Rattle.cd_handlers.specs.declared.fault.HandlerFault.{HandlerFault}
use Rattle.cd_handlers.specs.declared.fault.HandlerFault.TheVariants.{Unable}
use Rattle.cd_handlers.specs.declared.outcome.Effect.{Effect}
use Rattle.cd_handlers.specs.declared.outcome.Effect.TheVariants.{Next}
use Rattle.cd_rewrite.specs.declared.rewriting.Rewriting.{Rewriting}
use Rattle.cd_rewrite.specs.declared.rewriting.Replacement.{Replacement}
use Rattle.cd_rewrite.specs.declared.rewriting.QueryChange.{QueryChange}
use Rattle.cd_rewrite.specs.declared.rewriting.QueryChange.TheVariants.{Stays, Becomes}
use Rattle.cd_rewrite.specs.declared.rewriting.Target.{Target}
use Rattle.cd_handlers.specs.declared.rewrite.FindText.{FindText}
use Rattle.cd_handlers.specs.declared.rewrite.Limit.{Limit}
use Rattle.cd_handlers.specs.declared.rewrite.MethodText.{MethodText}
use Rattle.cd_handlers.specs.declared.rewrite.Rewrite.{Rewrite}
use Rattle.cd_handlers.specs.declared.rewrite.Substring.{Substring}
use Rattle.cd_handlers.specs.Failing.{or_failed}
use Rattle.cd_handlers.specs.Filling.{or_unable, text_filled}
use Rattle.cd_rewrite.specs.Steps.{rewritten}

-- ---- settings

-- token = 1*tchar (RFC 9110, section 5.6.2)
abbrev pub is_token : List ℕ → Bool
is_token text = nat_lt 0 (length text) && list_all is_token_byte text

-- a text with a `{` is looked at when it is filled, and another must be a token
abbrev pub method_read : List ℕ → Path → Result MethodText LoadFault
method_read written at =
    if list_any open_brace written || is_token written then Ok (record { text = written }) else Err (refused BadValue at)

unfoldable pub method_text : Reader MethodText
method_text t at = text t at ▷ λ written. method_read written at

-- a text that is not empty
abbrev pub find_read : List ℕ → Path → Result FindText LoadFault
find_read written at = if length written == 0 then Err (refused BadValue at) else Ok (record { text = written })

unfoldable pub find_text : Reader FindText
find_text t at = text t at ▷ λ written. find_read written at

-- a whole number that is not negative
abbrev pub limit_read : Num → Path → Result Limit LoadFault
limit_read number at = if number.negative then Err (refused BadValue at) else Ok (record { most = number.size })

unfoldable pub limit : Reader Limit
limit t at = whole t at ▷ λ number. limit_read number at

-- 0 where none is given
abbrev pub most_of : Option Limit → ℕ
most_of None = 0
most_of (Some limit) = limit.most

unfoldable pub substring : Reader Substring
substring t at =
    members (codes "find replace limit") t at ▷ λ ms.
    needed find_text (codes "find") ms at ▷ λ find.
    optional text (codes "replace") ms at ▷ λ replace.
    optional limit (codes "limit") ms at ▷ λ limit.
    Ok (record { find = find.text; replace = unwrap_or replace []; limit = most_of limit })

unfoldable pub rewrite : Reader Rewrite
rewrite t at =
    members (codes "handler method uri strip_path_prefix strip_path_suffix uri_substring") t at ▷ λ ms.
    optional method_text (codes "method") ms at ▷ λ method.
    optional text (codes "uri") ms at ▷ λ uri.
    optional text (codes "strip_path_prefix") ms at ▷ λ prefix.
    optional text (codes "strip_path_suffix") ms at ▷ λ suffix.
    optional (list_of substring) (codes "uri_substring") ms at ▷ λ substrings.
    Ok (record { method = method; uri = uri; strip_path_prefix = prefix; strip_path_suffix = suffix; uri_substring = substrings })

-- ---- what is filled, each in the scene that the handler found

-- a method in upper case; a filled text that is no token is none
abbrev pub method_said : List ℕ → Result (Option (List ℕ)) HandlerFault
method_said method = if is_token method then Ok (Some method) else Err Unable

unfoldable pub method_filled : Scene → Option MethodText → Result (Option (List ℕ)) HandlerFault
method_filled x None = Ok None
method_filled x (Some method) = text_filled x method.text ▷ λ filled. method_said (map to_ascii_uppercase filled)

-- what stands before the first `?`, where that is not empty, is a path
unfoldable pub path_filled : Scene → List ℕ → Result (Option (List ℕ)) HandlerFault
path_filled x [] = Ok None
path_filled x (byte ∷ text) = or_unable (fill_as form.Path x (byte ∷ text)) ▷ λ path. Ok (Some (with_slash path))

-- a query that is empty is none
abbrev pub query_said : List ℕ → Option (List ℕ)
query_said [] = None
query_said (byte ∷ query) = Some (byte ∷ query)

-- what stands behind the first `?` is a query; without a `?` the query stays
unfoldable pub query_filled : Scene → Option (List ℕ) → Result QueryChange HandlerFault
query_filled x None = Ok Stays
query_filled x (Some text) = or_unable (fill_as form.Query x text) ▷ λ query. Ok (Becomes (query_said query))

unfoldable pub target_filled : Scene → Option (List ℕ) → Result Target HandlerFault
target_filled x None = Ok (record { path = None; query = Stays })
target_filled x (Some uri) =
    path_filled x (before_first is_question_mark uri) ▷ λ path.
    query_filled x (query_of uri) ▷ λ query.
    Ok (record { path = path; query = query })

-- a suffix
unfoldable pub suffix_filled : Scene → Option (List ℕ) → Result (Option (List ℕ)) HandlerFault
suffix_filled x None = Ok None
suffix_filled x (Some text) = text_filled x text ▷ λ filled. Ok (Some filled)

-- a prefix, with a `/` in front where none stands
unfoldable pub prefix_filled : Scene → Option (List ℕ) → Result (Option (List ℕ)) HandlerFault
prefix_filled x None = Ok None
prefix_filled x (Some text) = text_filled x text ▷ λ filled. Ok (Some (with_slash filled))

-- what is looked for, and what takes its place
unfoldable pub substring_filled : Scene → Substring → Result Replacement HandlerFault
substring_filled x s =
    text_filled x s.find ▷ λ find.
    text_filled x s.replace ▷ λ replace.
    Ok (record { find = find; replace = replace; limit = s.limit })

unfoldable pub each_filled : Scene → List Substring → Result (List Replacement) HandlerFault
each_filled x [] = Ok []
each_filled x (s ∷ substrings) =
    substring_filled x s ▷ λ first. each_filled x substrings ▷ λ others. Ok (first ∷ others)

unfoldable pub substrings_filled : Scene → Option (List Substring) → Result (Option (List Replacement)) HandlerFault
substrings_filled x None = Ok None
substrings_filled x (Some substrings) = each_filled x substrings ▷ λ filled. Ok (Some filled)

unfoldable pub rewrite_filled : Rewrite → Scene → Result Rewriting HandlerFault
rewrite_filled s x =
    method_filled x s.method ▷ λ method.
    target_filled x s.uri ▷ λ target.
    prefix_filled x s.strip_path_prefix ▷ λ prefix.
    suffix_filled x s.strip_path_suffix ▷ λ suffix.
    substrings_filled x s.uri_substring ▷ λ replacements.
    Ok (record { method = method; target = target; prefix = prefix; suffix = suffix; replacements = replacements })

-- ---- what it does

-- what is asked for from here on; a handler is unable to do it where a text is too long when it is filled, and as well where
-- what replacing makes is
unfoldable pub line_rewritten : Rewrite → Scene → Result RequestLine HandlerFault
line_rewritten s x = rewrite_filled s x ▷ λ filled. or_unable (rewritten filled x.current)

-- what was asked for at first is kept
abbrev pub asking : RequestLine → Scene → Scene
asking line x = record x { current = line; original = Some (original_line x) }

unfoldable pub rewrite_effect : Rewrite → Scene → Effect
rewrite_effect s x = or_failed x (line_rewritten s x) (λ line. Next (asking line x))

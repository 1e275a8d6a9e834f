-- Part of the main theorem.
-- The steps by which what is asked for is rewritten (Caddy, JSON Config Structure, http.handlers.rewrite).
use Rattle.std.specs.Prelude.{ℕ, ◌-◌, ◌&&◌, Bool, true, false, if◌then◌else◌, List, [], ◌∷◌, length, take, drop, nat_eq, Option, Some, None, unwrap_or, Result, Ok}
use Rattle.std.specs.List.{starts_with, ends_with}
use Rattle.std.specs.Str.{bytes_eq, str_to_ascii_lowercase}
use Rattle.cd_text.specs.Steps.{◌▷◌}
use Rattle.cd_wire.specs.Targets.{or_root}
use Rattle.cd_fill.specs.declared.fault.FillFault.{FillFault}
use Rattle.cd_fill.specs.declared.request_line.RequestLine.{RequestLine}
use Rattle.cd_fill.specs.Filling.{bounded}
use Rattle.cd_fill.specs.Scene.{with_slash}
use Rattle.cd_rewrite.specs.declared.rewriting.Rewriting.{Rewriting}
use Rattle.cd_rewrite.specs.declared.rewriting.Replacement.{Replacement}
use Rattle.cd_rewrite.specs.declared.rewriting.QueryChange.{QueryChange}
use Rattle.cd_rewrite.specs.declared.rewriting.QueryChange.TheVariants.{Stays, Becomes}
use Rattle.cd_rewrite.specs.declared.rewriting.Target.{Target}
use Rattle.cd_rewrite.specs.Substrings.{substituted}
use Rattle.cd_rewrite.specs.UriText.{uri_text}

-- the same query, or none in both places
abbrev pub same_query : Option (List ℕ) → Option (List ℕ) → Bool
same_query None None = true
same_query None (Some other) = false
same_query (Some query) None = false
same_query (Some query) (Some other) = bytes_eq query other

-- another path or another query: where neither is another all stays, else the uri is written again
unfoldable pub moved : List ℕ → Option (List ℕ) → RequestLine → RequestLine
moved path query line =
    if bytes_eq line.path path && same_query line.query query then line
    else record line { path = path; query = query; uri = uri_text path query }

-- first the method, where one is given
unfoldable pub method_changed : Option (List ℕ) → RequestLine → RequestLine
method_changed None line = line
method_changed (Some method) line = record line { method = method }

abbrev pub query_changed : QueryChange → Option (List ℕ) → Option (List ℕ)
query_changed Stays query = query
query_changed (Becomes other) query = other

-- then the path and the query of a `uri`, each where it is given
unfoldable pub target_changed : Target → RequestLine → RequestLine
target_changed target line = moved (unwrap_or target.path line.path) (query_changed target.query line.query) line

-- what stands behind the prefix, where the path begins with it in any case, with a `/` in front
unfoldable pub without_prefix : List ℕ → List ℕ → List ℕ
without_prefix prefix path =
    if starts_with nat_eq (str_to_ascii_lowercase path) (str_to_ascii_lowercase prefix)
    then with_slash (drop (length prefix) path) else path

-- then a prefix is taken from the path
unfoldable pub prefix_stripped : Option (List ℕ) → RequestLine → RequestLine
prefix_stripped None line = line
prefix_stripped (Some prefix) line = moved (without_prefix prefix line.path) line.query line

-- what stands in front of the suffix, where the path ends with it in any case; an empty path becomes `/`
unfoldable pub without_suffix : List ℕ → List ℕ → List ℕ
without_suffix suffix path =
    if ends_with nat_eq (str_to_ascii_lowercase path) (str_to_ascii_lowercase suffix)
    then or_root (take (length path - length suffix) path) else path

-- then a suffix
unfoldable pub suffix_stripped : Option (List ℕ) → RequestLine → RequestLine
suffix_stripped None line = line
suffix_stripped (Some suffix) line = moved (without_suffix suffix line.path) line.query line

-- the occurrences of one text, replaced, as often as its own limit lets them; what that makes may have only so many bytes
abbrev pub replaced : Replacement → List ℕ → Result (List ℕ) FillFault
replaced one text = bounded (substituted one.find one.replace one.limit text)

-- one after another; what each makes is tested, so the first that is too long ends it
unfoldable pub all_replaced : List Replacement → List ℕ → Result (List ℕ) FillFault
all_replaced [] text = Ok text
all_replaced (one ∷ replacements) text = replaced one text ▷ λ now. all_replaced replacements now

-- an absent query stays so
unfoldable pub query_replaced : List Replacement → Option (List ℕ) → Result (Option (List ℕ)) FillFault
query_replaced replacements None = Ok None
query_replaced replacements (Some query) = all_replaced replacements query ▷ λ now. Ok (Some now)

-- parts of the path, and apart from that of the query; a path without a `/` in front gets one, which is not counted
unfoldable pub target_replaced : List Replacement → RequestLine → Result Target FillFault
target_replaced replacements line =
    all_replaced replacements line.path ▷ λ path.
    query_replaced replacements line.query ▷ λ query.
    Ok (record { path = Some (with_slash path); query = Becomes query })

-- at last parts of the path and of the query are replaced
unfoldable pub substrings_replaced : Option (List Replacement) → RequestLine → Result RequestLine FillFault
substrings_replaced None line = Ok line
substrings_replaced (Some replacements) line =
    target_replaced replacements line ▷ λ target. Ok (target_changed target line)

-- the steps in their order; the last one alone can fail
unfoldable pub rewritten : Rewriting → RequestLine → Result RequestLine FillFault
rewritten r line =
    substrings_replaced r.replacements
    (suffix_stripped r.suffix
    (prefix_stripped r.prefix
    (target_changed r.target
    (method_changed r.method line))))

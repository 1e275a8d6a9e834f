-- Which blocks set no variable of a name that the settings of `vars` have for themselves.
use Rattle.std.specs.Prelude.{◌||◌, not, Bool, true, ◌&&◌, List, codes, ℕ}
use Rattle.std.specs.List.{list_all}
use Rattle.std.specs.Str.{bytes_eq}
use Rattle.cd_caddyfile.specs.Sites.{Action, vars, set_field, add_field, delete_field, redir, rewrite, respond, Block, done, act, handle, Site}

-- a variable has neither the name of the member that names the handler nor that of an id
abbrev pub is_plain : Action → Bool
is_plain (vars name value) = not (bytes_eq name (codes "handler") || bytes_eq name (codes "@id"))
is_plain (set_field name value) = true
is_plain (add_field name value) = true
is_plain (delete_field name) = true
is_plain (redir to code) = true
is_plain (rewrite to) = true
is_plain (respond body code) = true

unfoldable pub are_plain : Block → Bool
are_plain done = true
are_plain (act m a b) = is_plain a && are_plain b
are_plain (handle m inside b) = are_plain inside && are_plain b

-- the same of each site
abbrev pub have_plain_variables : List Site → Bool
have_plain_variables sites = list_all (λ s. are_plain s.block) sites

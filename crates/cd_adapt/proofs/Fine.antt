-- What the parts of a site hold, so that no object of its routes has a key twice.
use Rattle.std.specs.Prelude.{◌≡◌, false, List, [], ◌∷◌, Option, Some, None, codes, All, ⊤}
use Rattle.std.specs.Str.{bytes_eq}
use Rattle.cd_caddyfile.specs.Sites.{Wanted, Tests, Action, vars, set_field, add_field, delete_field, redir, rewrite, respond, Block, done, act, handle, Site}

-- no name is wanted twice
abbrev pub AreNamedOnce : List Wanted → Type 0
AreNamedOnce [] = ⊤
AreNamedOnce (w ∷ ws) = All (λ (o : Wanted). bytes_eq w.name o.name ≡ false) ws × AreNamedOnce ws

abbrev pub AreFine : Tests → Type 0
AreFine t = AreNamedOnce t.header × AreNamedOnce t.query

abbrev pub AreFineIf : Option Tests → Type 0
AreFineIf None = ⊤
AreFineIf (Some t) = AreFine t

-- a variable is not named as the member that names its handler
abbrev pub IsFine : Action → Type 0
IsFine (vars name value) = bytes_eq name (codes "handler") ≡ false
IsFine (set_field name value) = ⊤
IsFine (add_field name value) = ⊤
IsFine (delete_field name) = ⊤
IsFine (redir to code) = ⊤
IsFine (rewrite to) = ⊤
IsFine (respond body code) = ⊤

unfoldable pub IsFineBlock : Block → Type 0
IsFineBlock done = ⊤
IsFineBlock (act m a b) = AreFineIf m × (IsFine a × IsFineBlock b)
IsFineBlock (handle m inside b) = AreFineIf m × (IsFineBlock inside × IsFineBlock b)

abbrev pub AreFineSites : List Site → Type 0
AreFineSites ss = All (λ (s : Site). IsFineBlock s.block) ss

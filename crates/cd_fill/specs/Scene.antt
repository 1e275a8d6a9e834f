-- Part of the main theorem.
-- The state in which a request meets the first route.
use Rattle.std.specs.Prelude.{ℕ, List, [], ◌∷◌, codes, if◌then◌else◌, None, unwrap_or, nat_eq}
use Rattle.std.specs.List.{starts_with}
use Rattle.cd_wire.specs.declared.fields.Field.{Field}
use Rattle.cd_wire.specs.declared.request.Request.{Request}
use Rattle.cd_wire.specs.Targets.{has_scheme, local_part}
use Rattle.cd_fill.specs.declared.request_line.RequestLine.{RequestLine}
use Rattle.cd_fill.specs.declared.scene.Scene.{Scene}

-- the text, with a `/` in front where none stands
abbrev pub with_slash : List ℕ → List ℕ
with_slash text = if starts_with nat_eq text (codes "/") then text else 47 ∷ text

-- the target as it came; of an absolute one what stands behind its authority (RFC 9112, section 3.2)
abbrev pub uri_of : List ℕ → List ℕ
uri_of target = if has_scheme target then with_slash (local_part target) else target

-- what the request asks for
abbrev pub line_of : Request → RequestLine
line_of request = record {
  method = request.method;
  path = request.path;
  query = request.query;
  uri = uri_of request.target;
}

-- `server: Caddy`
abbrev pub server_field : Field
server_field = record { name = codes "server"; value = codes "Caddy" }

-- the opening scene: nothing is rewritten yet, no variable is set, no group is taken, and nothing has failed
abbrev pub scene_of : Request → Scene
scene_of request = record {
  current = line_of request;
  original = None;
  host = request.host;
  minor = request.minor;
  fields = request.fields;
  body = request.body;
  variables = [];
  groups = [];
  response = server_field ∷ [];
  error = None;
}

-- what was asked for at first: until something is rewritten that is what is asked for now
abbrev pub original_line : Scene → RequestLine
original_line x = unwrap_or x.original x.current

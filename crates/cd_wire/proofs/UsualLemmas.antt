-- The lines that most answers have.
use Rattle.std.proofs.Common.{rules, ◌≡◌, ℕ, List, ◌∷◌, [], filter, codes, sym, subst}
use Rattle.std.specs.List.{flat_map}
use Rattle.cd_wire.specs.declared.fields.Field.{Field}
use Rattle.std.specs.Fmt.{digits}
use Rattle.cd_wire.specs.Render.{is_sent, by_name, field_line, status_line, reason_of, phrase_of}
use Rattle.cd_wire.specs.Usual.{server, plain_type}

-- the lines that these fields are sent by
abbrev pub lines : List Field → List ℕ
lines fields = flat_map field_line (by_name (filter is_sent fields))

pub server_lines : codes "Server: Caddy\r\n" ≡ lines (server ∷ [])
unfolding field_line
server_lines = search rules

pub text_lines : codes "Content-Type: text/plain; charset=utf-8\r\nServer: Caddy\r\n" ≡ lines (server ∷ (plain_type ∷ []))
unfolding field_line
text_lines = search rules

-- fields that are the usual ones
pub server_found : (field : Field) → field ≡ server → codes "Server: Caddy\r\n" ≡ lines (field ∷ [])
server_found field is =
    subst (λ (f : Field). codes "Server: Caddy\r\n" ≡ lines (f ∷ [])) (sym is) server_lines

pub text_found : (first second : Field) → first ≡ server → second ≡ plain_type
    → codes "Content-Type: text/plain; charset=utf-8\r\nServer: Caddy\r\n" ≡ lines (first ∷ (second ∷ []))
text_found first second is type =
    subst (λ (f : Field). codes "Content-Type: text/plain; charset=utf-8\r\nServer: Caddy\r\n" ≡ lines (f ∷ (second ∷ []))) (sym is)
    (subst (λ (f : Field). codes "Content-Type: text/plain; charset=utf-8\r\nServer: Caddy\r\n" ≡ lines (server ∷ (f ∷ []))) (sym type) text_lines)

-- the usual status line
pub ok_line : codes "HTTP/1.1 200 OK\r\n" ≡ status_line 200
unfolding status_line reason_of phrase_of digits
ok_line = search rules

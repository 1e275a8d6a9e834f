-- Part of the main theorem.
-- `static_response` (Caddy, JSON Config Structure, http.handlers.static_response).
use Rattle.std.specs.Prelude.{ℕ, ◌==◌, ◌||◌, false, if◌then◌else◌, List, [], ◌∷◌, ◌++◌, length, codes, unwrap_or, Result, Ok}
use Rattle.std.specs.List.{list_any}
use Rattle.cd_text.specs.Steps.{◌▷◌}
use Rattle.cd_wire.specs.Fields.{is_named}
use Rattle.cd_wire.specs.declared.answer.Answer.{Answer}
use Rattle.cd_wire.specs.declared.fields.Field.{Field}
use Rattle.cd_module.specs.Settings.{Reader, text, truth, members, optional}
use Rattle.cd_fill.specs.declared.scene.Scene.{Scene}
use Rattle.cd_handlers.specs.declared.fault.HandlerFault.{HandlerFault}
use Rattle.cd_handlers.specs.declared.outcome.Effect.{Effect}
use Rattle.cd_handlers.specs.declared.outcome.Effect.TheVariants.{Answered}
use Rattle.cd_handlers.specs.declared.static_response.StaticResponse.{StaticResponse}
use Rattle.cd_handlers.specs.declared.static_response.Parts.{Parts}
use Rattle.cd_handlers.specs.Body.{is_json}
use Rattle.cd_handlers.specs.Failing.{or_failed}
use Rattle.cd_handlers.specs.FieldValues.{field_list, fields_or_none}
use Rattle.cd_handlers.specs.Fields.{replaced}
use Rattle.cd_handlers.specs.Filling.{text_filled, fields_filled}
use Rattle.cd_handlers.specs.Status.{status, status_given, usual_status}

-- ---- settings

unfoldable pub static_response : Reader StaticResponse
static_response t at =
    members (codes "handler status_code headers body close") t at ▷ λ ms.
    optional status (codes "status_code") ms at ▷ λ status.
    optional field_list (codes "headers") ms at ▷ λ headers.
    optional text (codes "body") ms at ▷ λ body.
    optional truth (codes "close") ms at ▷ λ close.
    Ok (record { status = status; headers = fields_or_none headers; body = unwrap_or body []; close = unwrap_or close false })

-- ---- the content type

abbrev pub content_type : List ℕ
content_type = codes "content-type"

-- the field that tells what the body is
unfoldable pub type_field : List ℕ → Field
type_field body = record {
  name = content_type;
  value = if is_json body then codes "application/json" else codes "text/plain; charset=utf-8";
}

-- a body that is not empty gets a type, where there is none
unfoldable pub with_type : List ℕ → List Field → List Field
with_type body fields =
    if length body == 0 || list_any (is_named content_type) fields then fields else fields ++ type_field body ∷ []

-- ---- what it does

-- all that is filled
unfoldable pub parts_filled : StaticResponse → Scene → Result Parts HandlerFault
parts_filled s x =
    status_given s.status (usual_status x.error) x ▷ λ status.
    fields_filled x s.headers ▷ λ headers.
    text_filled x s.body ▷ λ body.
    Ok (record { status = status; headers = headers; body = body })

-- the answer: each named field is replaced, and then the body gets a type
abbrev pub answered : StaticResponse → List Field → Parts → Answer
answered s response parts = record {
  status = parts.status;
  fields = with_type parts.body (replaced parts.headers response);
  body = parts.body;
  close = s.close;
}

unfoldable pub static_effect : StaticResponse → Scene → Effect
static_effect s x = or_failed x (parts_filled s x) (λ parts. Answered (answered s x.response parts))

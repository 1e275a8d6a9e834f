-- Part of the main theorem.
-- `headers` (Caddy, JSON Config Structure, http.handlers.headers).
use Rattle.std.specs.Prelude.{false, if◌then◌else◌, [], codes, Option, Some, None, unwrap_or, Result, Ok}
use Rattle.std.specs.Result.{result_ok}
use Rattle.cd_text.specs.Steps.{◌▷◌}
use Rattle.cd_module.specs.Patterns.{pattern}
use Rattle.cd_module.specs.Settings.{Reader, truth, list_of, members, optional}
use Rattle.cd_fill.specs.declared.scene.Scene.{Scene}
use Rattle.cd_handlers.specs.declared.changes.Changes.{Changes}
use Rattle.cd_handlers.specs.declared.changes.FilledChanges.{FilledChanges}
use Rattle.cd_handlers.specs.declared.changes.Side.TheVariants.{Request, Answer}
use Rattle.cd_handlers.specs.declared.fault.HandlerFault.{HandlerFault}
use Rattle.cd_handlers.specs.declared.headers.Both.{Both}
use Rattle.cd_handlers.specs.declared.headers.Headers.{Headers}
use Rattle.cd_handlers.specs.declared.headers.RequestChanges.{RequestChanges}
use Rattle.cd_handlers.specs.declared.headers.ResponseChanges.{ResponseChanges}
use Rattle.cd_handlers.specs.declared.outcome.Effect.{Effect}
use Rattle.cd_handlers.specs.declared.outcome.Effect.TheVariants.{Next}
use Rattle.cd_handlers.specs.Changes.{changed_by, values_filled, changes_filled}
use Rattle.cd_handlers.specs.Failing.{or_failed}
use Rattle.cd_handlers.specs.FieldValues.{field_list, fields_or_none, request_field_list, request_fields_or_none}

-- ---- settings

unfoldable pub request_changes : Reader RequestChanges
request_changes t at =
    members (codes "add set delete") t at ▷ λ ms.
    optional request_field_list (codes "add") ms at ▷ λ add.
    optional request_field_list (codes "set") ms at ▷ λ set.
    optional (list_of pattern) (codes "delete") ms at ▷ λ delete.
    Ok (record {
      changes = record {
        add = request_fields_or_none add;
        set = request_fields_or_none set;
        delete = unwrap_or delete [];
      };
    })

unfoldable pub response_changes : Reader ResponseChanges
response_changes t at =
    members (codes "add set delete deferred") t at ▷ λ ms.
    optional field_list (codes "add") ms at ▷ λ add.
    optional field_list (codes "set") ms at ▷ λ set.
    optional (list_of pattern) (codes "delete") ms at ▷ λ delete.
    optional truth (codes "deferred") ms at ▷ λ deferred.
    Ok (record {
      changes = record { add = fields_or_none add; set = fields_or_none set; delete = unwrap_or delete [] };
      deferred = unwrap_or deferred false;
    })

abbrev pub no_changes : Changes
no_changes = record { add = []; set = []; delete = [] }

abbrev pub request_or_none : Option RequestChanges → Changes
request_or_none None = no_changes
request_or_none (Some request) = request.changes

abbrev pub response_or_none : Option ResponseChanges → ResponseChanges
response_or_none None = record { changes = no_changes; deferred = false }
response_or_none (Some response) = response

unfoldable pub headers : Reader Headers
headers t at =
    members (codes "handler request response") t at ▷ λ ms.
    optional request_changes (codes "request") ms at ▷ λ request.
    optional response_changes (codes "response") ms at ▷ λ response.
    Ok (record { request = request_or_none request; response = response_or_none response })

-- ---- what it does

-- all values, filled in the scene that the handler found
unfoldable pub both_filled : Headers → Scene → Result Both HandlerFault
both_filled s x =
    values_filled x s.request ▷ λ request.
    values_filled x s.response.changes ▷ λ response.
    Ok (record { request = request; response = response })

-- the request's fields are changed, and the answer's too unless that is deferred
unfoldable pub goes_on : Headers → Scene → Both → Scene
goes_on s x both = record x {
  fields = changed_by Request both.request s.request.delete x.fields;
  response = if s.response.deferred then x.response else changed_by Answer both.response s.response.changes.delete x.response;
}

unfoldable pub headers_effect : Headers → Scene → Effect
headers_effect s x = or_failed x (both_filled s x) (λ both. Next (goes_on s x both))

-- changes that are deferred are filled in the scene that the handler found
unfoldable pub headers_deferred : Headers → Scene → Option FilledChanges
headers_deferred s x = if s.response.deferred then result_ok (changes_filled x s.response.changes) else None

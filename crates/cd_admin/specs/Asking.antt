-- Part of the main theorem.
-- What a request asks for, as far as the request alone says: the five tests after that of its host and its origin.
use Rattle.std.specs.Prelude.{ℕ, ◌==◌, ◌&&◌, not, Bool, true, false, if◌then◌else◌, List, length, codes, Option, Some, None, Result, Ok, Err}
use Rattle.cd_text.specs.Steps.{◌▷◌}
use Rattle.cd_tree.specs.Reading.{tree_of}
use Rattle.cd_tree.specs.declared.fault.TreeFault.{TreeFault}
use Rattle.cd_tree.specs.declared.tree.Tree.{Tree}
use Rattle.cd_path.specs.declared.verb.Verb.TheVariants.{Post, Put, Patch, Delete}
use Rattle.cd_caddyfile.specs.Adapting.{adapted}
use Rattle.cd_caddyfile.specs.declared.fault.CaddyfileFault.{CaddyfileFault}
use Rattle.cd_wire.specs.Fields.{values}
use Rattle.cd_wire.specs.declared.fields.Field.{Field}
use Rattle.cd_wire.specs.declared.request.Request.{Request}
use Rattle.cd_admin.specs.Endings.{Test, denied}
use Rattle.cd_admin.specs.Endpoints.{endpoint, action_at}
use Rattle.cd_admin.specs.Fields.{are_json, are_caddyfile}
use Rattle.cd_admin.specs.declared.action.Action.{Action}
use Rattle.cd_admin.specs.declared.action.Action.TheVariants.{Look, Change}
use Rattle.cd_admin.specs.declared.asked.Asked.{Asked}
use Rattle.cd_admin.specs.declared.denial.Denial.TheVariants.{ContentType, NoBody, Body, Sites}
use Rattle.cd_admin.specs.declared.ending.Ending.TheVariants.{Halt}
use Rattle.cd_admin.specs.declared.endpoint.Endpoint.{Endpoint}
use Rattle.cd_admin.specs.declared.endpoint.Endpoint.TheVariants.{Config, Id, Load, Stop}
use Rattle.cd_admin.specs.declared.form.Form.{Form}
use Rattle.cd_admin.specs.declared.form.Form.TheVariants.{Json, Caddyfile}

-- POST, PUT and PATCH come with a body; GET and DELETE do without
abbrev pub takes_body : Action → Bool
takes_body Look = false
takes_body (Change Post) = true
takes_body (Change Put) = true
takes_body (Change Patch) = true
takes_body (Change Delete) = false

-- what `/stop` takes is the halt
unfoldable pub no_halt : Endpoint → Test (Unit {0})
no_halt (Config path) = Ok tt
no_halt (Id id below) = Ok tt
no_halt Load = Ok tt
no_halt Stop = Err Halt

-- a Caddyfile is taken by `/load` alone
abbrev pub takes_caddyfile : Endpoint → Bool
takes_caddyfile (Config path) = false
takes_caddyfile (Id id below) = false
takes_caddyfile Load = true
takes_caddyfile Stop = false

-- what a body is written in, by its Content-Type; without one it is JSON
unfoldable pub form_for : Endpoint → Action → List Field → Test Form
form_for place action fields =
    let types = values (codes "content-type") fields in
    if not (takes_body action) then Ok Json
    else if are_json types then Ok Json
    else if takes_caddyfile place && are_caddyfile types then Ok Caddyfile
    else denied ContentType

-- the tree of JSON
abbrev pub tree_in : Result Tree TreeFault → Test (Option Tree)
tree_in (Ok tree) = Ok (Some tree)
tree_in (Err fault) = denied (Body fault)

-- the configuration of a Caddyfile
abbrev pub adapted_in : Result Tree CaddyfileFault → Test (Option Tree)
adapted_in (Ok tree) = Ok (Some tree)
adapted_in (Err fault) = denied (Sites fault)

abbrev pub read_as : Form → List ℕ → Test (Option Tree)
read_as Json bytes = tree_in (tree_of bytes)
read_as Caddyfile bytes = adapted_in (adapted bytes)

-- the body, where one is taken
unfoldable pub body_for : Action → Form → List ℕ → Test (Option Tree)
body_for action form bytes =
    if not (takes_body action) then Ok None
    else if length bytes == 0 then denied NoBody
    else read_as form bytes

-- what a request asks for, by the tests in their order
unfoldable pub asked : Request → Test Asked
asked q =
    endpoint q.path ▷ λ place.
    action_at place q.method ▷ λ action.
    no_halt place ▷ λ _.
    form_for place action q.fields ▷ λ form.
    body_for action form q.body ▷ λ body.
    Ok (record { place = place; action = action; body = body })

-- Part of the main theorem.
-- The lines of an answer in access logs. Their form is this project's own.
use Rattle.std.specs.Prelude.{ℕ, ◌&&◌, not, if◌then◌else◌, List, [], ◌∷◌, ◌++◌, length, map, codes, decimal}
use Rattle.std.specs.Char.{is_ascii_graphic}
use Rattle.std.specs.List.{flat_map}
use Rattle.cd_tree.specs.Tree as tree
use Rattle.cd_tree.specs.declared.tree.Tree.{Text}
use Rattle.cd_wire.specs.Render.{has_body, is_head}
use Rattle.cd_wire.specs.declared.request.Request.{Request}
use Rattle.cd_wire.specs.declared.answer.Answer.{Answer}
use Rattle.cd_module_set.specs.declared.target.Line.{Line}
use Rattle.cd_log.specs.Logging.{key_of}
use Rattle.cd_log.specs.declared.log.Log.{Log}
use Rattle.cd_log.specs.declared.logs.Logs.{Logs}

-- a name as JSON text
abbrev pub name_text : List ℕ → List ℕ
name_text name = tree.text (Text name)

-- a visible byte of ASCII as it is, and a question mark for any other
abbrev pub visible : ℕ → ℕ
visible byte = if is_ascii_graphic byte then byte else 63

-- what is sent of the body, as in the bytes of an answer: nothing to a HEAD, or with a status that has no body
abbrev pub body_sent : Request → Answer → List ℕ
body_sent request answer = if not (is_head request) && has_body answer.status then answer.body else []

-- a space before a part
abbrev pub spaced : List ℕ → List ℕ
spaced part = 32 ∷ part

-- the line: server, method, target, status, and the number of bytes of the body that are sent; then its end
unfoldable pub access_line : List ℕ → Request → Answer → List ℕ
access_line server request answer =
    name_text server
    ++ spaced (map visible request.method)
    ++ spaced (map visible request.target)
    ++ spaced (decimal answer.status)
    ++ spaced (decimal (length (body_sent request answer)))
    ++ codes "\n"

-- the line goes to the writer of a log that takes it
abbrev pub lines_of : List ℕ → Request → Answer → Log → List Line
lines_of server request answer log =
    if log.access then record { key = key_of log.writer; text = access_line server request answer } ∷ [] else []

-- log after log
abbrev pub access_lines : Logs → List ℕ → Request → Answer → List Line
access_lines logs server request answer = flat_map (lines_of server request answer) logs.logs

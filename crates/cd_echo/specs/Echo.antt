-- Part of the main theorem.
-- What the app `echo` answers.
use Rattle.std.specs.Prelude.{[], false}
use Rattle.cd_wire.specs.declared.answer.Answer.{Answer}
use Rattle.cd_wire.specs.declared.request.Request.{Request}

-- the body of the request
abbrev pub echo_answer : Request → Answer
echo_answer request = record { status = 200; fields = []; body = request.body; close = false }

use Rattle.std.proofs.Common.{sym}
use Rattle.cd_hall.proofs.Cached.{begun_turned, worn_turned}
use Rattle.cd_hall.proofs.Requested.{begins_are}
use Rattle.cd_hall.proofs.laws.the_beginning_of_a_request_is_one_entry.Goals as goal

pub returns-clause-turned : goal.returns-clause-turned
returns-clause-turned g c v w serial log b unchecked = (begun_turned v w serial log b unchecked, b.begins.current)

pub returns-clause-worn : goal.returns-clause-worn
returns-clause-worn g c v w log f is = worn_turned v w log f is

pub returns-clause-counted : goal.returns-clause-counted
returns-clause-counted g c log is = sym (begins_are log is)

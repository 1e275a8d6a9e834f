-- Part of the main theorem.
-- What a configuration does: who answers at an address, with what, and what is logged of it.
use Rattle.std.specs.Prelude.{◌≡◌, false, List, [], Option, Some, None}
use Rattle.cd_outside.specs.declared.address.Address.{Address}
use Rattle.cd_tree.specs.declared.tree.Tree.{Tree}
use Rattle.cd_wire.specs.declared.request.Request.{Request}
use Rattle.cd_wire.specs.declared.answer.Answer.{Answer}
use Rattle.cd_legal.specs.State.{Conf}
use Rattle.cd_module_set.specs.declared.target.Target.{Target}
use Rattle.cd_module_set.specs.declared.target.Target.TheVariants as target
use Rattle.cd_module_set.specs.declared.target.Line.{Line}

pub record Acts : Type 0 where
  -- who answers at an address
  pub target : Address → Target
  -- what an app there answers to a request
  pub answer : Address → Request → Answer
  -- what is logged of a request there that was so answered
  pub lines : Address → Request → Answer → List Line

-- this, where an app answers
abbrev pub by_app : {A : Type 0} → Target → A → Option A
by_app target.Admin value = None
by_app target.App value = Some value
by_app target.Nobody value = None

-- the answer to a request at an address, if an app answers there
abbrev pub answer_at : Acts → Address → Request → Option Answer
answer_at acts at request = by_app (acts.target at) (acts.answer at request)

-- what is logged of it, if an app answers there
abbrev pub lines_at : Acts → Address → Request → Answer → Option (List Line)
lines_at acts at request answer = by_app (acts.target at) (acts.lines at request answer)

-- two do the same: at each address the same one answers, an app with the same answers, of which the same is logged
pub record DoAlike (one other : Acts) : Type 0 where
  pub targets : (at : Address) → one.target at ≡ other.target at
  pub answers : (at : Address) (request : Request) → answer_at one at request ≡ answer_at other at request
  pub lines : (at : Address) (request : Request) (answer : Answer) → lines_at one at request answer ≡ lines_at other at request answer

-- nobody answers anywhere
abbrev pub nobody : Acts
nobody = record {
  target = λ at. target.Nobody;
  answer = λ at request. record { status = 200; fields = []; body = []; close = false };
  lines = λ at request answer. [];
}

-- what is configured, by what trees mean: before the first configuration and after the halt nobody answers
abbrev pub conf_acts : (Tree → Acts) → Conf → Acts
conf_acts acts Conf.Opening = nobody
conf_acts acts Conf.Halted = nobody
conf_acts acts (Conf.Of tree) = acts tree

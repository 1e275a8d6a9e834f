-- Part of the main theorem.
-- What a request comes to under a tree: an answer, another tree, or the halt.
use Rattle.std.specs.Prelude.{ℕ, ◌&&◌, not, if◌then◌else◌, List, [], ◌∷◌, ◌++◌, codes, Option, Some, None, Result, Ok, Err}
use Rattle.std.specs.Result.{result_ok}
use Rattle.std.specs.Str.{bytes_eq}
use Rattle.cd_text.specs.Steps.{◌▷◌}
use Rattle.cd_tree.specs.Tree.{text}
use Rattle.cd_tree.specs.declared.path.Path.{Path}
use Rattle.cd_tree.specs.declared.tree.Tree.{Tree}
use Rattle.cd_path.specs.Editing.{edit}
use Rattle.cd_path.specs.Looking.{look, or_null}
use Rattle.cd_path.specs.declared.fault.EditFault.{EditFault}
use Rattle.cd_path.specs.declared.verb.Verb.{Verb}
use Rattle.cd_ids.specs.Ids.{ids, path_of}
use Rattle.cd_tags.specs.Encoding.{tag_text}
use Rattle.cd_tags.specs.Framed.{tag_in}
use Rattle.cd_tags.specs.Tags.{digest, tag_holds}
use Rattle.cd_tags.specs.declared.if_match.Tag.{Tag}
use Rattle.cd_module.specs.declared.fault.LoadFault.{LoadFault}
use Rattle.cd_module.specs.declared.fault.LoadFault.TheVariants as load
use Rattle.cd_wire.specs.Fields.{values}
use Rattle.cd_wire.specs.declared.answer.Answer.{Answer}
use Rattle.cd_wire.specs.declared.fields.Field.{Field}
use Rattle.cd_wire.specs.declared.request.Request.{Request}
use Rattle.cd_admin.specs.Admin.{admin_of}
use Rattle.cd_admin.specs.Answers.{refusal, shown, done}
use Rattle.cd_admin.specs.Asking.{asked}
use Rattle.cd_admin.specs.Endings.{Test, denied}
use Rattle.cd_admin.specs.Fields.{must_revalidate}
use Rattle.cd_admin.specs.Origins.{admitted}
use Rattle.cd_admin.specs.declared.action.Action.{Action}
use Rattle.cd_admin.specs.declared.action.Action.TheVariants.{Look, Change}
use Rattle.cd_admin.specs.declared.asked.Asked.{Asked}
use Rattle.cd_admin.specs.declared.denial.Denial.TheVariants.{UnknownId, Edit, MalformedIfMatch, FailedIfMatch, Load as BadLoad}
use Rattle.cd_admin.specs.declared.ending.Ending.{Ending}
use Rattle.cd_admin.specs.declared.ending.Ending.TheVariants as ending
use Rattle.cd_admin.specs.declared.endpoint.Endpoint.{Endpoint}
use Rattle.cd_admin.specs.declared.endpoint.Endpoint.TheVariants.{Config, Id, Load, Stop}

-- ---- the tests, in their order

-- an id stands for the path of its object, and the parts below go on from there
abbrev pub below_id : List ℕ → List (List ℕ) → Option Path → Test Path
below_id id below None = denied (UnknownId id)
below_id id below (Some path) = Ok (record { parts = path.parts ++ below })

-- the path in the tree
unfoldable pub path_in : Tree → Endpoint → Test Path
path_in t (Config path) = Ok path
path_in t (Id id below) = below_id id below (path_of id (ids t))
path_in t Load = Ok (record { parts = [] })
path_in t Stop = Ok (record { parts = [] })

-- what is found is shown with its tag, an absent key as null
abbrev pub looked : Path → Result (Option Tree) EditFault → Ending
looked path (Ok found) = ending.Shown (tag_text path (digest (or_null found))) (text (or_null found))
looked path (Err fault) = ending.Denied (Edit fault)

-- a look ends here
unfoldable pub verb_of : Tree → Path → Action → Test Verb
verb_of t path Look = Err (looked path (look t path))
verb_of t path (Change verb) = Ok verb

-- the tag that a value of If-Match has the form of
abbrev pub tag_of_value : List ℕ → Option Tag
tag_of_value value = result_ok (tag_in value)

-- a tag holds of what stands at its own path
abbrev pub tag_test : Tree → Option Tag → Test (Unit {0})
tag_test t (Some tag) = if tag_holds t tag then Ok tt else denied FailedIfMatch
tag_test t None = denied MalformedIfMatch

-- one tag at most
abbrev pub tags_test : Tree → List (List ℕ) → Test (Unit {0})
tags_test t [] = Ok tt
tags_test t (value ∷ []) = tag_test t (tag_of_value value)
tags_test t (value ∷ other ∷ more) = denied MalformedIfMatch

-- If-Match counts where a path or an id is named (RFC 9110, section 13.1.1)
unfoldable pub matches : Tree → Endpoint → List Field → Test (Unit {0})
matches t (Config path) fields = tags_test t (values (codes "if-match") fields)
matches t (Id id below) fields = tags_test t (values (codes "if-match") fields)
matches t Load fields = Ok tt
matches t Stop fields = Ok tt

-- the edited tree
unfoldable pub edited : Result Tree EditFault → Test Tree
edited (Ok u) = Ok u
edited (Err fault) = denied (Edit fault)

-- nothing is done where nothing changes, unless it is asked for
unfoldable pub differs : List Field → Tree → Tree → Test (Unit {0})
differs fields t u = if bytes_eq (text t) (text u) && not (must_revalidate fields) then Err ending.Unchanged else Ok tt

-- the tree that is to be loaded
unfoldable pub made : Tree → List Field → Asked → Test Tree
made t fields a =
    path_in t a.place ▷ λ path.
    verb_of t path a.action ▷ λ verb.
    matches t a.place fields ▷ λ _.
    edited (edit t verb path a.body) ▷ λ u.
    differs fields t u ▷ λ _.
    Ok u

-- what a set of modules finds wrong with it; `P` is what the set plans for a tree without a fault
abbrev pub fine : {P : Type 0} → Result P LoadFault → Test (Unit {0})
fine (Ok plan) = Ok tt
fine (Err (load.Refused refusal)) = denied (BadLoad refusal)
fine (Err load.NoMemory) = Err ending.NoMemory

-- the tree that takes the place of this one, or how the request ends before that
unfoldable pub replaced : {P : Type 0} → (Tree → Result P LoadFault) → Tree → Request → Test Tree
replaced verdict t q =
    admitted (admin_of t) q.host q.fields ▷ λ _.
    asked q ▷ λ a.
    made t q.fields a ▷ λ u.
    fine (verdict u) ▷ λ _.
    Ok u

-- ---- the decision

-- what a request comes to
pub data Outcome : Type 0 where
  reply : Answer → Outcome
  replace : Tree → Outcome
  halt : Outcome

-- what an ending is answered; no request ends out of memory by these tests
abbrev pub ended : Ending → Outcome
ended (ending.Denied denial) = reply (refusal denial)
ended (ending.Shown tag value) = reply (shown tag value)
ended ending.Unchanged = reply done
ended ending.Halt = halt
ended ending.NoMemory = halt

abbrev pub outcome : Test Tree → Outcome
outcome (Ok u) = replace u
outcome (Err stop) = ended stop

-- the decision on a request under a tree, by a set's verdict on trees
unfoldable pub decided : {P : Type 0} → (Tree → Result P LoadFault) → Tree → Request → Outcome
decided verdict t q = outcome (replaced verdict t q)

-- the tree of a replacement
abbrev pub new_tree : Outcome → Option Tree
new_tree (reply answer) = None
new_tree (replace u) = Some u
new_tree halt = None

-- the tree that a request asks for, where it asks for a change
unfoldable pub change_of : {P : Type 0} → (Tree → Result P LoadFault) → Tree → Request → Option Tree
change_of verdict t q = new_tree (decided verdict t q)

-- Part of the main theorem.
-- The answers of the admin API.
use Rattle.std.specs.Prelude.{ℕ, false, List, [], ◌∷◌, ◌++◌, codes}
use Rattle.cd_tree.specs.Tree.{text}
use Rattle.cd_tree.specs.declared.tree.Member.{roll-Member}
use Rattle.cd_tree.specs.declared.tree.Tree.{Tree, Object, Text}
use Rattle.cd_wire.specs.declared.answer.Answer.{Answer}
use Rattle.cd_wire.specs.declared.fields.Field.{Field}
use Rattle.cd_admin.specs.Words.{words, status, allow}
use Rattle.cd_admin.specs.declared.denial.Denial.{Denial}
use Rattle.cd_admin.specs.declared.denial.Denial.TheVariants as denial

abbrev pub field : List ℕ → List ℕ → Field
field name value = record { name = name; value = value }

abbrev pub json_type : Field
json_type = field (codes "content-type") (codes "application/json")

-- a text and a newline
abbrev pub line : List ℕ → List ℕ
line text = text ++ 10 ∷ []

-- {"error":WORDS}
abbrev pub error_tree : List ℕ → Tree
error_tree words = Object (roll-Member (record { key = codes "error"; value = Text words }) ∷ [])

-- which methods are taken instead
abbrev pub allow_fields : Denial → List Field
allow_fields denial.OtherHost = []
allow_fields denial.OtherOrigin = []
allow_fields denial.UnknownPath = []
allow_fields (denial.OtherMethod methods) = field (codes "allow") (allow methods) ∷ []
allow_fields denial.ContentType = []
allow_fields denial.NoBody = []
allow_fields (denial.Body fault) = []
allow_fields (denial.Sites fault) = []
allow_fields (denial.UnknownId id) = []
allow_fields (denial.Edit fault) = []
allow_fields denial.MalformedIfMatch = []
allow_fields denial.FailedIfMatch = []
allow_fields (denial.Load refusal) = []

-- a refusal: its words as JSON, and what is taken instead
abbrev pub refusal : Denial → Answer
refusal d = record { status = status d; fields = json_type ∷ allow_fields d; body = line (text (error_tree (words d))); close = false }

-- a value, by its compact text, with its tag
abbrev pub shown : List ℕ → List ℕ → Answer
shown tag value = record { status = 200; fields = json_type ∷ (field (codes "etag") tag ∷ []); body = line value; close = false }

-- what was asked for is so
abbrev pub done : Answer
done = record { status = 200; fields = []; body = []; close = false }

-- Part of the main theorem.
-- The words and the status of each refusal.
use Rattle.std.specs.Prelude.{ℕ, List, [], ◌++◌, codes}
use Rattle.cd_tree.specs.declared.fault.TreeFault.{TreeFault}
use Rattle.cd_tree.specs.declared.fault.TreeFault.TheVariants as tree
use Rattle.cd_path.specs.declared.fault.EditFault.{EditFault}
use Rattle.cd_path.specs.declared.fault.EditFault.TheVariants as edit
use Rattle.cd_caddyfile.specs.Wording.{fault_words}
use Rattle.cd_module.specs.Words.{words as load_words}
use Rattle.cd_admin.specs.declared.denial.Denial.{Denial}
use Rattle.cd_admin.specs.declared.denial.Denial.TheVariants as denial
use Rattle.cd_admin.specs.declared.denial.Methods.{Methods}
use Rattle.cd_admin.specs.declared.denial.Methods.TheVariants.{All, PostAlone}

-- why a body is no tree
abbrev pub tree_words : TreeFault → List ℕ
tree_words tree.NotJson = codes "not JSON"
tree_words tree.FractionOrRange = codes "number is not a whole number in range"
tree_words tree.TooDeep = codes "nested too deeply"
tree_words tree.TooLong = codes "too long"
tree_words tree.NoMemory = []

-- why a path leads nowhere, or an edit is refused
abbrev pub edit_words : EditFault → List ℕ
edit_words edit.NoSuchKey = codes "no such key"
edit_words edit.KeyExists = codes "key already exists"
edit_words edit.BadIndex = codes "bad index"
edit_words edit.OutOfBounds = codes "index out of bounds"
edit_words edit.NotTraversable = codes "path cannot be traversed"
edit_words edit.NotAList = codes "destination is not a list"
edit_words edit.BodyNotList = codes "body is not a list"
edit_words edit.PositionPost = codes "POST at a position of a list"
edit_words edit.BodyMissing = codes "body missing"
edit_words edit.EllipsisVerb = codes "path ends in ... without POST"
edit_words edit.ResultTooDeep = codes "result nested too deeply"
edit_words edit.ResultTooLong = codes "result too long"
edit_words edit.NoMemory = []

-- an absent key is not found, and a present one is in conflict (RFC 9110, section 15.5)
abbrev pub edit_status : EditFault → ℕ
edit_status edit.NoSuchKey = 404
edit_status edit.KeyExists = 409
edit_status edit.BadIndex = 400
edit_status edit.OutOfBounds = 400
edit_status edit.NotTraversable = 400
edit_status edit.NotAList = 400
edit_status edit.BodyNotList = 400
edit_status edit.PositionPost = 400
edit_status edit.BodyMissing = 400
edit_status edit.EllipsisVerb = 400
edit_status edit.ResultTooDeep = 400
edit_status edit.ResultTooLong = 400
edit_status edit.NoMemory = 400

abbrev pub words : Denial → List ℕ
words denial.OtherHost = codes "host not allowed"
words denial.OtherOrigin = codes "origin not allowed"
words denial.UnknownPath = codes "unknown path"
words (denial.OtherMethod methods) = codes "method not allowed"
words denial.ContentType = codes "unacceptable content-type"
words denial.NoBody = codes "body missing"
words (denial.Body fault) = tree_words fault
words (denial.Sites fault) = fault_words fault
words (denial.UnknownId id) = codes "unknown id " ++ id
words (denial.Edit fault) = edit_words fault
words denial.MalformedIfMatch = codes "malformed If-Match"
words denial.FailedIfMatch = codes "If-Match does not hold"
words (denial.Load refusal) = load_words refusal

abbrev pub status : Denial → ℕ
status denial.OtherHost = 403
status denial.OtherOrigin = 403
status denial.UnknownPath = 404
status (denial.OtherMethod methods) = 405
status denial.ContentType = 400
status denial.NoBody = 400
status (denial.Body fault) = 400
status (denial.Sites fault) = 400
status (denial.UnknownId id) = 404
status (denial.Edit fault) = edit_status fault
status denial.MalformedIfMatch = 400
status denial.FailedIfMatch = 412
status (denial.Load refusal) = 400

-- the value of Allow (RFC 9110, section 10.2.1)
abbrev pub allow : Methods → List ℕ
allow All = codes "GET, POST, PUT, PATCH, DELETE"
allow PostAlone = codes "POST"

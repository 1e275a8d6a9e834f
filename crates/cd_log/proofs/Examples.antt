-- Examples of the definitions, from the rules by hand.
use Rattle.std.proofs.Common.{◌≡◌, ℕ, List, [], ◌∷◌, ◌++◌, true, false, refl, append_assoc, codes, None}
use Rattle.std.specs.Prelude.{decimal}
use Rattle.cd_wire.specs.declared.request.Request.{Request}
use Rattle.cd_wire.specs.declared.answer.Answer.{Answer}
use Rattle.cd_log.specs.Lines.{access_line, name_text}
use Rattle.cd_log.specs.Logging.{key_name, takes_access}
use Rattle.cd_log.specs.declared.writer.Writer.TheVariants.{File}

-- ---- which logs take the lines

nothing_said : takes_access [] [] ≡ true
nothing_said = refl

included_by_server : takes_access (codes "http.log.access.log0" ∷ []) [] ≡ true
included_by_server = refl

-- an entry that only the name begins with is no such entry
included_too_short : takes_access (codes "http.log" ∷ []) [] ≡ false
included_too_short = refl

excluded : takes_access [] (codes "admin" ∷ codes "http.log.access" ∷ []) ≡ false
excluded = refl

excluded_too_short : takes_access [] (codes "http.log" ∷ []) ≡ true
excluded_too_short = refl

-- ---- keys

file_key : key_name (File (codes "x.log")) ≡ codes "file:x.log"
file_key = refl

-- ---- lines

abbrev asked : List ℕ → List ℕ → Request
asked method target = record { method = method; target = target; path = target; query = None; host = []; minor = 1; fields = []; body = []; close = false }

abbrev answered : ℕ → List ℕ → Answer
answered status body = record { status = status; fields = []; body = body; close = false }

get_is_logged : access_line (codes "s") (asked (codes "GET") (codes "/x")) (answered 200 (codes "yo")) ≡ name_text (codes "s") ++ (codes " GET /x " ++ (decimal 200 ++ (codes " " ++ (decimal 2 ++ codes "\n"))))
unfolding access_line
get_is_logged = simp append_assoc refl

-- nothing of the body is sent to a HEAD
head_is_logged : access_line (codes "s") (asked (codes "HEAD") (codes "/x")) (answered 200 (codes "yo")) ≡ name_text (codes "s") ++ (codes " HEAD /x " ++ (decimal 200 ++ (codes " " ++ (decimal 0 ++ codes "\n"))))
unfolding access_line
head_is_logged = simp append_assoc refl

-- a line stays one line
controls_are_marked : access_line (codes "s") (asked (codes "GET") (codes "/\n x")) (answered 204 (codes "yo")) ≡ name_text (codes "s") ++ (codes " GET /??x " ++ (decimal 204 ++ (codes " " ++ (decimal 0 ++ codes "\n"))))
unfolding access_line
controls_are_marked = simp append_assoc refl

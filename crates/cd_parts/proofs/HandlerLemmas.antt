-- The handler of each directive.
use Rattle.std.proofs.Common.{◌≡◌, ℕ, true, List, [], ◌∷◌, ◌++◌, codes, refl, Option}
use Rattle.cd_tree.specs.declared.tree.Tree as tree
use Rattle.cd_caddyfile.specs.Shape.{handler_of, handler, response, member, field, text_list, status, given}
use Rattle.cd_caddyfile.specs.Sites.{vars, set_field, add_field, delete_field, redir, rewrite, respond}

pub handler_vars : (name value : List ℕ) → handler_of (vars name value) ≡ handler (codes "vars") (member name (tree.Text value) ∷ [])
unfolding handler_of
handler_vars name value = refl

pub handler_set : (name value : List ℕ) → handler_of (set_field name value) ≡ response (member (codes "set") (field name value) ∷ [])
unfolding handler_of
handler_set name value = refl

pub handler_add : (name value : List ℕ) → handler_of (add_field name value) ≡ response (member (codes "add") (field name value) ∷ [])
unfolding handler_of
handler_add name value = refl

pub handler_delete : (name : List ℕ) →
    handler_of (delete_field name) ≡ response (member (codes "delete") (text_list (name ∷ [])) ∷ member (codes "deferred") (tree.Bool true) ∷ [])
unfolding handler_of
handler_delete name = refl

pub handler_redir : (to : List ℕ) (code : ℕ) →
    handler_of (redir to code) ≡ handler (codes "static_response") (member (codes "headers") (field (codes "Location") to) ∷ member (codes "status_code") (status code) ∷ [])
unfolding handler_of
handler_redir to code = refl

pub handler_rewrite : (to : List ℕ) → handler_of (rewrite to) ≡ handler (codes "rewrite") (member (codes "uri") (tree.Text to) ∷ [])
unfolding handler_of
handler_rewrite to = refl

pub handler_respond : (body : Option (List ℕ)) (code : Option ℕ) →
    handler_of (respond body code) ≡ handler (codes "static_response") (given (codes "body") (λ t. tree.Text t) body ++ given (codes "status_code") status code)
unfolding handler_of
handler_respond body code = refl

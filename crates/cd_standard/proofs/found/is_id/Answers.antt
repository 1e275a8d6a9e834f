use Rattle.std.proofs.Common.{◌≡◌, ℕ, List, ◌++◌, true, nat_eq, length, take, drop, sym, ap₂, ◌∙◌}
use Rattle.std.specs.Cmp.Lexicographic.{pointwise, pointwise_decides}
use Rattle.std.proofs.lemmas.Bool.Decides.{Decides-eqb}
use Rattle.std.proofs.lemmas.List.{take-append-drop}
use Rattle.cd_standard.proofs.found.is_id.Goals as goal

-- what follows the namespace is the name
joined : (id namespace name : List ℕ) → pointwise nat_eq (take (length namespace) id) namespace ≡ true → drop (length namespace) id ≡ name → id ≡ namespace ++ name
joined id namespace name begins rest =
    sym (take-append-drop (length namespace) id) ∙ ap₂ (λ first second. first ++ second) ((pointwise_decides Decides-eqb (take (length namespace) id) namespace).0 begins) rest

pub returns-in-Some : goal.returns-in-Some
returns-in-Some c = λ same.
    let is = (pointwise_decides Decides-eqb c.in-Some.rest.now c.as_bytes-in-Some.result.now).0 (sym c.eq.ensures ∙ same) in
    let all = joined c.as_bytes.result.now c.as_bytes-2.result.now c.as_bytes-in-Some.result.now c.in-Some.ensures.cases.0 (sym c.in-Some.ensures.cases.1 ∙ is) in
    cc (all, c.as_bytes.ensures.value, c.as_bytes-2.ensures.value, c.as_bytes-in-Some.ensures.value)

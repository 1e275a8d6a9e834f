use Rattle.std.proofs.Common.{◌≡◌, ◌<◌, ◌++◌, [], length, ℕ, List, drop, subst, sym, ap, ◌∙◌}
use Rattle.std.proofs.lemmas.List.{append-nil}
use Rattle.cd_wire.specs.declared.dropped.Dropped.{Dropped}
use Rattle.cd_wire.specs.declared.taking.Known.{Known}
use Rattle.cd_wire.specs.Requests.{BeginsRequest}
use Rattle.cd_wire.specs.Taking.{IsKept}
use Rattle.cd_wire.proofs.CutLemmas.{none_after, some_request}
use Rattle.cd_wire.proofs.intake.Intake.hand_over.Goals as goal

-- the request goes, and what follows it stays
pub returns-in-Whole : goal.returns-in-Whole
returns-in-Whole c =
    let i = c.self.inside in
    let left = drop i.start i.buffer.items in
    let into_left = drop c.into.inside.start c.into.inside.buffer.items in
    let request = c.in-Whole.field-0 in
    let gone = c.replace-into-inside.result.bytes in
    let none = c.replace-into-inside.new.dest.bytes in
    let kept = subst (λ (k : Known). IsKept i.dropped.bytes left k) c.in-Whole.is c.self.invariant.1 in
    let nothing = none_after c.into.inside.dropped.bytes into_left (c.into.view_is ∙ c.requires) in
    let to : gone ++ into_left ≡ i.dropped.bytes =
    ap (λ (t : List ℕ). gone ++ t) nothing.1 ∙ append-nil gone ∙ ap (λ (d : Dropped). d.bytes) c.replace-into-inside.ensures.value in
    let from : none ++ left ≡ left =
    ap (λ (d : Dropped). d.bytes ++ left) c.replace-into-inside.ensures.after ∙ ap (λ (t : List ℕ). t ++ left) c.none.ensures in
    record {
      all = sym (ap (λ (t : List ℕ). t ++ (none ++ left)) to ∙ ap (λ (t : List ℕ). i.dropped.bytes ++ t) from ∙ c.self.view_is);
      one = λ is. (request, subst (λ (b : List ℕ). BeginsRequest b request []) (sym to) kept);
      other = λ is. cc;
      some = λ has. subst (λ (b : List ℕ). 0 < length b) (sym to) (some_request i.dropped.bytes request [] kept);
    }

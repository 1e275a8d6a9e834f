-- Lines of which each one that the plan names is there, and those of which none is left.
use Rattle.std.proofs.Common.{◌≡◌, ℕ, ◌<◌, ◌≤◌, List, length, sym, ap, ◌∙◌, arith, Option, Result}
use Rattle.std.proofs.lemmas.List.{length-set}
use Rattle.cd_outside.specs.declared.key.Key.{Key}
use Rattle.cd_outside.specs.declared.fixtures.FixtureCall.{FixtureCall}
use Rattle.cd_pool.specs.Pairs.{Holdings}
use Rattle.cd_legal.specs.declared.part.Part.{Part}
use Rattle.cd_legal.specs.declared.part.Part.TheVariants.{Instance, App}
use Rattle.cd_legal.specs.declared.state.Life.TheVariants.{Live}
use Rattle.cd_legal.specs.State.{part_keys}
use Rattle.cd_desk.specs.declared.line.Line.{Line}
use Rattle.cd_desk.specs.declared.row.Row.{Row}
use Rattle.cd_desk.specs.Lines.{IsWhole, OpensNext, EndsLast}
use Rattle.cd_desk.specs.Rows.{line_at}

-- where one is left to be ended all are there
pub ended_within : (l : Line) → l.ended < l.opened → (length (part_keys l.part l.plan.value) ≡ length l.parts.items) × (l.opened ≤ length l.parts.items)
ended_within l left = let within = l.within left in (l.all (omega (arith, left, within)), within)

-- and where one is left to be opened
pub opened_all : (l : Line) → l.opened < length l.parts.items → length (part_keys l.part l.plan.value) ≡ length l.parts.items
opened_all l more = l.all (omega (arith, more))

pub opened_whole : (d : ℕ) (l m : Line) (old new : Holdings) (before after : Option (List FixtureCall)) (result : Result (Unit {0}) Key) → OpensNext d l m old new before after result → IsWhole l → IsWhole m
opened_whole d l m old new before after result o w =
    ap (λ z. length (part_keys z m.plan.value)) o.part ∙ (ap (λ z. length (part_keys l.part z.value)) o.plan ∙ (w ∙ sym (ap length o.parts ∙ length-set l.parts.items l.opened o.is)))

pub ended_whole : (d : ℕ) (l m : Line) (old new : Holdings) (before after : Option (List FixtureCall)) → EndsLast d l m old new before after → IsWhole l → IsWhole m
ended_whole d l m old new before after o w =
    ap (λ z. length (part_keys z m.plan.value)) o.part ∙ (ap (λ z. length (part_keys l.part z.value)) o.plan ∙ (w ∙ sym (ap length o.parts ∙ length-set l.parts.items _ o.is)))

-- each line of a live draft is whole
pub live_whole : (p : Part) (r : Row) → r.life ≡ Live → IsWhole (line_at p r)
live_whole Instance r live = (r.whole live).0
live_whole App r live = (r.whole live).1

-- The instances of a draft, or its apps, one behind the other.
use Rattle.std.specs.Prelude.{◌≡◌, ℕ, ◌≤◌, ◌+◌, ◌-◌, List, [], length, reverse, slice_get, slice_set, Option, Some, Result}
use Rattle.cd_outside.specs.declared.key.Key.{Key}
use Rattle.cd_outside.specs.declared.fixtures.FixtureCall.{FixtureCall}
use Rattle.cd_pool.specs.Pairs.{Holdings}
use Rattle.cd_legal.specs.State.{part_of, part_keys}
use Rattle.cd_desk.specs.declared.instance.Instance.{Instance}
use Rattle.cd_desk.specs.declared.line.Line.{Line}
use Rattle.cd_desk.specs.Instances.{Takes, Gives}
use Rattle.cd_desk.specs.Waiting.{waits}

-- each that the plan names is there
abbrev pub IsWhole : Line → Type 0
IsWhole l = length (part_keys l.part l.plan.value) ≡ length l.parts.items

-- the next one was opened
pub record OpensNext (d : ℕ) (l m : Line) (old new : Holdings) (before after : Option (List FixtureCall)) (result : Result (Unit {0}) Key) : Type 0 where
  pub was : Instance
  pub is : Instance
  pub there : slice_get l.parts.items l.opened ≡ Some was
  pub parts : m.parts.items ≡ slice_set l.parts.items l.opened is
  pub takes : Takes (reverse was.waiting.items) (part_of l.part d l.opened) old.held new.held before after is.leases.items result
  pub spare : old.spare ≤ new.spare + waits was
  pub none : waits is ≡ 0
  pub opened : m.opened ≡ l.opened + 1
  pub ended : m.ended ≡ l.ended
  pub part : m.part ≡ l.part
  pub plan : m.plan ≡ l.plan

-- the last one that was opened and not ended was ended
pub record EndsLast (d : ℕ) (l m : Line) (old new : Holdings) (before after : Option (List FixtureCall)) : Type 0 where
  pub was : Instance
  pub is : Instance
  pub there : slice_get l.parts.items (l.opened - l.ended - 1) ≡ Some was
  pub parts : m.parts.items ≡ slice_set l.parts.items (l.opened - l.ended - 1) is
  pub gives : Gives (part_of l.part d (l.opened - l.ended - 1)) old.held new.held before after
  pub empty : is.leases.items ≡ []
  pub waiting : is.waiting.items ≡ was.waiting.items
  pub spare : old.spare ≤ new.spare
  pub opened : m.opened ≡ l.opened
  pub ended : m.ended ≡ l.ended + 1
  pub part : m.part ≡ l.part
  pub plan : m.plan ≡ l.plan

use Rattle.std.proofs.Common.{◌≡◌, drop}
use Rattle.std.specs.List.{list_any}
use Rattle.cd_handlers.specs.Changes.{deletes}
use Rattle.cd_handlers.proofs.changes.is_deleted.Given as goal

abbrev pub invariant-loop-pattern : goal.invariant-loop-pattern
invariant-loop-pattern l = list_any (deletes l.field) l.patterns ≡ list_any (deletes l.field) (drop l.pattern-index l.patterns)

-- Part of the main theorem.
-- Lists that are lent until they become others.
use Rattle.std.specs.Prelude.{List}
use Rattle.cd_wire.specs.declared.lent.Kept.{Kept}
use Rattle.cd_wire.specs.declared.lent.Kept.TheVariants.{Shared, Own}

-- the list, whoever it belongs to
abbrev pub kept_list : {T : Type 0} → Kept T → List T
kept_list (Shared list) = list.now
kept_list (Own list) = list

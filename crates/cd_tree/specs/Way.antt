-- Part of the main theorem.
-- The path to which a way leads.
use Rattle.std.specs.Prelude.{[], decimal}
use Rattle.cd_tree.specs.Path.{◌▸◌}
use Rattle.cd_tree.specs.Spot.{base_path}
use Rattle.cd_tree.specs.declared.path.Path.{Path}
use Rattle.cd_tree.specs.declared.way.Way.{Way, fold-Way}
use Rattle.cd_tree.specs.declared.way.Way.TheOpen.{Way-F}

-- one part more, by its name or by its place in decimal
abbrev pub path_step : Way-F Path → Path
path_step Way-F.Top = record { parts = [] }
path_step (Way-F.Base parts) = base_path parts.now
path_step (Way-F.Member above name) = above.now ▸ name.now
path_step (Way-F.Named above name) = above.now ▸ name.now
path_step (Way-F.Element above place) = above.now ▸ decimal place

-- the parts in their order
abbrev pub path_of : Way → Path
path_of = fold-Way Path path_step

-- Part of the main theorem.
-- The words of refusals.
use Rattle.std.specs.Prelude.{ℕ, List, ◌++◌, codes}
use Rattle.cd_tree.specs.Path.{written}
use Rattle.cd_tree.specs.declared.path.Path.{Path}
use Rattle.cd_module.specs.declared.fault.LoadKind.{LoadKind}
use Rattle.cd_module.specs.declared.fault.LoadKind.TheVariants.{UnknownModule, UnknownMember, WrongKind, Missing, BadValue, BadAddress, RepeatedAddress, RepeatedId, LimitReached, NamedCycle}
use Rattle.cd_module.specs.declared.fault.Refusal.{Refusal}

-- the fixed words in front
abbrev pub front : LoadKind → List ℕ
front UnknownModule = codes "unknown module "
front UnknownMember = codes "unknown member at "
front WrongKind = codes "wrong kind at "
front Missing = codes "missing at "
front BadValue = codes "bad value at "
front BadAddress = codes "bad address at "
front RepeatedAddress = codes "repeated address "
front RepeatedId = codes "repeated id "
front LimitReached = codes "limit reached: "
front NamedCycle = codes "named route cycle at "

-- what is meant, and where
abbrev pub about_at : List ℕ → Path → List ℕ
about_at about at = about ++ (codes " at " ++ written at)

-- what follows the front: the path, what is meant and the path, both paths, or what is meant alone
abbrev pub rest : LoadKind → Refusal → List ℕ
rest UnknownModule r = about_at r.about r.at
rest UnknownMember r = written r.at
rest WrongKind r = written r.at
rest Missing r = written r.at
rest BadValue r = written r.at
rest BadAddress r = written r.at
rest RepeatedAddress r = about_at r.about r.at
rest RepeatedId r = about_at r.about r.at ++ (codes " and " ++ written r.other)
rest LimitReached r = r.about
rest NamedCycle r = written r.at

-- the words of a refusal
abbrev pub words : Refusal → List ℕ
words r = front r.kind ++ rest r.kind r

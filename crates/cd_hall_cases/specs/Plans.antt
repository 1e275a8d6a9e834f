-- What the two configurations of the case program consist of.
use Rattle.std.specs.Prelude.{ℕ, Bool, if◌then◌else◌, [], ◌∷◌, codes}
use Rattle.cd_outside.specs.declared.address.Address.{Address}
use Rattle.cd_outside.specs.declared.key.Key.TheVariants.{Listen, Writer}
use Rattle.cd_legal.specs.declared.plan.Plan.{Plan}

abbrev pub localhost : ℕ → Address
localhost port = record { host = codes "localhost"; port = port }

-- one module that writes, and one app that listens
abbrev pub plain_plan : Plan
plain_plan = record {
  modules = record { name = codes "writer"; at = record { parts = [] }; keys = Writer (codes "stdout") ∷ [] } ∷ [];
  apps = record { name = codes "listener"; keys = Listen (localhost 8080) ∷ [] } ∷ [];
}

-- three modules that write, and two apps that listen: five keys, of which three are shared, two of these with the plain plan
abbrev pub wide_plan : Plan
wide_plan = record {
  modules =
      record { name = codes "writer"; at = record { parts = [] }; keys = Writer (codes "stdout") ∷ [] } ∷
      record { name = codes "auditor"; at = record { parts = [] }; keys = Writer (codes "stdout") ∷ Writer (codes "file:audit") ∷ [] } ∷
      record { name = codes "tracer"; at = record { parts = [] }; keys = Writer (codes "file:audit") ∷ Writer (codes "file:trace") ∷ [] } ∷ [];
  apps =
      record { name = codes "listener"; keys = Listen (localhost 8080) ∷ [] } ∷
      record { name = codes "listeners"; keys = Listen (localhost 8080) ∷ Listen (localhost 8443) ∷ [] } ∷ [];
}

-- the first configuration is the plain one, and the other the wide one
abbrev pub plain_or_wide : Bool → Plan
plain_or_wide wide = if wide then wide_plan else plain_plan

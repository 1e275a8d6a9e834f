-- What the two configurations of the case program consist of.
use Rattle.std.specs.Prelude.{ℕ, Bool, if◌then◌else◌, [], ◌∷◌, codes}
use Rattle.cd_outside.specs.declared.key.Key.TheVariants.{Listen}
use Rattle.cd_legal.specs.declared.plan.Plan.{Plan}

-- one app that listens at one port, and no module
abbrev pub plan_at : ℕ → Plan
plan_at port = record {
  modules = [];
  apps = record { name = codes "listener"; keys = Listen (record { host = codes "localhost"; port = port }) ∷ [] } ∷ [];
}

-- the port of the other configuration, or that of the first
abbrev pub either_port : Bool → Plan
either_port other = plan_at (if other then 8443 else 8080)

-- Part of the main theorem.
-- What a Caddyfile says: sites, each with a block of directives.
use Rattle.std.specs.Prelude.{ℕ, List, [], Option, None}
use Rattle.cd_caddyfile.specs.declared.address.Address.{Address}
use Rattle.cd_caddyfile.specs.declared.tests.Tests.{Tests as AllTests}
use Rattle.cd_caddyfile.specs.declared.tests.Wanted.{Wanted as SomeWanted}

-- values that are wanted of a field or of a key
abbrev pub Wanted : Type 0
Wanted = SomeWanted

-- a matcher: all that is given is to hold
abbrev pub Tests : Type 0
Tests = AllTests

abbrev pub no_tests : Tests
no_tests = record { path = None; method = None; host = None; header = []; query = [] }

-- a directive without a block
pub data Action : Type 0 where
  vars : List ℕ → List ℕ → Action
  set_field : List ℕ → List ℕ → Action
  add_field : List ℕ → List ℕ → Action
  delete_field : List ℕ → Action
  redir : List ℕ → ℕ → Action
  rewrite : List ℕ → Action
  respond : Option (List ℕ) → Option ℕ → Action

-- directives in their order, each with its matcher, if it has one
pub data Block : Type 0 where
  done : Block
  act : Option Tests → Action → Block → Block
  handle : Option Tests → Block → Block → Block

pub record Site : Type 0 where
  pub address : Address
  pub block : Block

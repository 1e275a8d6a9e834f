-- Part of the main theorem.
-- What contracts see of a head and of a request.
use Rattle.std.specs.Prelude.{ℕ, Bool, List, Option}
use Rattle.cd_wire.specs.declared.fields.Field.{Field}

-- what is kept of the head of a request
pub record HeadParts : Type 0 where
  pub method : List ℕ
  pub target : List ℕ
  pub minor : ℕ
  pub fields : List Field

-- a request, as it was read
pub record RequestParts : Type 0 where
  pub method : List ℕ
  pub target : List ℕ
  pub path : List ℕ
  pub query : Option (List ℕ)
  pub host : List ℕ
  pub minor : ℕ
  pub fields : List Field
  pub body : List ℕ
  pub close : Bool

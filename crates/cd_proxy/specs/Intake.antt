-- What an intake of responses is, and what a call leaves of it.
use Rattle.std.specs.Prelude.{◌≡◌, ℕ, Bool, List}
use Rattle.cd_proxy.specs.declared.reading.Reading.{Reading}
use Rattle.cd_proxy.specs.declared.reading.Reading.TheVariants as reading
use Rattle.cd_proxy.specs.Responses.{BeginsResponse}

-- the bytes that no response has taken, and whether the request was HEAD
pub record ResponseInput : Type 0 where
  pub to_head : Bool
  pub bytes : List ℕ

-- what is left where this was found: all, but for a response, which is taken off the front
abbrev pub IsLeft : ResponseInput → Bool → ResponseInput → Reading → Type 0
IsLeft old ended new (reading.Whole answer) =
    (new.to_head ≡ old.to_head) × BeginsResponse old.bytes ended old.to_head answer new.bytes
IsLeft old ended new reading.More = new ≡ old
IsLeft old ended new reading.Bad = new ≡ old

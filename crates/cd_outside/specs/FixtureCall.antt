-- Part of the main theorem.
-- What fixtures tell of their calls, and what these leave open.
use Rattle.std.specs.Prelude.{◌≡◌, Bool, true, false, cond, List, [], ◌∷◌, ◌++◌, Option, Some, option_map, IfSome}
use Rattle.cd_outside.specs.Keys.{key_eq}
use Rattle.cd_outside.specs.declared.key.Key.{Key}
use Rattle.cd_outside.specs.declared.fixtures.Opened.{Opened}
use Rattle.cd_outside.specs.declared.fixtures.Opened.TheVariants as opened
use Rattle.cd_outside.specs.declared.fixtures.FixtureCall.{FixtureCall}
use Rattle.cd_outside.specs.declared.fixtures.FixtureCall.TheVariants as call

-- what is told of an opening
abbrev pub opening_of : Opened → Key → FixtureCall
opening_of opened.Ready key = call.Opened key
opening_of opened.Failed key = call.NotOpened key

-- where calls are told now, they were told before, and there are these calls more
abbrev pub CallsGrow : Option (List FixtureCall) → List FixtureCall → Option (List FixtureCall) → Type 0
CallsGrow before more now = IfSome now (λ calls. option_map (λ old. old ++ more) before ≡ Some calls)

-- the keys without the first that is this one
abbrev pub without_key : Key → List Key → List Key
without_key key [] = []
without_key key (k ∷ ks) = cond (key_eq key k) ks (k ∷ without_key key ks)

-- the keys that are open after a call, where these were open before
abbrev pub open_after : List Key → FixtureCall → List Key
open_after keys (call.Opened key) = keys ++ key ∷ []
open_after keys (call.NotOpened key) = keys
open_after keys (call.Closed key) = without_key key keys
open_after keys call.Shut = keys

-- the same after some calls
abbrev pub open_from : List Key → List FixtureCall → List Key
open_from keys [] = keys
open_from keys (c ∷ cs) = open_from (open_after keys c) cs

-- the keys that are open after all calls, in the order of their openings; one that was opened twice stands twice
abbrev pub open_keys : List FixtureCall → List Key
open_keys calls = open_from [] calls

-- the call is a shutting
abbrev pub is_shutting : FixtureCall → Bool
is_shutting (call.Opened key) = false
is_shutting (call.NotOpened key) = false
is_shutting (call.Closed key) = false
is_shutting call.Shut = true

-- a shutting is among the calls
abbrev pub was_shut : List FixtureCall → Bool
was_shut [] = false
was_shut (c ∷ cs) = cond (is_shutting c) true (was_shut cs)

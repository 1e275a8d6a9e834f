-- What is open after one call more, and whether there was a shutting.
use Rattle.std.proofs.Common.{◌≡◌, ◌≤◌, ◌∙◌, ℕ, suc, Bool, true, false, cond, List, [], ◌∷◌, ◌++◌, take, drop, refl, ap, sym, arith}
use Rattle.std.specs.List.{remove}
use Rattle.cd_outside.specs.Keys.{key_eq}
use Rattle.cd_outside.specs.declared.key.Key.{Key}
use Rattle.cd_outside.specs.declared.fixtures.FixtureCall.{FixtureCall}
use Rattle.cd_outside.specs.FixtureCall.{without_key, open_after, open_from, open_keys, is_shutting, was_shut}

open_more : (keys : List Key) (calls : List FixtureCall) (c : FixtureCall) → open_from keys (calls ++ c ∷ []) ≡ open_after (open_from keys calls) c
open_more keys [] c = refl
open_more keys (d ∷ calls) c = open_more (open_after keys d) calls c

pub open_keys_more : (calls : List FixtureCall) (c : FixtureCall) → open_keys (calls ++ c ∷ []) ≡ open_after (open_keys calls) c
open_keys_more calls c = open_more [] calls c

either : (b d : Bool) (x y : Bool) → x ≡ cond y true d → cond b true x ≡ cond y true (cond b true d)
either true d x true e = refl
either true d x false e = refl
either false d x y e = e

pub was_shut_more : (calls : List FixtureCall) (c : FixtureCall) → was_shut (calls ++ c ∷ []) ≡ cond (is_shutting c) true (was_shut calls)
was_shut_more [] c = refl
was_shut_more (d ∷ calls) c = either (is_shutting d) (was_shut calls) (was_shut (calls ++ c ∷ [])) (is_shutting c) (was_shut_more calls c)

-- a record of calls, with one more
pub recorded : (held held' : List Key) (calls calls' : List FixtureCall) (b b' : Bool) (c : FixtureCall) → held ≡ open_keys calls → b ≡ was_shut calls → calls' ≡ calls ++ c ∷ [] → held' ≡ open_after held c → b' ≡ cond (is_shutting c) true b
    → (held' ≡ open_keys calls') × (b' ≡ was_shut calls')
recorded held held' calls calls' b b' c keys shut added opened closed = (
  opened ∙ ap (λ z. open_after z c) keys ∙ sym (ap open_keys added ∙ open_keys_more calls c),
  closed ∙ ap (λ z. cond (is_shutting c) true z) shut ∙ sym (ap was_shut added ∙ was_shut_more calls c),
)

pub one_at_most : (b : Bool) → cond b 0 1 ≤ 1
one_at_most true = omega arith
one_at_most false = omega arith

-- the key is taken out at its first place
pub taken_first : (key one : Key) (keys : List Key) (at : ℕ) → drop at keys ≡ one ∷ drop (suc at) keys → key_eq key one ≡ true → without_key key keys ≡ take at keys ++ without_key key (drop at keys) → remove keys at ≡ without_key key keys
taken_first key one keys at there hit before =
    let here : without_key key (drop at keys) ≡ drop (suc at) keys = ap (without_key key) there ∙ ap (λ b. cond b (drop (suc at) keys) (one ∷ without_key key (drop (suc at) keys))) hit in
    sym (before ∙ ap (λ z. take at keys ++ z) here)

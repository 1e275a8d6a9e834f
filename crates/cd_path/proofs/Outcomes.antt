-- Steps that may fail, one after another: what holds of the value at the end.
use Rattle.std.proofs.Common.{◌≡◌, ℕ, ◌<◌, List, nat_lt, Bool, true, false, cond, Option, Some, None, Result, Ok, Err, IfOk, refl, subst}
use Rattle.std.proofs.lemmas.Bool.{ltb-true}
use Rattle.cd_text.specs.Gives.{Gives}
use Rattle.cd_text.specs.Steps.{◌▷◌, refused_where, some_or}
use Rattle.cd_path.specs.Position.{position, place}
use Rattle.cd_path.specs.declared.fault.EditFault.{EditFault}
use Rattle.cd_path.specs.declared.fault.EditFault.TheVariants.{BadIndex, OutOfBounds, NoMemory}

-- what the first step gives has P, and from that the next gives what has Q
pub next_ok : {A B : Type 0} (P : A → Type 0) (Q : B → Type 0) (r : Result A EditFault) (f : A → Result B EditFault) → IfOk r P → ((a : A) → P a → IfOk (f a) Q) → IfOk (r ▷ f) Q
next_ok P Q (Ok a) f p step = step a p
next_ok P Q (Err e) f p step = tt

pub any_ok : {A : Type 0} (r : Result A EditFault) → IfOk r (λ _. Unit {0})
any_ok (Ok a) = tt
any_ok (Err e) = tt

-- what is given is what is given
pub is_itself : {A : Type 0} (r : Result A EditFault) → IfOk r (λ a. r ≡ Ok a)
is_itself (Ok a) = refl
is_itself (Err e) = tt

pub from_ok : {A : Type 0} (P : A → Type 0) (r : Result A EditFault) (a : A) → r ≡ Ok a → IfOk r P → P a
from_ok P r a e h = subst (λ (s : Result _ EditFault). IfOk s P) e h

-- what holds at each index holds at all of them
pub all_ok : {A I : Type 0} (P : I → A → Type 0) (r : Result A EditFault) → ((i : I) → IfOk r (P i)) → IfOk r (λ a. (i : I) → P i a)
all_ok P (Ok a) h = h
all_ok P (Err e) h = tt

-- of two outcomes of a test both have P
pub either_ok : {A : Type 0} (P : A → Type 0) (b : Bool) (r s : Result A EditFault) → IfOk r P → IfOk s P → IfOk (cond b r s) P
either_ok P true r s p q = p
either_ok P false r s p q = q

-- a refused test gives no value
pub unless_ok : {A : Type 0} (P : A → Type 0) (b : Bool) (fault : EditFault) (r : Result A EditFault) → IfOk r P → IfOk (refused_where b fault ▷ λ _. r) P
unless_ok P true fault r p = tt
unless_ok P false fault r p = p

below_bound : (bound n : ℕ) (b : Bool) → nat_lt n bound ≡ b → let r : Result ℕ EditFault = cond b (Ok n) (Err OutOfBounds) in IfOk r (λ m. (Some n ≡ Some m) × (m < bound))
below_bound bound n true e = (refl, ltb-true n bound e)
below_bound bound n false e = tt

position_below : (bound : ℕ) (p : Option ℕ) → IfOk (some_or BadIndex p ▷ λ n. cond (nat_lt n bound) (Ok n) (Err OutOfBounds)) (λ n. (p ≡ Some n) × (n < bound))
position_below bound None = tt
position_below bound (Some n) = below_bound bound n (nat_lt n bound) refl

-- the place is the position, and is below the bound
pub place_tells : (bound : ℕ) (part : List ℕ) → IfOk (place bound part) (λ n. (position part ≡ Some n) × (n < bound))
place_tells bound part = position_below bound (position part)

-- what holds of the definition's value holds of the call's
pub given : {A : Type 0} (P : A → Type 0) (r expected : Result A EditFault) → Gives NoMemory r expected → IfOk expected P → IfOk r P
given P (Ok a) expected e p = subst (λ (s : Result _ EditFault). IfOk s P) e p
given P (Err f) expected e p = tt

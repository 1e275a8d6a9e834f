-- What follows for a result.
use Rattle.std.proofs.Common.{◌≡◌, subst}
use Rattle.std.specs.Prelude.{Result, Ok, Err, IfOk, IfErr, OnErr}

pub if_ok : {A E : Type 0} (P Q : A → Type 0) (r : Result A E) → ((a : A) → P a → Q a) → IfOk r P → IfOk r Q
if_ok P Q (Ok a) goes is = goes a is
if_ok P Q (Err e) goes is = tt

-- what was said of a result whose value this one has
pub if_told : {A E K : Type 0} (P : A → Type 0) (r : Result A E) (o : Result A K) → IfOk r (λ a. o ≡ Ok a) → IfOk o P → IfOk r P
if_told P (Ok a) o is had = subst (λ z. IfOk z P) is had
if_told P (Err e) o is had = tt

-- and for one that is an error
pub on_err : {A E : Type 0} (P Q : Type 0) (r : Result A E) → (P → Q) → OnErr r P → OnErr r Q
on_err P Q (Ok a) goes is = tt
on_err P Q (Err e) goes is = goes is

-- of two things
pub if_ok_two : {A E : Type 0} (P Q R : A → Type 0) (r : Result A E) → ((a : A) → P a → Q a → R a) → IfOk r P → IfOk r Q → IfOk r R
if_ok_two P Q R (Ok a) goes p q = goes a p q
if_ok_two P Q R (Err e) goes p q = tt

-- what follows for an error
pub if_err : {A E : Type 0} (P Q : E → Type 0) (r : Result A E) → ((e : E) → P e → Q e) → IfErr r P → IfErr r Q
if_err P Q (Ok a) goes is = tt
if_err P Q (Err e) goes is = goes e is

-- Instances that are made for a plan.
use Rattle.std.proofs.Common.{◌≡◌, ℕ, zero, suc, ◌+◌, ◌<◌, List, [], ◌∷◌, ◌++◌, length, refl, sym, ap, ◌∙◌, arith, subst, map, take, reverse, get_or, All}
use Rattle.std.proofs.Math.Seq.{take-suc}
use Rattle.cd_outside.specs.declared.key.Key.{Key}
use Rattle.cd_desk.specs.declared.instance.Instance.{Instance}
use Rattle.cd_desk.specs.Waiting.{Wait, AllWait, IsEmpty}

pub all_empty : (parts : List Instance) (keys : List (List Key)) → AllWait parts keys → All IsEmpty parts
all_empty [] keys w k d lt = absurd (omega arith)
all_empty (a ∷ parts) [] w k d lt = absurd w
all_empty (a ∷ parts) (ks ∷ keys) w zero d lt = w.1
all_empty (a ∷ parts) (ks ∷ keys) w (suc k) d lt = all_empty parts keys w.2 k d (omega arith)

wait_more : (parts : List Instance) (keys : List (List Key)) (a : Instance) (ks : List Key) → AllWait parts keys → reverse a.waiting.items ≡ ks → a.leases.items ≡ [] → AllWait (parts ++ a ∷ []) (keys ++ ks ∷ [])
wait_more [] [] a ks w e f = (e, f, tt)
wait_more [] (k ∷ keys) a ks w e f = absurd w
wait_more (b ∷ parts) [] a ks w e f = absurd w
wait_more (b ∷ parts) (k ∷ keys) a ks w e f = (w.0, w.1, wait_more parts keys a ks w.2 e f)

map-append : {A B : Type 0} (f : A → B) (xs ys : List A) → map f (xs ++ ys) ≡ map f xs ++ map f ys
map-append f [] ys = refl
map-append f (x ∷ xs) ys = ap (λ z. f x ∷ z) (map-append f xs ys)

pub one_waits : {A : Type 0} (f : A → List Key) (xs : List A) (i : ℕ) (x : A) (parts parts' : List Instance) (a : Instance) → i < length xs → x ≡ get_or xs i x → parts' ≡ parts ++ a ∷ [] → AllWait parts (map f (take i xs)) → reverse a.waiting.items ≡ f x → a.leases.items ≡ []
    → AllWait parts' (map f (take (i + 1) xs))
one_waits f xs i x parts parts' a lt is placed w e none =
    let longer : map f (take (i + 1) xs) ≡ map f (take i xs) ++ f x ∷ [] = ap (λ z. map f (take z xs)) (let s : i + 1 ≡ suc i = omega arith in s) ∙ (ap (map f) (take-suc xs i x lt ∙ ap (λ z. take i xs ++ z ∷ []) (sym is)) ∙ map-append f (take i xs) (x ∷ [])) in
    subst (λ z. AllWait z (map f (take (i + 1) xs))) (sym placed) (subst (λ z. AllWait (parts ++ a ∷ []) z) (sym longer) (wait_more parts (map f (take i xs)) a (f x) w e none))

-- before anything is made all of them wait
pub all_wait : (parts : List Instance) (keys : List (List Key)) → AllWait parts keys → Wait 0 parts keys
all_wait [] keys w i a there le = cc
all_wait (b ∷ parts) [] w i a there le = absurd w
all_wait (b ∷ parts) (ks ∷ keys) w zero a there le = subst (λ (z : Instance). (reverse z.waiting.items ≡ ks) × (z.leases.items ≡ [])) (let e : b ≡ a = cc in e) (w.0, w.1)
all_wait (b ∷ parts) (ks ∷ keys) w (suc i) a there le = all_wait parts keys w.2 i a there (omega arith)

pub wait_length : (parts : List Instance) (keys : List (List Key)) → AllWait parts keys → length parts ≡ length keys
wait_length [] [] w = refl
wait_length [] (ks ∷ keys) w = absurd w
wait_length (a ∷ parts) [] w = absurd w
wait_length (a ∷ parts) (ks ∷ keys) w = ap suc (wait_length parts keys w.2)

length-map : {A B : Type 0} (f : A → B) (xs : List A) → length (map f xs) ≡ length xs
length-map f [] = refl
length-map f (x ∷ xs) = ap suc (length-map f xs)

pub planned : {A : Type 0} (f : A → List Key) (xs : List A) (parts : List Instance) → AllWait parts (map f xs) → length xs ≡ length parts
planned f xs parts w = sym (wait_length parts (map f xs) w ∙ length-map f xs)

-- What a lane tells of its last connection, one change after another.
use Rattle.std.proofs.Common.{◌≡◌, ◌∙◌, List, [], ◌∷◌, ◌++◌, ℕ, Option, Some, None, option_map, refl, ap, sym}
use Rattle.std.proofs.lemmas.List.{append_assoc, append-nil}
use Rattle.cd_outside.specs.declared.accepted.Accepted.TheVariants as accepted
use Rattle.cd_outside.specs.declared.address.Address.{Address}
use Rattle.cd_outside.specs.declared.past.Connection.{Connection}
use Rattle.cd_outside.specs.declared.past.Past.{Past}
use Rattle.cd_outside.specs.Past.{with_last, with_connection, after_accept, fresh}

with_last-twice : {A : Type 0} (f g h : A → A) (xs : List A) → ((x : A) → g (f x) ≡ h x) → with_last g (with_last f xs) ≡ with_last h xs
with_last-twice f g h [] same = refl
with_last-twice f g h (x ∷ []) same = ap (λ z. z ∷ []) (same x)
with_last-twice f g h (x ∷ y ∷ []) same = ap (λ z. x ∷ z ∷ []) (same y)
with_last-twice f g h (x ∷ y ∷ z ∷ zs) same = ap (λ ws. x ∷ ws) (with_last-twice f g h (y ∷ z ∷ zs) same)

with_last-same : {A : Type 0} (f : A → A) (xs : List A) → ((x : A) → f x ≡ x) → with_last f xs ≡ xs
with_last-same f [] same = refl
with_last-same f (x ∷ []) same = ap (λ z. z ∷ []) (same x)
with_last-same f (x ∷ y ∷ ys) same = ap (λ zs. x ∷ zs) (with_last-same f (y ∷ ys) same)

-- two changes of the connection make one
pub changes : (f g h : Connection → Connection) (first old now : Option Past) → old ≡ option_map (with_connection f) first → now ≡ option_map (with_connection g) old → ((c : Connection) → g (f c) ≡ h c) → now ≡ option_map (with_connection h) first
changes f g h None old now one two same = two ∙ ap (option_map (with_connection g)) one
changes f g h (Some p) old now one two same = two ∙ ap (option_map (with_connection g)) one ∙ ap Some (ap (λ (cs : List Connection). record p { connections = cs }) (with_last-twice f g h p.connections same))

-- a change that changes nothing
pub no-change : (f : Connection → Connection) (told : Option Past) → ((c : Connection) → f c ≡ c) → told ≡ option_map (with_connection f) told
no-change f None same = refl
no-change f (Some p) same = ap Some (ap (λ (cs : List Connection). record p { connections = cs }) (sym (with_last-same f p.connections same)))

with_last-as : {A : Type 0} (f g : A → A) (xs : List A) → ((x : A) → f x ≡ g x) → with_last f xs ≡ with_last g xs
with_last-as f g [] same = refl
with_last-as f g (x ∷ []) same = ap (λ z. z ∷ []) (same x)
with_last-as f g (x ∷ y ∷ ys) same = ap (λ zs. x ∷ zs) (with_last-as f g (y ∷ ys) same)

-- one change for another one that does the same
pub change-as : (f g : Connection → Connection) (old now : Option Past) → now ≡ option_map (with_connection f) old → ((c : Connection) → f c ≡ g c) → now ≡ option_map (with_connection g) old
change-as f g None now is same = is
change-as f g (Some p) now is same = is ∙ ap Some (ap (λ (cs : List Connection). record p { connections = cs }) (with_last-as f g p.connections same))

-- no bytes were put
pub nothing-put : (told : Option Past) → told ≡ option_map (with_connection (λ c. record c { put = c.put ++ [] })) told
nothing-put told = no-change (λ c. record c { put = c.put ++ [] }) told (λ c. ap (λ (t : List ℕ). record c { put = t }) (append-nil c.put))

-- a change of all that is told that changes nothing
pub as-it-is : (told : Option Past) → option_map (λ p. p) told ≡ told
as-it-is None = refl
as-it-is (Some p) = refl

-- ---- one connection more

with_last-append : {A : Type 0} (f : A → A) (xs : List A) (x : A) → with_last f (xs ++ x ∷ []) ≡ xs ++ f x ∷ []
with_last-append f [] x = refl
with_last-append f (y ∷ []) x = refl
with_last-append f (y ∷ z ∷ zs) x = ap (λ ws. y ∷ ws) (with_last-append f (z ∷ zs) x)

-- the past with one more connection, which was served
pub past_is : (at : Address) (q now : Past) (f : Connection → Connection) → Some now ≡ option_map (with_connection f) (Some (after_accept (accepted.Connection at) q)) → now ≡ with_connection f (after_accept (accepted.Connection at) q)
past_is at q now f is = cc

pub connections_more : (at : Address) (p q now : Past) (cs : List Connection) (f : Connection → Connection) → q.connections ≡ p.connections ++ cs → now ≡ with_connection f (after_accept (accepted.Connection at) q) → now.connections ≡ p.connections ++ (cs ++ f (fresh at) ∷ [])
connections_more at p q now cs f added is =
    ap (λ (z : Past). z.connections) is ∙ with_last-append f q.connections (fresh at) ∙ ap (λ (xs : List Connection). xs ++ f (fresh at) ∷ []) added ∙ append_assoc p.connections cs (f (fresh at) ∷ [])

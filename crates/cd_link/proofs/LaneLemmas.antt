-- What a lane tells, where the life of its connection goes on.
use Rattle.std.proofs.Common.{◌≡◌, ◌<◌, ◌≤◌, ◌++◌, ◌∙◌, ℕ, List, [], ◌∷◌, length, Some, Option, None, is_some, unwrap_or, option_map, true, refl, sym, ap, subst, arith}
use Rattle.cd_outside.specs.declared.past.Past.{Past}
use Rattle.cd_outside.specs.declared.past.Connection.{Connection}
use Rattle.cd_outside.specs.declared.key.Key.{Key}
use Rattle.cd_outside.specs.declared.received.Received.{Received}
use Rattle.cd_outside.specs.declared.received.Received.TheVariants as received
use Rattle.cd_outside.specs.Received.{IsReceived, after_receipt}
use Rattle.cd_outside.specs.Given.{IsGivenOf}
use Rattle.cd_outside.specs.declared.given.Given.{Given}
use Rattle.cd_outside.specs.declared.given.Given.TheVariants as given
use Rattle.cd_outside.specs.Since.{CameWith}
use Rattle.cd_outside.specs.Past.{with_last, with_connection, after_put, after_line, after_keep}
use Rattle.cd_link.specs.Lanes.{last_of, with_stretch, past_of, stretches, serials, last_serial}
use Rattle.cd_link.specs.Links.{IsWritten, Receives}

last_with : {A : Type 0} (f : A → A) (cs : List A) → last_of (with_last f cs) ≡ with_last f (last_of cs)
last_with f [] = refl
last_with f (c ∷ []) = refl
last_with f (c ∷ d ∷ []) = refl
last_with f (c ∷ d ∷ e ∷ cs) = last_with f (d ∷ e ∷ cs)

last_some : {A : Type 0} (cs : List A) → 0 < length cs → 0 < length (last_of cs)
last_some [] some = absurd (omega (arith, some))
last_some (c ∷ []) some = omega arith
last_some (c ∷ d ∷ cs) some = last_some (d ∷ cs) (omega arith)

pub last_added : {A : Type 0} (cs : List A) (x : A) → last_of (cs ++ x ∷ []) ≡ x ∷ []
last_added [] x = refl
last_added (c ∷ []) x = refl
last_added (c ∷ d ∷ cs) x = last_added (d ∷ cs) x

with_cons : {A : Type 0} (f : A → A) (x : A) (cs : List A) → 0 < length cs → with_last f (x ∷ cs) ≡ x ∷ with_last f cs
with_cons f x [] some = absurd (omega (arith, some))
with_cons f x (c ∷ cs) some = refl

some_more : {A : Type 0} (xs ys : List A) → 0 < length ys → 0 < length (xs ++ ys)
some_more [] ys some = some
some_more (x ∷ xs) ys some = omega arith

with_end : {A : Type 0} (f : A → A) (xs ys : List A) → 0 < length ys → with_last f (xs ++ ys) ≡ xs ++ with_last f ys
with_end f [] ys some = refl
with_end f (x ∷ xs) ys some = with_cons f x (xs ++ ys) (some_more xs ys some) ∙ ap (λ (zs : List _). x ∷ zs) (with_end f xs ys some)

told_with : (f : Connection → Connection) (over life : Past) → 0 < length life.connections → with_stretch over (with_connection f life) ≡ with_connection f (with_stretch over life)
told_with f over life some =
    ap (λ (cs : List Connection). record over { connections = cs })
    (ap (λ (cs : List Connection). over.connections ++ cs) (last_with f life.connections)
    ∙ sym (with_end f over.connections (last_of life.connections) (last_some life.connections some)))

told_receipt : (r : Received) (piece : List ℕ) (over life : Past) → 0 < length life.connections → with_stretch over (after_receipt r piece life) ≡ after_receipt r piece (with_stretch over life)
told_receipt received.Some piece over life some = told_with _ over life some
told_receipt received.End piece over life some = told_with _ over life some
told_receipt received.Failed piece over life some = refl
told_receipt received.Lacking piece over life some = told_with _ over life some

told_put : (part : List ℕ) (over life : Past) → 0 < length life.connections → with_stretch over (after_put part life) ≡ after_put part (with_stretch over life)
told_put part over life some = told_with _ over life some

told_line : (g : Given) (k : Key) (l : List ℕ) (over life : Past) → 0 < length life.connections → with_stretch over (after_line g k l life) ≡ after_line g k l (with_stretch over life)
told_line given.All k l over life some = told_with _ over life some
told_line given.Failed k l over life some = refl

told_keep : (g : Given) (n : ℕ) (t : List ℕ) (over life : Past) → 0 < length life.connections → with_stretch over (after_keep g n t life) ≡ after_keep g n t (with_stretch over life)
told_keep given.All n t over life some = told_with _ over life some
told_keep given.Failed n t over life some = refl

-- the same, where the life was left so by a call
receives_on : (r : Received) (before after : List ℕ) (over life now : Past) → 0 < length life.connections → Receives r before after life now → (piece : List ℕ) × IsReceived r piece before after × (Some (with_stretch over now) ≡ Some (after_receipt r piece (with_stretch over life)))
receives_on r before after over life now some is = (is.0, is.1, ap Some (ap (with_stretch over) is.2 ∙ told_receipt r is.0 over life some))

pub receives_held : (r : Received) (before after : List ℕ) (over life now : Past) (held : Option Past) → held ≡ Some life → 0 < length (stretches held) → Receives r before after life now → (piece : List ℕ) × IsReceived r piece before after × (Some (with_stretch over now) ≡ Some (after_receipt r piece (past_of over held)))
receives_held r before after over life now held is some received =
    subst (λ (h : Option Past). 0 < length (stretches h) → (piece : List ℕ) × IsReceived r piece before after × (Some (with_stretch over now) ≡ Some (after_receipt r piece (past_of over h))))
    (sym is) (λ s. receives_on r before after over life now s received) some

pub ends_on : (over life now : Past) → 0 < length life.connections → now ≡ after_receipt received.End [] life → Some (with_stretch over now) ≡ Some (after_receipt received.End [] (with_stretch over life))
ends_on over life now some is = ap Some (ap (with_stretch over) is ∙ told_receipt received.End [] over life some)

puts_on : (g : Given) (piece : List ℕ) (over life now : Past) → 0 < length life.connections → IsWritten g piece life now → (part : List ℕ) × IsGivenOf g part piece × (Some (with_stretch over now) ≡ Some (after_put part (with_stretch over life)))
puts_on g piece over life now some is = (is.0, is.1, ap Some (ap (with_stretch over) is.2 ∙ told_put is.0 over life some))

pub puts_held : (g : Given) (piece : List ℕ) (over life now : Past) (held : Option Past) → held ≡ Some life → 0 < length (stretches held) → IsWritten g piece life now → (part : List ℕ) × IsGivenOf g part piece × (Some (with_stretch over now) ≡ Some (after_put part (past_of over held)))
puts_held g piece over life now held is some written =
    subst (λ (h : Option Past). 0 < length (stretches h) → (part : List ℕ) × IsGivenOf g part piece × (Some (with_stretch over now) ≡ Some (after_put part (past_of over h))))
    (sym is) (λ s. puts_on g piece over life now s written) some

pub logs_on : (g : Given) (k : Key) (l : List ℕ) (over life now : Past) → 0 < length life.connections → now ≡ after_line g k l life → Some (with_stretch over now) ≡ Some (after_line g k l (with_stretch over life))
logs_on g k l over life now some is = ap Some (ap (with_stretch over) is ∙ told_line g k l over life some)

pub keeps_on : (g : Given) (n : ℕ) (t : List ℕ) (over life now : Past) → 0 < length life.connections → now ≡ after_keep g n t life → Some (with_stretch over now) ≡ Some (after_keep g n t (with_stretch over life))
keeps_on g n t over life now some is = ap Some (ap (with_stretch over) is ∙ told_keep g n t over life some)

pub keeps_all : (n : ℕ) (t : List ℕ) (over life now : Past) → 0 < length life.connections → now ≡ after_keep given.All n t life → Some (with_stretch over now) ≡ Some (after_keep given.All n t (with_stretch over life))
keeps_all n t over life now some is = keeps_on given.All n t over life now some is

last_cons : {A : Type 0} (x : A) (cs : List A) → 0 < length cs → last_of (x ∷ cs) ≡ last_of cs
last_cons x [] some = absurd (omega (arith, some))
last_cons x (c ∷ cs) some = refl

last_twice : {A : Type 0} (cs : List A) → last_of (last_of cs) ≡ last_of cs
last_twice [] = refl
last_twice (c ∷ []) = refl
last_twice (c ∷ d ∷ cs) = last_twice (d ∷ cs)

last_after : {A : Type 0} (xs ys : List A) → 0 < length ys → last_of (xs ++ ys) ≡ last_of ys
last_after [] ys some = refl
last_after (x ∷ xs) ys some = last_cons x (xs ++ ys) (some_more xs ys some) ∙ last_after xs ys some

pub last_told : (over life : Past) → 0 < length life.connections → last_of (with_stretch over life).connections ≡ last_of life.connections
last_told over life some = last_after over.connections (last_of life.connections) (last_some life.connections some) ∙ last_twice life.connections

-- the serial that is told last
pub last_serial_added : (serials : List ℕ) (serial : ℕ) → last_serial (serials ++ serial ∷ []) ≡ serial
last_serial_added [] serial = refl
last_serial_added (x ∷ []) serial = refl
last_serial_added (x ∷ y ∷ ys) serial = last_serial_added (y ∷ ys) serial

-- of a connection that comes its serial is told last
pub told_serial : {A : Type 0} (serial : A → ℕ) (held : Option A) (before now : List ℕ) → now ≡ before ++ serials (option_map serial held) → is_some held ≡ true → last_serial now ≤ unwrap_or (option_map serial held) 0
told_serial serial None before now is some = cc
told_serial serial (Some x) before now is some =
    let same : last_serial now ≡ serial x = ap last_serial is ∙ last_serial_added before (serial x) in
    omega (arith, same)

-- a request that begins under no older serial than the connection has begins under none that is older than what it came with
pub came_last : (told : List ℕ) (least held serial : ℕ) → CameWith (Some told) least → last_serial told ≤ held → held ≤ serial → least ≤ serial
came_last told least held serial (before, is) kept later =
    let same : last_serial told ≡ least = ap (λ (o : Option (List ℕ)). last_serial (unwrap_or o [])) is ∙ last_serial_added before least in
    omega (arith, same, kept, later)

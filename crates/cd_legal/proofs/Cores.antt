-- What a history without Begin and Finish leaves.
use Rattle.std.proofs.Common.{◌≡◌, Bool, true, false, cond, List, [], ◌∷◌, ◌++◌, refl, sym, ap, ◌∙◌}
use Rattle.cd_legal.specs.declared.entry.Entry.{Entry}
use Rattle.cd_legal.specs.declared.entry.Entry.TheVariants.{Begin, Finish, Retire}
use Rattle.cd_legal.specs.declared.entry.Signed.{Signed}
use Rattle.cd_legal.specs.declared.state.State.{State}
use Rattle.cd_legal.specs.Entry.{entries}
use Rattle.cd_legal.specs.State.{opening_state}
use Rattle.cd_legal.specs.Legal.{allowed, after, state_from, state_of, state_at}
use Rattle.cd_legal.specs.Laws.{core, core_at, is_core, bare}

-- the same but for the tickets
bare_from : (s : State) (log : List Entry) → bare (state_from s log) ≡ state_from (bare s) (core log)
bare_from s [] = refl
bare_from s (Begin k n ∷ es) = bare_from (after s (Begin k n)) es
bare_from s (Finish k ∷ es) = bare_from (after s (Finish k)) es
bare_from s (e ∷ es) = bare_from (after s e) es

one_core : (e : Entry) (es : List Entry) → core (e ∷ es) ≡ cond (is_core e) (e ∷ core es) (core es)
one_core (Begin k n) es = refl
one_core (Finish k) es = refl
one_core e es = refl

core_if : (b : Bool) (x : Signed) (xs : List Signed) (es : List Entry) → entries xs ≡ es → entries (cond b (x ∷ xs) xs) ≡ cond b (x.entry ∷ es) es
core_if true x xs es is = ap (λ (z : List Entry). x.entry ∷ z) is
core_if false x xs es is = is

-- with signatures or without
pub entries-core : (log : List Signed) → entries (core_at log) ≡ core (entries log)
entries-core [] = refl
entries-core (x ∷ xs) = core_if (is_core x.entry) x (core_at xs) (core (entries xs)) (entries-core xs) ∙ sym (one_core x.entry (entries xs))

-- of a history
pub bare-core : (log : List Signed) → bare (state_at log) ≡ state_at (core_at log)
bare-core log = bare_from opening_state (entries log) ∙ ap state_of (sym (entries-core log))

split : (b : Bool) (x : Signed) (xs ys : List Signed) → cond b (x ∷ (xs ++ ys)) (xs ++ ys) ≡ cond b (x ∷ xs) xs ++ ys
split true x xs ys = refl
split false x xs ys = refl

-- of two lists
pub core-append : (xs ys : List Signed) → core_at (xs ++ ys) ≡ core_at xs ++ core_at ys
core-append [] ys = refl
core-append (x ∷ xs) ys = ap (λ (z : List Signed). cond (is_core x.entry) (x ∷ z) z) (core-append xs ys) ∙ split (is_core x.entry) x (core_at xs) (core_at ys)

-- asks nothing of the tickets
abbrev pub is_apart : Entry → Bool
is_apart (Begin k n) = false
is_apart (Finish k) = false
is_apart (Retire n) = false
is_apart e = true

-- such an entry is allowed without them too
pub allowed-bare : (s : State) (e : Entry) → is_apart e ≡ true → allowed (bare s) e ≡ allowed s e
allowed-bare s (Begin k n) is = cc
allowed-bare s (Finish k) is = cc
allowed-bare s (Retire n) is = cc
allowed-bare s e is = refl

-- and leaves the same without them
pub after-bare : (s : State) (e : Entry) → is_core e ≡ true → bare (after s e) ≡ after (bare s) e
after-bare s (Begin k n) is = cc
after-bare s (Finish k) is = cc
after-bare s e is = refl

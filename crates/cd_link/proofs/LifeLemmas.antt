-- How the bytes of a whole life change with its last stretch.
use Rattle.std.proofs.Common.{◌≡◌, ◌<◌, ◌++◌, ◌∙◌, ℕ, zero, suc, List, [], ◌∷◌, length, take, drop, refl, sym, ap, arith}
use Rattle.std.proofs.lemmas.List.{append-nil, append_assoc, take-append-drop}
use Rattle.cd_outside.specs.declared.past.Past.{Past}
use Rattle.cd_outside.specs.declared.past.Connection.{Connection}
use Rattle.cd_outside.specs.declared.address.Address.{Address}
use Rattle.cd_outside.specs.declared.received.Received.TheVariants as received
use Rattle.cd_outside.specs.Received.{after_receipt}
use Rattle.cd_outside.specs.declared.given.Given.{Given}
use Rattle.cd_outside.specs.declared.given.Given.TheVariants as given
use Rattle.cd_outside.specs.declared.key.Key.{Key}
use Rattle.cd_outside.specs.Past.{with_last, fresh, after_put, after_line, after_keep}
use Rattle.cd_link.specs.Life.{taken_of, put_of}
use Rattle.cd_link.specs.Links.{IsWritten}

taken_with : (f : Connection → Connection) (bs : List ℕ) → ((c : Connection) → (f c).taken ≡ c.taken ++ bs) → (cs : List Connection) → 0 < length cs → taken_of (with_last f cs) ≡ taken_of cs ++ bs
taken_with f bs is [] some = absurd (omega (arith, some))
taken_with f bs is (c ∷ []) some = append-nil (f c).taken ∙ is c ∙ ap (λ (x : List ℕ). x ++ bs) (sym (append-nil c.taken))
taken_with f bs is (c ∷ d ∷ cs) some = ap (λ (x : List ℕ). c.taken ++ x) (taken_with f bs is (d ∷ cs) (omega arith)) ∙ sym (append_assoc c.taken (taken_of (d ∷ cs)) bs)

put_with : (f : Connection → Connection) (bs : List ℕ) → ((c : Connection) → (f c).put ≡ c.put ++ bs) → (cs : List Connection) → 0 < length cs → put_of (with_last f cs) ≡ put_of cs ++ bs
put_with f bs is [] some = absurd (omega (arith, some))
put_with f bs is (c ∷ []) some = append-nil (f c).put ∙ is c ∙ ap (λ (x : List ℕ). x ++ bs) (sym (append-nil c.put))
put_with f bs is (c ∷ d ∷ cs) some = ap (λ (x : List ℕ). c.put ++ x) (put_with f bs is (d ∷ cs) (omega arith)) ∙ sym (append_assoc c.put (put_of (d ∷ cs)) bs)

taken_same : (f : Connection → Connection) → ((c : Connection) → (f c).taken ≡ c.taken) → (cs : List Connection) → taken_of (with_last f cs) ≡ taken_of cs
taken_same f is [] = refl
taken_same f is (c ∷ []) = ap (λ (x : List ℕ). x ++ []) (is c)
taken_same f is (c ∷ d ∷ cs) = ap (λ (x : List ℕ). c.taken ++ x) (taken_same f is (d ∷ cs))

put_same : (f : Connection → Connection) → ((c : Connection) → (f c).put ≡ c.put) → (cs : List Connection) → put_of (with_last f cs) ≡ put_of cs
put_same f is [] = refl
put_same f is (c ∷ []) = ap (λ (x : List ℕ). x ++ []) (is c)
put_same f is (c ∷ d ∷ cs) = ap (λ (x : List ℕ). c.put ++ x) (put_same f is (d ∷ cs))

pub length_last : (f : Connection → Connection) (cs : List Connection) → length (with_last f cs) ≡ length cs
length_last f [] = refl
length_last f (c ∷ []) = refl
length_last f (c ∷ d ∷ cs) = ap suc (length_last f (d ∷ cs))

-- bytes are handed out
pub taken_hand : (piece : List ℕ) (past : Past) → 0 < length past.connections → taken_of (after_receipt received.Some piece past).connections ≡ taken_of past.connections ++ piece
taken_hand piece past some = taken_with _ piece (λ c. refl) past.connections some

pub put_hand : (piece : List ℕ) (past : Past) → put_of (after_receipt received.Some piece past).connections ≡ put_of past.connections
put_hand piece past = put_same _ (λ c. refl) past.connections

pub length_hand : (piece : List ℕ) (past : Past) → length (after_receipt received.Some piece past).connections ≡ length past.connections
length_hand piece past = length_last _ past.connections

-- nothing more comes in this stretch
pub taken_end : (past : Past) → taken_of (after_receipt received.End [] past).connections ≡ taken_of past.connections
taken_end past = taken_same _ (λ c. refl) past.connections

pub put_end : (past : Past) → put_of (after_receipt received.End [] past).connections ≡ put_of past.connections
put_end past = put_same _ (λ c. refl) past.connections

pub length_end : (past : Past) → length (after_receipt received.End [] past).connections ≡ length past.connections
length_end past = length_last _ past.connections

-- memory ran out
pub taken_lack : (past : Past) → taken_of (after_receipt received.Lacking [] past).connections ≡ taken_of past.connections
taken_lack past = taken_same _ (λ c. append-nil c.taken) past.connections

pub put_lack : (past : Past) → put_of (after_receipt received.Lacking [] past).connections ≡ put_of past.connections
put_lack past = put_same _ (λ c. refl) past.connections

pub length_lack : (past : Past) → length (after_receipt received.Lacking [] past).connections ≡ length past.connections
length_lack past = length_last _ past.connections

-- a write
pub put_put : (part : List ℕ) (past : Past) → 0 < length past.connections → put_of (after_put part past).connections ≡ put_of past.connections ++ part
put_put part past some = put_with _ part (λ c. refl) past.connections some

pub taken_put : (part : List ℕ) (past : Past) → taken_of (after_put part past).connections ≡ taken_of past.connections
taken_put part past = taken_same _ (λ c. refl) past.connections

pub length_put : (part : List ℕ) (past : Past) → length (after_put part past).connections ≡ length past.connections
length_put part past = length_last _ past.connections

-- a stretch begins
pub taken_begin : (a : Address) (cs : List Connection) → taken_of (cs ++ fresh a ∷ []) ≡ taken_of cs
taken_begin a [] = refl
taken_begin a (c ∷ cs) = ap (λ (x : List ℕ). c.taken ++ x) (taken_begin a cs)

pub put_begin : (a : Address) (cs : List Connection) → put_of (cs ++ fresh a ∷ []) ≡ put_of cs
put_begin a [] = refl
put_begin a (c ∷ cs) = ap (λ (x : List ℕ). c.put ++ x) (put_begin a cs)

pub length_begin : (a : Address) (cs : List Connection) → length (cs ++ fresh a ∷ []) ≡ suc (length cs)
length_begin a [] = refl
length_begin a (c ∷ cs) = ap suc (length_begin a cs)

with_twice : (f g h : Connection → Connection) → ((c : Connection) → g (f c) ≡ h c) → (cs : List Connection) → with_last g (with_last f cs) ≡ with_last h cs
with_twice f g h is [] = refl
with_twice f g h is (c ∷ []) = ap (λ (x : Connection). x ∷ []) (is c)
with_twice f g h is (c ∷ d ∷ []) = ap (λ (xs : List Connection). c ∷ xs) (with_twice f g h is (d ∷ []))
with_twice f g h is (c ∷ d ∷ e ∷ cs) = ap (λ (xs : List Connection). c ∷ xs) (with_twice f g h is (d ∷ e ∷ cs))

-- two parts are put as one
pub put_both : (a b : List ℕ) (past : Past) → after_put b (after_put a past) ≡ after_put (a ++ b) past
put_both a b past = ap (λ (cs : List Connection). record past { connections = cs })
    (with_twice _ _ _ (λ c. ap (λ (p : List ℕ). record c { put = p }) (append_assoc c.put a b)) past.connections)

-- to put nothing changes nothing
with_same : (f : Connection → Connection) → ((c : Connection) → f c ≡ c) → (cs : List Connection) → with_last f cs ≡ cs
with_same f is [] = refl
with_same f is (c ∷ []) = ap (λ (x : Connection). x ∷ []) (is c)
with_same f is (c ∷ d ∷ cs) = ap (λ (xs : List Connection). c ∷ xs) (with_same f is (d ∷ cs))

pub put_none : (past : Past) → after_put [] past ≡ past
put_none past = ap (λ (cs : List Connection). record past { connections = cs })
    (with_same _ (λ c. ap (λ (p : List ℕ). record c { put = p }) (append-nil c.put)) past.connections)

pub put_nothing : (past : Past) → past ≡ after_put [] past
put_nothing past = sym (put_none past)

pub put_whole : (n : ℕ) (p : List ℕ) (past : Past) → after_put (drop n p) (after_put (take n p) past) ≡ after_put p past
put_whole n p past = put_both (take n p) (drop n p) past ∙ ap (λ (x : List ℕ). after_put x past) (take-append-drop n p)

-- a write that failed may have written nothing
pub nothing_written : (piece : List ℕ) (life : Past) → 0 < length piece → IsWritten given.Failed piece life life
nothing_written piece life some = ([], (0, some, refl), put_nothing life)

-- the front of a piece and its rest are all of it
pub all_written : (n : ℕ) (piece rest : List ℕ) (life sent now : Past) → sent ≡ after_put (take n piece) life → rest ≡ drop n piece → now ≡ after_put rest sent → IsWritten given.All piece life now
all_written n piece rest life sent now is left after =
    (piece, refl, after ∙ ap (λ (bs : List ℕ). after_put bs sent) left ∙ ap (after_put (drop n piece)) is ∙ put_whole n piece life)

-- a line, and a configuration that is kept
pub taken_line : (g : Given) (k : Key) (l : List ℕ) (past : Past) → taken_of (after_line g k l past).connections ≡ taken_of past.connections
taken_line given.All k l past = taken_same _ (λ c. refl) past.connections
taken_line given.Failed k l past = refl

pub put_line : (g : Given) (k : Key) (l : List ℕ) (past : Past) → put_of (after_line g k l past).connections ≡ put_of past.connections
put_line given.All k l past = put_same _ (λ c. refl) past.connections
put_line given.Failed k l past = refl

pub length_line : (g : Given) (k : Key) (l : List ℕ) (past : Past) → length (after_line g k l past).connections ≡ length past.connections
length_line given.All k l past = length_last _ past.connections
length_line given.Failed k l past = refl

pub taken_keep : (g : Given) (n : ℕ) (t : List ℕ) (past : Past) → taken_of (after_keep g n t past).connections ≡ taken_of past.connections
taken_keep given.All n t past = taken_same _ (λ c. refl) past.connections
taken_keep given.Failed n t past = refl

pub put_keep : (g : Given) (n : ℕ) (t : List ℕ) (past : Past) → put_of (after_keep g n t past).connections ≡ put_of past.connections
put_keep given.All n t past = put_same _ (λ c. refl) past.connections
put_keep given.Failed n t past = refl

pub length_keep : (g : Given) (n : ℕ) (t : List ℕ) (past : Past) → length (after_keep g n t past).connections ≡ length past.connections
length_keep given.All n t past = length_last _ past.connections
length_keep given.Failed n t past = refl

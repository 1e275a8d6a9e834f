-- What is told of a connection, one call after another.
use Rattle.std.proofs.Common.{◌≡◌, ◌∙◌, ◌+◌, List, [], ◌∷◌, ◌++◌, ◌||◌, ℕ, Bool, true, false, length, Option, option_map, refl, ap, sym, arith}
use Rattle.std.proofs.lemmas.List.{append_assoc, append-nil, length-append}
use Rattle.cd_outside.specs.declared.past.Connection.{Connection}
use Rattle.cd_outside.specs.declared.past.KeepRecord.{KeepRecord}
use Rattle.cd_outside.specs.declared.past.Logged.{Logged}
use Rattle.cd_outside.specs.declared.past.Past.{Past}
use Rattle.cd_outside.specs.Past.{with_connection, after_put}
pub use Rattle.cd_session.proofs.Changes.{changes, no-change, change-as, nothing-put}
use Rattle.cd_serve.specs.Meanings.{Sent, only_bytes, nothing_sent, kept_after, both_sent, sent_on, after_sending}
use Rattle.cd_serve.specs.Requests.{only_lines, only_keeps}
use Rattle.cd_serve.specs.Serving.{after_all}

-- ---- what is sent, one after another

kept-none : (ks : List KeepRecord) → kept_after 0 ks ≡ ks
kept-none [] = refl
kept-none (k ∷ ks) =
    let here : 0 + k.put ≡ k.put = omega arith in
    ap (λ (n : ℕ). record k { put = n } ∷ kept_after 0 ks) here ∙ ap (λ (z : List KeepRecord). k ∷ z) (kept-none ks)

kept-both : (a b : ℕ) (ks : List KeepRecord) → kept_after a (kept_after b ks) ≡ kept_after (a + b) ks
kept-both a b [] = refl
kept-both a b (k ∷ ks) =
    let here : a + (b + k.put) ≡ (a + b) + k.put = omega arith in
    ap (λ (n : ℕ). record k { put = n } ∷ kept_after a (kept_after b ks)) here ∙ ap (λ (z : List KeepRecord). record k { put = (a + b) + k.put } ∷ z) (kept-both a b ks)

kept-append : (a : ℕ) (ks ls : List KeepRecord) → kept_after a (ks ++ ls) ≡ kept_after a ks ++ kept_after a ls
kept-append a [] ls = refl
kept-append a (k ∷ ks) ls = ap (λ (z : List KeepRecord). record k { put = a + k.put } ∷ z) (kept-append a ks ls)

pub sent-is : (p q : List ℕ) (l m : List Logged) (k n : List KeepRecord) → p ≡ q → l ≡ m → k ≡ n → ◌≡◌ {A = Sent} (record { put = p; lines = l; keeps = k }) (record { put = q; lines = m; keeps = n })
sent-is p q l m k n one two three = cc

pub nothing-first : (s : Sent) → both_sent nothing_sent s ≡ s
nothing-first s = ap (λ (z : List KeepRecord). record s { keeps = z }) (kept-none s.keeps)

pub nothing-then : (s : Sent) → both_sent s nothing_sent ≡ s
nothing-then s = sent-is (s.put ++ []) s.put (s.lines ++ []) s.lines (s.keeps ++ []) s.keeps (append-nil s.put) (append-nil s.lines) (append-nil s.keeps)

pub sent-assoc : (a b c : Sent) → both_sent (both_sent a b) c ≡ both_sent a (both_sent b c)
sent-assoc a b c =
    let p = length a.put in
    let n = length b.put in
    let keeps : (a.keeps ++ kept_after p b.keeps) ++ kept_after (length (a.put ++ b.put)) c.keeps ≡ a.keeps ++ kept_after p (b.keeps ++ kept_after n c.keeps) =
    append_assoc a.keeps (kept_after p b.keeps) (kept_after (length (a.put ++ b.put)) c.keeps)
    ∙ ap (λ (z : List KeepRecord). a.keeps ++ z)
    (ap (λ (i : ℕ). kept_after p b.keeps ++ kept_after i c.keeps) (length-append a.put b.put)
    ∙ ap (λ (z : List KeepRecord). kept_after p b.keeps ++ z) (sym (kept-both p n c.keeps))
    ∙ sym (kept-append p b.keeps (kept_after n c.keeps))) in
    sent-is ((a.put ++ b.put) ++ c.put) (a.put ++ (b.put ++ c.put)) ((a.lines ++ b.lines) ++ c.lines) (a.lines ++ (b.lines ++ c.lines)) _ _ (append_assoc a.put b.put c.put) (append_assoc a.lines b.lines c.lines) keeps

-- a connection on which this was sent
abbrev sent_so : Connection → Sent → Connection
sent_so c s = record c { put = s.put; lines = s.lines; keeps = s.keeps }

sends-nothing : (c : Connection) → after_sending nothing_sent c ≡ c
sends-nothing c = ap (sent_so c) (nothing-then (sent_on c))

sends-both : (s t : Sent) (c : Connection) → after_sending t (after_sending s c) ≡ after_sending (both_sent s t) c
sends-both s t c = ap (sent_so c) (sent-assoc (sent_on c) s t)

pub nothing-sent : (told : Option Past) → told ≡ option_map (with_connection (after_sending nothing_sent)) told
nothing-sent told = no-change (after_sending nothing_sent) told sends-nothing

pub sent-both : (s t : Sent) (first old now : Option Past) → old ≡ option_map (with_connection (after_sending s)) first → now ≡ option_map (with_connection (after_sending t)) old → now ≡ option_map (with_connection (after_sending (both_sent s t))) first
sent-both s t first old now one two = changes (after_sending s) (after_sending t) (after_sending (both_sent s t)) first old now one two (sends-both s t)

pub put-sent : (part : List ℕ) (old now : Option Past) → now ≡ option_map (after_put part) old → now ≡ option_map (with_connection (after_sending (only_bytes part))) old
put-sent part old now is =
    change-as (λ c. record c { put = c.put ++ part }) (after_sending (only_bytes part)) old now is
    (λ c. ap (λ (s : Sent). sent_so c s) (sent-is (c.put ++ part) (c.put ++ part) c.lines (c.lines ++ []) c.keeps (c.keeps ++ []) refl (sym (append-nil c.lines)) (sym (append-nil c.keeps))))

pub line-sent : (line : Logged) (old now : Option Past) → now ≡ option_map (with_connection (λ c. record c { lines = c.lines ++ line ∷ [] })) old → now ≡ option_map (with_connection (after_sending (only_lines (line ∷ [])))) old
line-sent line old now is =
    change-as (λ c. record c { lines = c.lines ++ line ∷ [] }) (after_sending (only_lines (line ∷ []))) old now is
    (λ c. ap (λ (s : Sent). sent_so c s) (sent-is c.put (c.put ++ []) (c.lines ++ line ∷ []) (c.lines ++ line ∷ []) c.keeps (c.keeps ++ []) (sym (append-nil c.put)) refl (sym (append-nil c.keeps))))

pub keep-sent : (serial : ℕ) (text : List ℕ) (old now : Option Past) → now ≡ option_map (with_connection (λ c. record c { keeps = c.keeps ++ record { put = length c.put; serial = serial; text = text } ∷ [] })) old
    → now ≡ option_map (with_connection (after_sending (only_keeps (record { put = 0; serial = serial; text = text } ∷ [])))) old
keep-sent serial text old now is =
    change-as (λ c. record c { keeps = c.keeps ++ record { put = length c.put; serial = serial; text = text } ∷ [] }) (after_sending (only_keeps (record { put = 0; serial = serial; text = text } ∷ []))) old now is
    (λ c.
    let here : length c.put ≡ length c.put + 0 = omega arith in
    ap (λ (s : Sent). sent_so c s) (sent-is c.put (c.put ++ []) c.lines (c.lines ++ []) _ _ (sym (append-nil c.put)) (sym (append-nil c.lines))
    (ap (λ (n : ℕ). c.keeps ++ record { put = n; serial = serial; text = text } ∷ []) here)))

-- ---- a connection

no-or : (b : Bool) → (b || false) ≡ b
no-or true = refl
no-or false = refl

or-true : (b : Bool) → true ≡ (b || true)
or-true true = refl
or-true false = refl

unchanged : (c : Connection) → after_all [] false nothing_sent c ≡ c
unchanged c =
    ap (λ (d : Connection). record d { taken = c.taken ++ []; ended = c.ended || false }) (sends-nothing c)
    ∙ ap (λ (t : List ℕ). record c { taken = t; ended = c.ended || false }) (append-nil c.taken)
    ∙ ap (λ (b : Bool). record c { ended = b }) (no-or c.ended)

pub nothing-yet : (told : Option Past) → told ≡ option_map (with_connection (after_all [] false nothing_sent)) told
nothing-yet told = no-change (after_all [] false nothing_sent) told unchanged

pub taking : (taken piece : List ℕ) (s : Sent) (ended : Bool) (first old now : Option Past) → old ≡ option_map (with_connection (after_all taken ended s)) first → now ≡ option_map (with_connection (λ c. record c { taken = c.taken ++ piece })) old
    → now ≡ option_map (with_connection (after_all (taken ++ piece) ended s)) first
taking taken piece s ended first old now one two =
    changes (after_all taken ended s) (λ c. record c { taken = c.taken ++ piece }) (after_all (taken ++ piece) ended s) first old now one two
    (λ c. ap (λ (t : List ℕ). record (after_all taken ended s c) { taken = t }) (append_assoc c.taken taken piece))

pub ending : (taken : List ℕ) (s : Sent) (first old now : Option Past) → old ≡ option_map (with_connection (after_all taken false s)) first → now ≡ option_map (with_connection (λ c. record c { ended = true })) old
    → now ≡ option_map (with_connection (after_all taken true s)) first
ending taken s first old now one two =
    changes (after_all taken false s) (λ c. record c { ended = true }) (after_all taken true s) first old now one two
    (λ c. ap (λ (b : Bool). record (after_all taken true s c) { ended = b }) (or-true c.ended))

pub sending : (taken : List ℕ) (s t : Sent) (ended : Bool) (first old now : Option Past) → old ≡ option_map (with_connection (after_all taken ended s)) first → now ≡ option_map (with_connection (after_sending t)) old
    → now ≡ option_map (with_connection (after_all taken ended (both_sent s t))) first
sending taken s t ended first old now one two =
    changes (after_all taken ended s) (after_sending t) (after_all taken ended (both_sent s t)) first old now one two
    (λ c. ap (λ (d : Connection). record d { taken = c.taken ++ taken; ended = c.ended || ended }) (sends-both s t c))

-- what was sent on a new connection is all that was sent
pub sent-new : (s : Sent) → ◌≡◌ {A = Sent} (record { put = s.put; lines = s.lines; keeps = [] ++ kept_after 0 s.keeps }) s
sent-new s = nothing-first s

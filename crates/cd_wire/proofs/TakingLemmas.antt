-- What a head and a body say of every request at the front.
use Rattle.std.proofs.Common.{◌≡◌, ℕ, ◌+◌, ◌≤◌, ◌<◌, List, [], ◌∷◌, ◌++◌, length, take, drop, refl, sym, ap, ◌∙◌, subst, arith, Result, Ok, Err, Bool, inl, inr, append_assoc, length-append, length-drop}
use Rattle.std.proofs.Math.Seq.{take-add}
use Rattle.std.proofs.lemmas.List.{take-append-drop, drop-drop, append-nil, append_cancel_right}
use Rattle.std.proofs.lemmas.Bool.Decides.{nat_tests}
use Rattle.std.specs.Prelude.{◌==◌, true}
use Rattle.cd_wire.specs.declared.head.Head.{Head}
use Rattle.cd_wire.specs.declared.request.Request.{Request}
use Rattle.cd_wire.specs.declared.fault.WireFault.{WireFault}
use Rattle.cd_wire.specs.declared.framing.Framing.{Framing}
use Rattle.httparse.specs.Grammar.{print_request}
use Rattle.cd_wire.specs.Heads.{BeginsHead, HasNoHead}
use Rattle.cd_wire.specs.Framing.{judge, request_of}
use Rattle.cd_wire.specs.Bodies.{BeginsBody, RefusesBody}
use Rattle.cd_wire.specs.Requests.{BeginsRequest, HasNoRequest, RefusesAfterHead, EndsInBody}
use Rattle.cd_wire.specs.declared.taking.Front.{Front}
use Rattle.cd_wire.specs.declared.bodies.Body.{Body}
use Rattle.cd_wire.specs.declared.bodies.BodyRead.TheVariants as read
use Rattle.cd_wire.specs.Reading.{HasNoBody, IsGoing, IsBodyRead, IsBodyKept, framing_of}
use Rattle.cd_wire.specs.declared.taking.Known.{Known}
use Rattle.cd_wire.specs.declared.taking.Known.TheVariants as known
use Rattle.cd_wire.specs.declared.taking.Pause.{Pause}
use Rattle.cd_wire.specs.declared.taking.Pause.TheVariants as pause
use Rattle.cd_wire.specs.declared.taking.Taken.TheVariants as taken
use Rattle.cd_wire.specs.Taking.{HasFront, IsKept, IsPause, IsTaken}
use Rattle.cd_wire.proofs.RequestLaws.{BeginsHead-unique, BeginsHead-append}

-- no head, no request
pub no_head_no_request : (input : List ℕ) → HasNoHead input → HasNoRequest input
no_head_no_request input none request rest b = none b.head b.after b.begins

-- the verdict of the one head
pub same_verdict : (input : List ℕ) (head other : Head) (rest left : List ℕ)
    → BeginsHead input head rest → BeginsHead input other left → (judge head ≡ judge other) × (rest ≡ left)
same_verdict input head other rest left b c =
    let same = BeginsHead-unique input head other rest left b c in (ap judge same.0, same.1)

-- a head that is refused begins no request
pub refused_no_request : (input : List ℕ) (head : Head) (rest : List ℕ) (fault : WireFault)
    → BeginsHead input head rest → judge head ≡ Err fault → HasNoRequest input
refused_no_request input head rest fault b refuses request left r =
    let same = same_verdict input head r.head rest r.after b r.begins in
    different (sym refuses ∙ same.0 ∙ r.judged)
  where
    different : {f : WireFault} {g : Framing} → ◌≡◌ {A = Result Framing WireFault} (Err f) (Ok g) → ⊥
    different {f} {g} e = cc

ok_same : {f g : Framing} → ◌≡◌ {A = Result Framing WireFault} (Ok f) (Ok g) → f ≡ g
ok_same {f} {g} e = cc

-- no whole body, no request
pub no_body_no_request : (input : List ℕ) (head : Head) (rest : List ℕ) (framing : Framing)
    → BeginsHead input head rest → judge head ≡ Ok framing → HasNoBody framing rest → HasNoRequest input
no_body_no_request input head rest framing b judged none request left r =
    let same = same_verdict input head r.head rest r.after b r.begins in
    let framings : r.framing ≡ framing = ok_same (sym r.judged ∙ sym same.0 ∙ judged) in
    none r.body left
    (subst (λ f. BeginsBody f rest r.body left) framings
    (subst (λ t. BeginsBody r.framing t r.body left) (sym same.1) r.delimited))

-- a body that is neither whole nor refused is one in which the input ends
pub ends_in_body : (input : List ℕ) (head : Head) (rest : List ℕ) (framing : Framing)
    → BeginsHead input head rest → judge head ≡ Ok framing
    → ((fault : WireFault) → ¬ (RefusesBody framing rest fault)) → HasNoRequest input → EndsInBody input
ends_in_body input head rest framing b judged sound none = record {
  head = head;
  after = rest;
  begins = b;
  faultless = refused;
  not_whole = none;
}
  where
    different : {f : WireFault} {g : Framing} → ◌≡◌ {A = Result Framing WireFault} (Err f) (Ok g) → ⊥
    different {f} {g} e = cc

    refused : (fault : WireFault) → ¬ (RefusesAfterHead input fault)
    refused fault r =
        let same = same_verdict input head r.0 rest r.1 b r.2 in
        elim r.3 [
          | inl refuses ↦ different (sym refuses ∙ sym same.0 ∙ judged)
          | inr body ↦
              let framings : body.0 ≡ framing = ok_same (sym body.1 ∙ sym same.0 ∙ judged) in
              sound fault
              (subst (λ f. RefusesBody f rest fault) framings
              (subst (λ t. RefusesBody body.0 t fault) (sym same.1) body.2))
        ]

-- nothing is no head
pub empty_no_head : HasNoHead []
unfolding print_request
empty_no_head head rest b =
    let some = b.reads.0.method.0 in
    let e = ap length b.reads.1 in
    absurd (omega (arith, simp length-append at e))

-- a head that is refused is the fault of the input
pub refused_after_head : (input : List ℕ) (head : Head) (rest : List ℕ) (fault : WireFault)
    → BeginsHead input head rest → judge head ≡ Err fault → RefusesAfterHead input fault
refused_after_head input head rest fault b refuses = (head, rest, b, inl refuses)

-- a list of no elements
pub is_nil : (xs : List ℕ) → length xs ≡ 0 → xs ≡ []
is_nil [] e = refl
is_nil (x ∷ xs) e = absurd (omega arith)

-- what a test for no bytes says where it holds
pub no_length : (n : ℕ) (b : Bool) → b ≡ (n == 0) → b ≡ true → n ≡ 0
no_length n b is holds = grind (arith, nat_tests)

-- no bytes, no request
pub nothing_no_request : HasNoRequest []
nothing_no_request = no_head_no_request [] empty_no_head

-- ---- a request as far as it was read, and more bytes

-- a request with its body
body_of : (head : Head) (found : List ℕ) → record (request_of head []) { body = found } ≡ request_of head found
unfolding request_of
body_of head found = refl

-- what was read and what follows it are what was not kept and what is left
pub all_bytes : (before bytes : List ℕ) (start : ℕ) → (before ++ take start bytes) ++ drop start bytes ≡ before ++ bytes
all_bytes before bytes start =
    append_assoc before (take start bytes) (drop start bytes) ∙ ap (λ t. before ++ t) (take-append-drop start bytes)

-- more that was read
more_read : (before bytes : List ℕ) (start len : ℕ)
    → (before ++ take start bytes) ++ take len (drop start bytes) ≡ before ++ take (start + len) bytes
more_read before bytes start len =
    append_assoc before (take start bytes) (take len (drop start bytes)) ∙ ap (λ t. before ++ t) (sym (take-add start len bytes))

-- nothing was taken, and nothing more was read
pub nothing_read : (before bytes : List ℕ) (known : Known) → IsKept before bytes known
    → IsKept (before ++ take 0 bytes) (drop 0 bytes) known
nothing_read before bytes known kept =
    subst (λ (t : List ℕ). IsKept t bytes known) (sym (append-nil before)) kept

-- the body goes on
pub taken_going : (before bytes : List ℕ) (start len : ℕ) (ended : Bool) (front : Front) (after : Body) (kept : Known) (pause : Pause)
    → start ≤ length bytes → (f : HasFront (before ++ take start bytes) front)
    → IsGoing (framing_of front.body) f.part (drop start bytes) len after
    → ((input : List ℕ) → HasNoRequest input → EndsInBody input → IsPause input ended pause)
    → kept ≡ known.Front (record { request = front.request; body = after })
    → IsTaken before bytes ended kept (taken.None pause (start + len))
taken_going before bytes start len ended front after kept pause within f g pauses is =
    let text = drop start bytes in
    let done = before ++ take start bytes in
    let framing = framing_of front.body in
    let begins = BeginsHead-append done f.head f.part text f.begins in
    let none = no_body_no_request (done ++ text) f.head (f.part ++ text) framing begins f.judged g.none in
    let ends = ends_in_body (done ++ text) f.head (f.part ++ text) framing begins f.judged g.faultless none in
    let left : len ≤ length text = g.within in
    let has : HasFront (done ++ take len text) (record { request = front.request; body = after }) =
    record {
      head = f.head;
      part = f.part ++ take len text;
      begins = BeginsHead-append done f.head f.part (take len text) f.begins;
      judged = f.judged ∙ ap Ok g.framed;
      is = f.is;
      kept = g.kept;
    } in (
      omega (arith, length-drop start bytes),
      subst (λ (t : List ℕ). IsPause t ended pause) (all_bytes before bytes start) (pauses (done ++ text) none ends),
      subst (λ (k : Known). IsKept (before ++ take (start + len) bytes) (drop (start + len) bytes) k) (sym is)
          (subst (λ (t : List ℕ). HasFront t (record { request = front.request; body = after })) (more_read before bytes start len) has),
    )

-- the body is refused: nothing more was read
pub taken_refused : (before bytes : List ℕ) (start : ℕ) (ended : Bool) (known : Known) (front : Front) (fault : WireFault)
    → (f : HasFront (before ++ take start bytes) front)
    → HasNoBody (framing_of front.body) (f.part ++ drop start bytes)
    → RefusesBody (framing_of front.body) (f.part ++ drop start bytes) fault
    → IsKept before bytes known → IsTaken before bytes ended known (taken.None (pause.Refused fault) 0)
taken_refused before bytes start ended known front fault f none refuses kept =
    let text = drop start bytes in
    let done = before ++ take start bytes in
    let framing = framing_of front.body in
    let begins = BeginsHead-append done f.head f.part text f.begins in
    let no_request = no_body_no_request (done ++ text) f.head (f.part ++ text) framing begins f.judged none in (
      omega arith,
      subst (λ (t : List ℕ). IsPause t ended (pause.Refused fault)) (all_bytes before bytes start)
          (no_request, inl (f.head, f.part ++ text, begins, inr (framing, f.judged, refuses))),
      nothing_read before bytes known kept,
    )

-- ---- a request whose head was read before, of which nothing that is left was read

no_more : (n : ℕ) → 0 + n ≡ n
no_more n = omega arith

from_here : (before bytes : List ℕ) (front : Front) → HasFront before front → HasFront (before ++ take 0 bytes) front
from_here before bytes front f = subst (λ (t : List ℕ). HasFront t front) (sym (append-nil before)) f

pub next_whole : (before bytes : List ℕ) (len : ℕ) (ended : Bool) (known : Known) (front : Front) (after : Body) (found : List ℕ)
    (request : Request) → HasFront before front → IsBodyRead front.body bytes after (read.Whole found len)
    → request ≡ record front.request { body = found } → ((input : List ℕ) → IsKept [] input known)
    → IsTaken before bytes ended known (taken.Request request len)
next_whole before bytes len ended known front after found request f r request_is kept =
    let whole = r f.part f.kept in (
      whole.0,
      record {
        head = f.head;
        after = f.part ++ bytes;
        begins = BeginsHead-append before f.head f.part bytes f.begins;
        framing = framing_of front.body;
        judged = f.judged;
        body = found;
        delimited = whole.1;
        is = request_is ∙ ap (λ (q : Request). record q { body = found }) f.is ∙ body_of f.head found;
      },
      kept (drop len bytes),
    )

pub next_going : (before bytes : List ℕ) (len : ℕ) (ended : Bool) (front new : Front) (pause : Pause) → HasFront before front
    → new.request ≡ front.request → IsBodyRead front.body bytes new.body (read.Going len)
    → ((input : List ℕ) → HasNoRequest input → EndsInBody input → IsPause input ended pause)
    → IsTaken before bytes ended (known.Front new) (taken.None pause len)
next_going before bytes len ended front new pause f same r pauses =
    let here = from_here before bytes front f in
    subst (λ (n : ℕ). IsTaken before bytes ended (known.Front new) (taken.None pause n)) (no_more len)
    (taken_going before bytes 0 len ended front new.body (known.Front new) pause (omega arith) here (r here.part here.kept) pauses
    (ap (λ (q : Request). known.Front (record { request = q; body = new.body })) same))

pub same_front : (before : List ℕ) (front new : Front) → HasFront before front → new.request ≡ front.request
    → new.body ≡ front.body → HasFront before new
same_front before front new f same is =
    subst (λ (q : Request). HasFront before (record { request = q; body = new.body })) (sym same)
    (subst (λ (b : Body). HasFront before (record { request = front.request; body = b })) (sym is) f)

pub next_refused : (before bytes : List ℕ) (ended : Bool) (front new : Front) (fault : WireFault) → HasFront before front
    → new.request ≡ front.request → IsBodyRead front.body bytes new.body (read.Refused fault)
    → IsTaken before bytes ended (known.Front new) (taken.None (pause.Refused fault) 0)
next_refused before bytes ended front new fault f same r =
    let here = from_here before bytes front f in
    let fails = r here.part here.kept in
    taken_refused before bytes 0 ended (known.Front new) front fault here fails.1 fails.2 (same_front before front new f same fails.0)

-- ---- a head that was just read

-- the head without what follows it
head_alone : (text : List ℕ) (head : Head) (len : ℕ) → BeginsHead text head (drop len text) → BeginsHead (take len text) head []
head_alone text head len b = record {
  lines = b.lines;
  reads = (
    b.reads.0,
    append_cancel_right (take len text) (print_request b.lines) (drop len text) (take-append-drop len text ∙ b.reads.1)
        ∙ sym (append-nil (print_request b.lines)),
  );
  short = b.short;
  few = b.few;
  is = b.is;
}

-- a request of which the head alone was read
pub new_front : (bytes : List ℕ) (start : ℕ) (head : Head) (known : Body) → BeginsHead bytes head (drop start bytes)
    → judge head ≡ Ok (framing_of known) → IsBodyKept [] known
    → HasFront (take start bytes) (record { request = request_of head []; body = known })
new_front bytes start head known b judged kept = record {
  head = head;
  part = [];
  begins = head_alone bytes head start b;
  judged = judged;
  is = refl;
  kept = kept;
}

-- a whole body follows it
pub new_whole : (bytes : List ℕ) (start len : ℕ) (head : Head) (known after : Body) (found : List ℕ) → start ≤ length bytes
    → BeginsHead bytes head (drop start bytes) → judge head ≡ Ok (framing_of known) → IsBodyKept [] known
    → IsBodyRead known (drop start bytes) after (read.Whole found len)
    → (start + len ≤ length bytes) × BeginsRequest bytes (request_of head found) (drop (start + len) bytes)
new_whole bytes start len head known after found within b judged kept r =
    let whole = r [] kept in (
      omega (arith, whole.0, length-drop start bytes),
      record {
        head = head;
        after = drop start bytes;
        begins = b;
        framing = framing_of known;
        judged = judged;
        body = found;
        delimited = subst (λ (t : List ℕ). BeginsBody (framing_of known) (drop start bytes) found t) (drop-drop len start bytes) whole.1;
        is = refl;
      },
    )

-- bytes with a head are some bytes
pub some_head : (read : List ℕ) (front : Front) → HasFront read front → 0 < length read
unfolding print_request
some_head read front f =
    let some = f.begins.reads.0.method.0 in
    let e = ap length f.begins.reads.1 in
    omega (arith, simp length-append at e)

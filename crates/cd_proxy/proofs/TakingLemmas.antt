-- What is read of a response, and what is kept of it, of an input of which some bytes are not kept.
use Rattle.std.proofs.Common.{◌≡◌, ℕ, ◌+◌, ◌≤◌, Bool, List, [], ◌++◌, length, take, drop, refl, sym, ap, ◌∙◌, subst, append_assoc, arith, Some, None}
use Rattle.std.proofs.Math.Seq.{take-add}
use Rattle.std.proofs.lemmas.List.{append-nil, length-drop, drop-drop}
use Rattle.cd_wire.specs.declared.answer.Answer.{Answer}
use Rattle.cd_wire.proofs.TakingLemmas.{all_bytes}
use Rattle.cd_proxy.specs.declared.head.Head.{Head}
use Rattle.cd_proxy.specs.declared.delimiting.Extent.{Extent}
use Rattle.cd_proxy.specs.declared.limits.TheConstants.{MAX_INFORMATIONAL}
use Rattle.cd_proxy.specs.declared.content.Content.{Content}
use Rattle.cd_proxy.specs.declared.content.ContentRead.TheVariants as content
use Rattle.cd_proxy.specs.declared.finals.FinalRead.TheVariants as final
use Rattle.cd_proxy.specs.declared.taking.Front.{Front}
use Rattle.cd_proxy.specs.declared.taking.Known.{Known}
use Rattle.cd_proxy.specs.declared.taking.Known.TheVariants as known
use Rattle.cd_proxy.specs.declared.taking.Pause.{Pause}
use Rattle.cd_proxy.specs.declared.taking.Pause.TheVariants as pause
use Rattle.cd_proxy.specs.declared.taking.Found.TheVariants as found
use Rattle.cd_proxy.specs.declared.taking.Taken.TheVariants as taken
use Rattle.cd_proxy.specs.Heads.{BeginsFinal}
use Rattle.cd_proxy.specs.Responses.{BeginsResponse, extent_of, passed}
use Rattle.cd_proxy.specs.Reading.{NeverHasFinal, Skips, IsFinalRead, IsContentKept, IsContentRead, extent_kept}
use Rattle.cd_proxy.specs.Taking.{HasFront, IsKept, IsPause, IsFound, IsTaken, pause_cut}
use Rattle.cd_proxy.proofs.FinalLemmas.{BeginsFinal-append, skips_on, none_skipped, never_skipped}
use Rattle.cd_proxy.proofs.ResponseLemmas.{no_final_no_response, never_final_never_response, refused_never, no_content_no_response, never_content_never_response, bad_is, cut_is}

-- nothing more was read
nothing_more : (head : Bool) (before text : List ℕ) (k : Known) → IsKept head before k → IsKept head (before ++ take 0 text) k
nothing_more head before text k is = subst (λ (b : List ℕ). IsKept head b k) (sym (append-nil before)) is

-- ---- the final head is looked for

-- it has not come
pub found_partial : (head : Bool) (before text : List ℕ) (ended : Bool) (most at left : ℕ) (p : Pause) → Skips MAX_INFORMATIONAL before most
    → IsFinalRead most text (final.Partial at left) → p ≡ pause_cut ended
    → IsFound head before text ended (known.Search left) (found.None p at)
found_partial head before text ended most at left p s r p_is = (
  r.0,
  subst (λ (q : Pause). IsPause head (before ++ text) ended q) (sym p_is)
      (cut_is head (before ++ text) ended
      (no_final_no_response (before ++ text) ended head (none_skipped MAX_INFORMATIONAL most before text s r.2))),
  skips_on MAX_INFORMATIONAL most left before (take at text) s r.1,
)

-- it never comes
pub found_hopeless : (head : Bool) (before text : List ℕ) (ended : Bool) (most : ℕ) (k : Known) → Skips MAX_INFORMATIONAL before most
    → NeverHasFinal most text → IsKept head before k → IsFound head before text ended k (found.None pause.Bad 0)
found_hopeless head before text ended most k s never is = (
  omega arith,
  bad_is (before ++ text) ended head
      (never_final_never_response (before ++ text) head (never_skipped MAX_INFORMATIONAL most before text s never)),
  nothing_more head before text k is,
)

-- out of memory
pub found_lacking : (head : Bool) (before text : List ℕ) (ended : Bool) (k : Known) → IsKept head before k
    → IsFound head before text ended k (found.None pause.NoMemory 0)
found_lacking head before text ended k is = (omega arith, tt, nothing_more head before text k is)

-- its fields are refused
pub found_refused : (head : Bool) (before text : List ℕ) (ended : Bool) (at : ℕ) (response : Head) (k : Known)
    → BeginsFinal MAX_INFORMATIONAL (before ++ take at text) response [] → extent_of head response ≡ None → IsKept head before k
    → IsFound head before text ended k (found.None pause.Bad 0)
found_refused head before text ended at response k f refused is =
    let begins = subst (λ (t : List ℕ). BeginsFinal MAX_INFORMATIONAL t response (drop at text)) (all_bytes before text at)
    (BeginsFinal-append MAX_INFORMATIONAL (before ++ take at text) response [] (drop at text) f) in (
      omega arith,
      bad_is (before ++ text) ended head (refused_never (before ++ text) head response (drop at text) begins refused),
      nothing_more head before text k is,
    )

-- it is there
pub found_front : (head : Bool) (before text : List ℕ) (ended : Bool) (at : ℕ) (response : Head) (extent : Extent) (answer : Answer) (kept : Content)
    → at ≤ length text → BeginsFinal MAX_INFORMATIONAL (before ++ take at text) response []
    → extent_of head response ≡ Some extent → extent ≡ extent_kept kept → IsContentKept [] kept → answer ≡ passed response []
    → IsFound head before text ended (known.Front (record { answer = answer; content = kept })) (found.Front at)
found_front head before text ended at response extent answer kept within f delimited same is answer_is = (
  within,
  record { answer = answer; content = kept },
  refl,
  record {
    response = response;
    part = [];
    begins = f;
    delimited = delimited ∙ ap Some same;
    is = answer_is;
    kept = is;
  },
)

-- ---- its body is read

same_front : (head : Bool) (before : List ℕ) (front new : Front) → HasFront head before front → new.answer ≡ front.answer
    → new.content ≡ front.content → HasFront head before new
same_front head before front new f same is =
    subst (λ (a : Answer). HasFront head before (record { answer = a; content = new.content })) (sym same)
    (subst (λ (c : Content). HasFront head before (record { answer = front.answer; content = c })) (sym is) f)

pub next_whole : (head : Bool) (before text : List ℕ) (ended : Bool) (len : ℕ) (front : Front) (after : Content) (body : List ℕ) (answer : Answer) (k : Known)
    → HasFront head before front → IsContentRead ended front.content text after (content.Whole body len)
    → answer ≡ record front.answer { body = body } → IsKept head [] k
    → IsTaken head before text ended k (taken.Response answer len)
next_whole head before text ended len front after body answer k f r answer_is is =
    let whole = r f.part f.kept in (
      whole.0,
      record {
        response = f.response;
        after = f.part ++ text;
        begins = BeginsFinal-append MAX_INFORMATIONAL before f.response f.part text f.begins;
        extent = extent_kept front.content;
        delimited = f.delimited;
        body = body;
        content = whole.1;
        is = answer_is ∙ ap (λ (a : Answer). record a { body = body }) f.is;
      },
      is,
    )

pub next_going : (head : Bool) (before text : List ℕ) (ended : Bool) (len : ℕ) (front new : Front) (p : Pause)
    → HasFront head before front → new.answer ≡ front.answer → IsContentRead ended front.content text new.content (content.Going len)
    → p ≡ pause_cut ended → IsTaken head before text ended (known.Front new) (taken.None p len)
next_going head before text ended len front new p f same r p_is =
    let g = r f.part f.kept in
    let begins = BeginsFinal-append MAX_INFORMATIONAL before f.response f.part text f.begins in
    let none = no_content_no_response (before ++ text) ended head f.response (f.part ++ text) (extent_kept front.content) begins
    f.delimited g.none in (
      g.within,
      subst (λ (q : Pause). IsPause head (before ++ text) ended q) (sym p_is) (cut_is head (before ++ text) ended none),
      record {
        response = f.response;
        part = f.part ++ take len text;
        begins = BeginsFinal-append MAX_INFORMATIONAL before f.response f.part (take len text) f.begins;
        delimited = f.delimited ∙ ap Some g.same;
        is = same ∙ f.is;
        kept = g.kept;
      },
    )

pub next_refused : (head : Bool) (before text : List ℕ) (ended : Bool) (front new : Front) → HasFront head before front
    → new.answer ≡ front.answer → IsContentRead ended front.content text new.content content.Refused
    → IsTaken head before text ended (known.Front new) (taken.None pause.Bad 0)
next_refused head before text ended front new f same r =
    let fails = r f.part f.kept in
    let begins = BeginsFinal-append MAX_INFORMATIONAL before f.response f.part text f.begins in (
      omega arith,
      bad_is (before ++ text) ended head
          (never_content_never_response (before ++ text) head f.response (f.part ++ text) (extent_kept front.content) begins
          f.delimited fails.1),
      nothing_more head before text (known.Front new) (same_front head before front new f same fails.0),
    )

pub next_lacking : (head : Bool) (before text : List ℕ) (ended : Bool) (front new : Front) → HasFront head before front
    → new.answer ≡ front.answer → new.content ≡ front.content
    → IsTaken head before text ended (known.Front new) (taken.None pause.NoMemory 0)
next_lacking head before text ended front new f same is =
    (omega arith, tt, nothing_more head before text (known.Front new) (same_front head before front new f same is))

-- ---- the same of the text after a place, up to which it was read

-- what was read up to there, and after it
more_read : (before text : List ℕ) (at len : ℕ)
    → (before ++ take at text) ++ take len (drop at text) ≡ before ++ take (at + len) text
more_read before text at len =
    append_assoc before (take at text) (take len (drop at text)) ∙ ap (λ t. before ++ t) (sym (take-add at len text))

pub kept_front : (head : Bool) (before text : List ℕ) (ended : Bool) (at : ℕ) (k : Known)
    → IsFound head before text ended k (found.Front at) → IsKept head (before ++ take at text) k
kept_front head before text ended at k f = subst (λ (x : Known). IsKept head (before ++ take at text) x) (sym f.2) f.3

pub later_response : (head : Bool) (before text : List ℕ) (ended : Bool) (at len : ℕ) (answer : Answer) (k : Known) → at ≤ length text
    → IsTaken head (before ++ take at text) (drop at text) ended k (taken.Response answer len)
    → IsTaken head before text ended k (taken.Response answer (at + len))
later_response head before text ended at len answer k within t = (
  omega (arith, t.0, length-drop at text),
  subst (λ (r : List ℕ). BeginsResponse (before ++ text) ended head answer r) (drop-drop len at text)
      (subst (λ (i : List ℕ). BeginsResponse i ended head answer (drop len (drop at text))) (all_bytes before text at) t.1),
  t.2,
)

pub later_none : (head : Bool) (before text : List ℕ) (ended : Bool) (at len : ℕ) (p : Pause) (k : Known) → at ≤ length text
    → IsTaken head (before ++ take at text) (drop at text) ended k (taken.None p len)
    → IsTaken head before text ended k (taken.None p (at + len))
later_none head before text ended at len p k within t = (
  omega (arith, t.0, length-drop at text),
  subst (λ (i : List ℕ). IsPause head i ended p) (all_bytes before text at) t.1,
  subst (λ (b : List ℕ). IsKept head b k) (more_read before text at len) t.2,
)

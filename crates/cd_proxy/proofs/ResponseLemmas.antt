-- What a reading of a response says of every response at the front.
use Rattle.std.proofs.Common.{◌≡◌, ℕ, Bool, true, false, List, [], ◌++◌, refl, sym, ap, ◌∙◌, subst, inl, inr, Option, Some, None}
use Rattle.std.proofs.lemmas.List.{append-nil}
use Rattle.cd_wire.specs.declared.answer.Answer.{Answer}
use Rattle.cd_proxy.specs.declared.head.Head.{Head}
use Rattle.cd_proxy.specs.declared.delimiting.Extent.{Extent}
use Rattle.cd_proxy.specs.declared.limits.TheConstants.{MAX_INFORMATIONAL}
use Rattle.cd_proxy.specs.declared.reading.Reading.TheVariants as reading
use Rattle.cd_proxy.specs.Heads.{BeginsFinal}
use Rattle.cd_proxy.specs.Responses.{BeginsContent, BeginsResponse, HasNoResponse, NeverHasResponse, IsReading, extent_of, passed}
use Rattle.cd_proxy.specs.Reading.{HasNoFinal, NeverHasFinal, HasNoContent, NeverHasContent}
use Rattle.cd_proxy.specs.Taking.{IsPause, pause_cut}
use Rattle.cd_proxy.proofs.FinalLemmas.{BeginsFinal-append, BeginsFinal-unique}
use Rattle.cd_proxy.proofs.ContentLemmas.{BeginsContent-append, BeginsContent-unique}

some_is : (a b : Extent) → ◌≡◌ {A = Option Extent} (Some a) (Some b) → a ≡ b
some_is a b e = cc

none_is_no_some : (a : Extent) → ◌≡◌ {A = Option Extent} None (Some a) → ⊥
none_is_no_some a e = cc

-- ---- no final head, no response

pub no_final_no_response : (input : List ℕ) (ended head : Bool) → HasNoFinal MAX_INFORMATIONAL input → HasNoResponse input ended head
no_final_no_response input ended head none answer rest b = none b.response b.after b.begins

pub never_final_never_response : (input : List ℕ) (head : Bool) → NeverHasFinal MAX_INFORMATIONAL input → NeverHasResponse input head
never_final_never_response input head never more ended = no_final_no_response (input ++ more) ended head (never more)

-- ---- fields that are refused

pub refused_no_response : (input : List ℕ) (ended head : Bool) (response : Head) (after : List ℕ)
    → BeginsFinal MAX_INFORMATIONAL input response after → extent_of head response ≡ None → HasNoResponse input ended head
refused_no_response input ended head response after f refused answer rest b =
    let same = BeginsFinal-unique MAX_INFORMATIONAL input response b.response after b.after f b.begins in
    none_is_no_some b.extent (sym refused ∙ ap (extent_of head) same.0 ∙ b.delimited)

pub refused_never : (input : List ℕ) (head : Bool) (response : Head) (after : List ℕ)
    → BeginsFinal MAX_INFORMATIONAL input response after → extent_of head response ≡ None → NeverHasResponse input head
refused_never input head response after f refused more ended =
    refused_no_response (input ++ more) ended head response (after ++ more)
    (BeginsFinal-append MAX_INFORMATIONAL input response after more f) refused

-- ---- no body, no response

pub no_content_no_response : (input : List ℕ) (ended head : Bool) (response : Head) (after : List ℕ) (extent : Extent)
    → BeginsFinal MAX_INFORMATIONAL input response after → extent_of head response ≡ Some extent
    → HasNoContent extent ended after → HasNoResponse input ended head
no_content_no_response input ended head response after extent f delimited none answer rest b =
    let same = BeginsFinal-unique MAX_INFORMATIONAL input b.response response b.after after b.begins f in
    let extents : b.extent ≡ extent = some_is b.extent extent (sym b.delimited ∙ ap (extent_of head) same.0 ∙ delimited) in
    none b.body rest
    (subst (λ e. BeginsContent e ended after b.body rest) extents
    (subst (λ t. BeginsContent b.extent ended t b.body rest) same.1 b.content))

pub never_content_never_response : (input : List ℕ) (head : Bool) (response : Head) (after : List ℕ) (extent : Extent)
    → BeginsFinal MAX_INFORMATIONAL input response after → extent_of head response ≡ Some extent
    → NeverHasContent extent after → NeverHasResponse input head
never_content_never_response input head response after extent f delimited never more ended =
    no_content_no_response (input ++ more) ended head response (after ++ more) extent
    (BeginsFinal-append MAX_INFORMATIONAL input response after more f) delimited (never more ended)

-- ---- an input begins with one response at most

pub response_unique : (input : List ℕ) (ended head : Bool) (answer other : Answer) (rest left : List ℕ)
    → BeginsResponse input ended head answer rest → BeginsResponse input ended head other left
    → (answer ≡ other) × (rest ≡ left)
response_unique input ended head answer other rest left b c =
    let heads = BeginsFinal-unique MAX_INFORMATIONAL input b.response c.response b.after c.after b.begins c.begins in
    let extents : b.extent ≡ c.extent = some_is b.extent c.extent (sym b.delimited ∙ ap (extent_of head) heads.0 ∙ c.delimited) in
    let moved : BeginsContent c.extent ended c.after b.body rest =
    subst (λ e. BeginsContent e ended c.after b.body rest) extents
    (subst (λ t. BeginsContent b.extent ended t b.body rest) heads.1 b.content) in
    let bodies = BeginsContent-unique c.extent ended c.after b.body c.body rest left moved c.content in
    (b.is ∙ ap (λ h. passed h b.body) heads.0 ∙ ap (passed c.response) bodies.0 ∙ sym c.is, bodies.1)

-- ---- a response stays when more bytes come

pub response_stays : (input more : List ℕ) (ended head : Bool) (answer : Answer) (rest : List ℕ)
    → BeginsResponse input false head answer rest → BeginsResponse (input ++ more) ended head answer (rest ++ more)
response_stays input more ended head answer rest b = record {
  response = b.response;
  after = b.after ++ more;
  begins = BeginsFinal-append MAX_INFORMATIONAL input b.response b.after more b.begins;
  extent = b.extent;
  delimited = b.delimited;
  body = b.body;
  content = BeginsContent-append b.extent ended b.after b.body rest more b.content;
  is = b.is;
}

-- ---- what a reading comes to

pub bad_is : (input : List ℕ) (ended head : Bool) → NeverHasResponse input head → IsReading input ended head reading.Bad
bad_is input ended head never =
    (subst (λ (t : List ℕ). HasNoResponse t ended head) (append-nil input) (never [] ended), inr never)

-- where no whole one is there, more may come, unless the input has ended
pub cut_is : (head : Bool) (input : List ℕ) (ended : Bool) → HasNoResponse input ended head → IsPause head input ended (pause_cut ended)
cut_is head input true none = (none, inl refl)
cut_is head input false none = (refl, none)

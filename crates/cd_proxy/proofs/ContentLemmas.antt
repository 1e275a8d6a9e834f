-- What the bytes of a body say of every body at the front, whatever follows.
use Rattle.std.proofs.Common.{◌≡◌, ℕ, zero, suc, ◌+◌, ◌<◌, ◌≤◌, Bool, true, false, List, [], ◌∷◌, ◌++◌, length, take, drop, refl, sym, ap, ◌∙◌, subst, append_assoc, arith, inl, inr, length-append}
use Rattle.std.proofs.lemmas.List.{take-append-le, drop-append-le, length-drop, append-nil}
use Rattle.std.proofs.lemmas.Bool.{cases_lt}
use Rattle.httparse.specs.Grammar.{NeverHasChunkLine, HasNoChunkLine}
use Rattle.cd_wire.specs.declared.limits.TheConstants.{MAX_BODY_BYTES, MAX_CHUNK_LINE_BYTES}
use Rattle.cd_wire.specs.declared.fault.WireFault.{WireFault}
use Rattle.cd_wire.specs.declared.fault.WireFault.TheVariants.{BadHead, BadTarget, BadHost, BadLength, BodyTooLong, UnknownCoding}
use Rattle.cd_wire.specs.declared.framing.Framing.{Framing}
use Rattle.cd_wire.specs.declared.framing.Framing.TheVariants.{Length, Chunked}
use Rattle.cd_wire.specs.Bodies.{RefusesChunk, RefusesLine, NeverHasCrlf, RefusesBody, joined}
use Rattle.cd_wire.specs.Chunks.{HasNoChunk}
use Rattle.cd_wire.specs.declared.bodies.Body.{Body}
use Rattle.cd_wire.specs.declared.bodies.BodyRead.TheVariants as read
use Rattle.cd_wire.specs.Reading.{HasNoBody, IsBodyRead, framing_of}
use Rattle.cd_wire.proofs.RequestLaws.{BeginsLine-append, ChunksThen-append, BeginsBody-append, BeginsBody-unique}
use Rattle.cd_wire.proofs.LineLemmas.{refused_is_no_line}
use Rattle.cd_wire.proofs.BodyLemmas.{no_chunk_too_great, no_chunk_without_crlf, no_chunk_without_line, never_crlf_now, nothing_may, no_body}
use Rattle.cd_proxy.specs.declared.delimiting.Extent.{Extent}
use Rattle.cd_proxy.specs.declared.delimiting.Extent.TheVariants.{Framed, ToEnd}
use Rattle.cd_proxy.specs.Responses.{BeginsContent}
use Rattle.cd_proxy.specs.declared.content.Content.TheVariants as kept
use Rattle.cd_proxy.specs.declared.content.ContentRead.TheVariants as content
use Rattle.cd_proxy.specs.Reading.{IsContentRead}

-- ---- what is refused is refused whatever follows

never_line-append : (a b : List ℕ) → NeverHasChunkLine a → NeverHasChunkLine (a ++ b)
never_line-append a b never more = subst HasNoChunkLine (sym (append_assoc a b more)) (never (b ++ more))

-- the front of more bytes is the front, and more
front_grows : (n : ℕ) (text more : List ℕ) → (later : List ℕ) × (take n (text ++ more) ≡ take n text ++ later)
front_grows zero text more = ([], refl)
front_grows (suc n) [] more = (take (suc n) more, refl)
front_grows (suc n) (x ∷ text) more =
    let rec = front_grows n text more in (rec.0, ap (λ t. x ∷ t) rec.1)

RefusesLine-append : (text more : List ℕ) → RefusesLine text → RefusesLine (text ++ more)
RefusesLine-append text more r =
    elim r [
      | inl never ↦
          let grown = front_grows MAX_CHUNK_LINE_BYTES text more in
          inl (subst NeverHasChunkLine (sym grown.1) (never_line-append (take MAX_CHUNK_LINE_BYTES text) grown.0 never))
      | inr none ↦ inr (
        omega (arith, length-append text more, none.0),
        subst HasNoChunkLine (sym (take-append-le MAX_CHUNK_LINE_BYTES text more none.0)) none.1,
      )
    ]

never_crlf-append : (text more : List ℕ) → NeverHasCrlf text → NeverHasCrlf (text ++ more)
never_crlf-append text more never later rest e = never (more ++ later) rest (sym (append_assoc text more later) ∙ e)

-- a list of no elements
is_nil : (xs : List ℕ) → length xs ≡ 0 → xs ≡ []
is_nil [] e = refl
is_nil (x ∷ xs) e = absurd (omega arith)

-- CR LF is refused only behind data that has come whole
data_is_there : (size : ℕ) (after : List ℕ) → NeverHasCrlf (drop size after) → size ≤ length after
data_is_there size after never =
    elim (cases_lt (length after) size) [
      | inl lt ↦ absurd (nothing_may (subst NeverHasCrlf (is_nil (drop size after) (omega (arith, length-drop size after, lt))) never))
      | inr le ↦ le
    ]

RefusesChunk-append : (before : ℕ) (text more : List ℕ) (fault : WireFault) → RefusesChunk before text fault
    → RefusesChunk before (text ++ more) fault
RefusesChunk-append before text more BodyTooLong r = (r.0, r.1 ++ more, BeginsLine-append text r.0 r.1 more r.2, r.3)
RefusesChunk-append before text more BadLength r =
    elim r [
      | inl refuses ↦ inl (RefusesLine-append text more refuses)
      | inr found ↦ inr (
        found.0,
        found.1 ++ more,
        record { line = BeginsLine-append text found.0 found.1 more found.2.line; fits = found.2.fits },
        subst NeverHasCrlf (sym (drop-append-le found.0 found.1 more (data_is_there found.0 found.1 found.3)))
            (never_crlf-append (drop found.0 found.1) more found.3),
      )
    ]
RefusesChunk-append before text more BadHead r = r
RefusesChunk-append before text more BadTarget r = r
RefusesChunk-append before text more BadHost r = r
RefusesChunk-append before text more UnknownCoding r = r

-- what is refused is no chunk that fits
refused_no_chunk : (before : ℕ) (text : List ℕ) (fault : WireFault) → before ≤ MAX_BODY_BYTES → RefusesChunk before text fault
    → HasNoChunk before text
refused_no_chunk before text BodyTooLong fits r = no_chunk_too_great before text r.0 r.1 r.2 fits r.3
refused_no_chunk before text BadLength fits r =
    elim r [
      | inl refuses ↦ no_chunk_without_line before text (λ size rest b. refused_is_no_line text size rest refuses b)
      | inr found ↦ no_chunk_without_crlf before text found.0 found.1 found.2.line
          (λ rest. never_crlf_now (drop found.0 found.1) found.3 rest)
    ]
refused_no_chunk before text BadHead fits r = absurd r
refused_no_chunk before text BadTarget fits r = absurd r
refused_no_chunk before text BadHost fits r = absurd r
refused_no_chunk before text UnknownCoding fits r = absurd r

zero_more : (n : ℕ) → n ≡ 0 + n
zero_more n = omega arith

-- a body that is refused does not come
pub refused_never : (framing : Framing) (text : List ℕ) (fault : WireFault) → RefusesBody framing text fault
    → (more : List ℕ) → HasNoBody framing (text ++ more)
refused_never (Length size) text fault r more = absurd r
refused_never Chunked text fault r more = λ found rest b.
    let n = zero_more (length (joined r.0)) in
    let refuses = subst (λ (k : ℕ). RefusesChunk k (r.1 ++ more) fault) n
    (RefusesChunk-append (length (joined r.0)) r.1 more fault r.4) in
    no_body 0 (text ++ more) r.0 b.0 (r.1 ++ more) rest (ChunksThen-append text r.0 r.1 more r.2)
    (refused_no_chunk (0 + length (joined r.0)) (r.1 ++ more) fault (omega (arith, r.3)) refuses)
    b.1 (omega (arith, ap length b.2, b.3))

-- ---- a text begins with one body at most

pub BeginsContent-unique : (extent : Extent) (ended : Bool) (text body other rest left : List ℕ)
    → BeginsContent extent ended text body rest → BeginsContent extent ended text other left → (body ≡ other) × (rest ≡ left)
BeginsContent-unique (Framed framing) ended text body other rest left b c =
    BeginsBody-unique framing text body other rest left b c
BeginsContent-unique ToEnd ended text body other rest left b c = (b.1 ∙ sym c.1, b.2 ∙ sym c.2)

-- ---- a body that does not go up to the end stays when more bytes come

pub BeginsContent-append : (extent : Extent) (ended : Bool) (text body rest more : List ℕ)
    → BeginsContent extent false text body rest → BeginsContent extent ended (text ++ more) body (rest ++ more)
BeginsContent-append (Framed framing) ended text body rest more b = BeginsBody-append framing text body rest more b
BeginsContent-append ToEnd ended text body rest more b = absurd (no_end b.0)
  where
    no_end : ◌≡◌ {A = Bool} false true → ⊥
    no_end e = cc

-- ---- what a reading of a framed body comes to

pub framed_whole : (ended : Bool) (known after : Body) (text found : List ℕ) (len : ℕ) → IsBodyRead known text after (read.Whole found len)
    → IsContentRead ended (kept.Framed known) text (kept.Framed after) (content.Whole found len)
framed_whole ended known after text found len r before k = r before k

pub framed_going : (ended : Bool) (known after : Body) (text : List ℕ) (len : ℕ) → IsBodyRead known text after (read.Going len)
    → IsContentRead ended (kept.Framed known) text (kept.Framed after) (content.Going len)
framed_going ended known after text len r before k =
    let g = r before k in
    record { none = g.none; same = ap Framed g.framed; within = g.within; kept = g.kept }

pub framed_refused : (ended : Bool) (known after : Body) (text : List ℕ) (fault : WireFault)
    → IsBodyRead known text after (read.Refused fault)
    → IsContentRead ended (kept.Framed known) text (kept.Framed after) content.Refused
framed_refused ended known after text fault r before k =
    let f = r before k in
    (ap kept.Framed f.0, λ more later. refused_never (framing_of known) (before ++ text) fault f.2 more)

-- ---- and of one that goes up to the end

different : (b : Bool) → b ≡ true → b ≡ false → ⊥
different b x y = cc

pub end_too_long : (text : List ℕ) (ended : Bool) → MAX_BODY_BYTES < length text
    → IsContentRead ended kept.ToEnd text kept.ToEnd content.Refused
end_too_long text ended long before k = (
  refl,
  λ more later body rest b. omega (arith, length-append (before ++ text) more, length-append before text, b.3),
)

pub end_open : (text : List ℕ) (ended : Bool) → ended ≡ false → IsContentRead ended kept.ToEnd text kept.ToEnd (content.Going 0)
end_open text ended is before k = record {
  none = λ body rest b. different ended b.0 is;
  same = refl;
  within = omega arith;
  kept = append-nil before ∙ k;
}

whole_text : (text body : List ℕ) (len : ℕ) (ended : Bool) → ended ≡ true → length text ≤ MAX_BODY_BYTES → body ≡ text
    → len ≡ length text → BeginsContent ToEnd ended text body (drop len text)
whole_text text body len ended is few same len_is =
    (is, same, is_nil (drop len text) (omega (arith, length-drop len text, len_is)), few)

pub end_whole : (text body : List ℕ) (len : ℕ) (ended : Bool) → ended ≡ true → length text ≤ MAX_BODY_BYTES → body ≡ text
    → len ≡ length text → IsContentRead ended kept.ToEnd text kept.ToEnd (content.Whole body len)
end_whole text body len ended is few same len_is before k = (
  omega (arith, len_is),
  subst (λ (b : List ℕ). BeginsContent ToEnd ended (b ++ text) body (drop len text)) (sym k)
      (whole_text text body len ended is few same len_is),
)

-- What the bytes of chunks say of every body at the front.
use Rattle.std.proofs.Common.{◌≡◌, ℕ, ◌+◌, ◌<◌, ◌≤◌, List, [], ◌∷◌, ◌++◌, length, take, drop, refl, sym, ap, ◌∙◌, subst, append_assoc, arith, inl, inr}
use Rattle.std.proofs.Math.Seq.{drop-append_seam}
use Rattle.std.proofs.lemmas.List.{take-append-drop, length-drop, length-take-le, drop-drop, append-nil, length-append}
use Rattle.httparse.specs.Ascii.{crlf_bytes}
use Rattle.cd_wire.specs.declared.limits.TheConstants.{MAX_BODY_BYTES}
use Rattle.cd_wire.specs.declared.fault.WireFault.{WireFault}
use Rattle.cd_wire.specs.declared.fault.WireFault.TheVariants.{BadHead, BadTarget, BadHost, BadLength, BodyTooLong, UnknownCoding}
use Rattle.cd_wire.specs.declared.framing.Framing.{Framing}
use Rattle.cd_wire.specs.declared.framing.Framing.TheVariants.{Length, Chunked}
use Rattle.cd_wire.specs.Bodies.{BeginsLine, BeginsChunk, BeginsChunks, ChunksThen, joined, RefusesChunk, RefusesLine, NeverHasCrlf, RefusesBody}
use Rattle.cd_wire.specs.Chunks.{HasNoChunk, HasData}
use Rattle.cd_wire.proofs.RequestLaws.{BeginsLine-unique, BeginsChunk-unique}
use Rattle.cd_wire.proofs.LineLemmas.{refused_is_no_line}

-- the chunk of a line has its size, and CR LF behind it
pub chunk_of_line : (text : List ℕ) (size : ℕ) (after piece rest : List ℕ) → BeginsLine text size after
    → BeginsChunk text piece rest → (length piece ≡ size) × (drop size after ≡ crlf_bytes ++ rest)
chunk_of_line text size after piece rest b c =
    let same = BeginsLine-unique text (length piece) size c.after after c.line b in (
      same.0,
      ap (λ n. drop n after) (sym same.0) ∙ ap (drop (length piece)) (sym same.1 ∙ c.is)
          ∙ drop-append_seam piece (crlf_bytes ++ rest),
    )

-- the last chunk of a line has the size 0
pub last_of_line : (text : List ℕ) (size : ℕ) (after rest : List ℕ) → BeginsLine text size after
    → BeginsLine text 0 (crlf_bytes ++ rest) → (size ≡ 0) × (drop size after ≡ crlf_bytes ++ rest)
last_of_line text size after rest b c =
    let same = BeginsLine-unique text size 0 after (crlf_bytes ++ rest) b c in
    (same.0, ap (λ n. drop n after) same.0 ∙ same.1)

pub no_chunk_too_great : (before : ℕ) (text : List ℕ) (size : ℕ) (after : List ℕ) → BeginsLine text size after
    → before ≤ MAX_BODY_BYTES → MAX_BODY_BYTES < before + size → HasNoChunk before text
no_chunk_too_great before text size after b fits great = record {
  none = λ piece rest c. omega (arith, (chunk_of_line text size after piece rest b c).0);
  not_last = λ rest c. absurd (omega (arith, (last_of_line text size after rest b c).0));
}

pub no_chunk_without_crlf : (before : ℕ) (text : List ℕ) (size : ℕ) (after : List ℕ) → BeginsLine text size after
    → ((rest : List ℕ) → ¬ (drop size after ≡ crlf_bytes ++ rest)) → HasNoChunk before text
no_chunk_without_crlf before text size after b none = record {
  none = λ piece rest c. absurd (none rest (chunk_of_line text size after piece rest b c).1);
  not_last = λ rest c. none rest (last_of_line text size after rest b c).1;
}

pub no_chunk_without_line : (before : ℕ) (text : List ℕ)
    → ((size : ℕ) (rest : List ℕ) → ¬ (BeginsLine text size rest)) → HasNoChunk before text
no_chunk_without_line before text none = record {
  none = λ piece rest c. absurd (none (length piece) c.after c.line);
  not_last = λ rest c. none 0 (crlf_bytes ++ rest) c;
}

pub sound_without_line : (before : ℕ) (text : List ℕ) → ((size : ℕ) (rest : List ℕ) → ¬ (BeginsLine text size rest))
    → ¬ (RefusesLine text) → (fault : WireFault) → ¬ (RefusesChunk before text fault)
sound_without_line before text none fine BodyTooLong r = none r.0 r.1 r.2
sound_without_line before text none fine BadLength r =
    elim r [ inl refuses ↦ fine refuses | inr found ↦ none found.0 found.1 found.2.line ]
sound_without_line before text none fine BadHead r = r
sound_without_line before text none fine BadTarget r = r
sound_without_line before text none fine BadHost r = r
sound_without_line before text none fine UnknownCoding r = r

pub sound_with_line : (before : ℕ) (text : List ℕ) (size : ℕ) (after : List ℕ) → BeginsLine text size after
    → before + size ≤ MAX_BODY_BYTES → ¬ (NeverHasCrlf (drop size after)) → (fault : WireFault) → ¬ (RefusesChunk before text fault)
sound_with_line before text size after b fits may BodyTooLong r =
    let same = BeginsLine-unique text r.0 size r.1 after r.2 b in absurd (omega (arith, same.0, r.3))
sound_with_line before text size after b fits may BadLength r =
    elim r [
      | inl refuses ↦ refused_is_no_line text size after refuses b
      | inr found ↦
          let same = BeginsLine-unique text found.0 size found.1 after found.2.line b in
          may (subst (λ (t : List ℕ). NeverHasCrlf t) (ap (λ n. drop n found.1) same.0 ∙ ap (drop size) same.1) found.3)
    ]
sound_with_line before text size after b fits may BadHead r = r
sound_with_line before text size after b fits may BadTarget r = r
sound_with_line before text size after b fits may BadHost r = r
sound_with_line before text size after b fits may UnknownCoding r = r

-- ---- where the data of a chunk ends

-- what stands behind CR LF behind the data
pub past_crlf : (text tail : List ℕ) (len size next : ℕ) → next ≡ len + size + 2 → tail ≡ drop size (drop len text)
    → drop 2 tail ≡ drop next text
past_crlf text tail len size next e is =
    ap (drop 2) is ∙ ap (drop 2) (drop-drop size len text) ∙ drop-drop 2 (len + size) text ∙ ap (λ n. drop n text) (sym e)

pub past_in_range : (text tail : List ℕ) (len size next : ℕ) → next ≡ len + size + 2 → tail ≡ drop size (drop len text)
    → 2 ≤ length tail → next ≤ length text
past_in_range text tail len size next e is two =
    omega (arith, ap length is, length-drop size (drop len text), length-drop len text)

pub whole_last : (text tail : List ℕ) (len size next : ℕ) → next ≡ len + size + 2 → size ≡ 0
    → BeginsLine text size (drop len text) → tail ≡ drop size (drop len text)
    → tail ≡ crlf_bytes ++ drop 2 tail → BeginsLine text 0 (crlf_bytes ++ drop next text)
whole_last text tail len size next e zero b is crlf =
    let after : drop len text ≡ crlf_bytes ++ drop next text =
    ap (λ n. drop n (drop len text)) (sym zero) ∙ sym is ∙ crlf ∙ ap (λ t. crlf_bytes ++ t) (past_crlf text tail len size next e is) in
    subst (λ (n : ℕ). BeginsLine text n (crlf_bytes ++ drop next text)) zero
    (subst (λ (t : List ℕ). BeginsLine text size t) after b)

pub whole_data : (before : ℕ) (text tail : List ℕ) (len size next : ℕ) → next ≡ len + size + 2 → 0 < size
    → before + size ≤ MAX_BODY_BYTES → BeginsLine text size (drop len text) → tail ≡ drop size (drop len text)
    → 2 ≤ length tail → tail ≡ crlf_bytes ++ drop 2 tail → HasData before text len size next
whole_data before text tail len size next e some fits b is two crlf =
    let long : size ≤ length (drop len text) = omega (arith, ap length is, length-drop size (drop len text)) in
    let same : length (take size (drop len text)) ≡ size = length-take-le size (drop len text) long in
    record {
      some = some;
      past = omega arith;
      within = past_in_range text tail len size next e is two;
      fits = fits;
      chunk = record {
        after = drop len text;
        line = subst (λ (n : ℕ). BeginsLine text n (drop len text)) (sym same) b;
        some = omega arith;
        is = sym (take-append-drop size (drop len text))
            ∙ ap (λ t. take size (drop len text) ++ t)
            (sym is ∙ crlf ∙ ap (λ t. crlf_bytes ++ t) (past_crlf text tail len size next e is));
      };
    }

-- bytes that never begin with CR LF do not now
pub never_crlf_now : (text : List ℕ) → NeverHasCrlf text → (rest : List ℕ) → ¬ (text ≡ crlf_bytes ++ rest)
never_crlf_now text never rest is = never [] (rest ++ []) (ap (λ t. t ++ []) is)

-- one or no byte of CR LF may become one
pub nothing_may : ¬ (NeverHasCrlf [])
nothing_may never = never crlf_bytes [] refl

pub cr_may : ¬ (NeverHasCrlf (13 ∷ []))
cr_may never = never (10 ∷ []) [] refl

pub part_of_crlf : (text : List ℕ) → text ≡ [] → ((rest : List ℕ) → ¬ (text ≡ crlf_bytes ++ rest)) × ¬ (NeverHasCrlf text)
part_of_crlf text is =
    ((λ rest e. nil_is_no_cons (sym is ∙ e)), (λ never. nothing_may (subst (λ (t : List ℕ). NeverHasCrlf t) is never)))
  where
    nil_is_no_cons : {a : ℕ} {xs : List ℕ} → ◌≡◌ {A = List ℕ} [] (a ∷ xs) → ⊥
    nil_is_no_cons {a} {xs} e = cc

pub cr_of_crlf : (text : List ℕ) → text ≡ 13 ∷ [] → ((rest : List ℕ) → ¬ (text ≡ crlf_bytes ++ rest)) × ¬ (NeverHasCrlf text)
cr_of_crlf text is =
    ((λ rest e. short (sym is ∙ e)), (λ never. cr_may (subst (λ (t : List ℕ). NeverHasCrlf t) is never)))
  where
    short : {a : ℕ} {xs : List ℕ} → ◌≡◌ {A = List ℕ} (13 ∷ []) (13 ∷ (a ∷ xs)) → ⊥
    short {a} {xs} e = cc

-- ---- a body of chunks

pub Chunks-snoc : (text : List ℕ) (pieces : List (List ℕ)) (piece at rest : List ℕ) → ChunksThen text pieces at
    → BeginsChunk at piece rest → ChunksThen text (pieces ++ piece ∷ []) rest
Chunks-snoc text [] piece at rest so b = (rest, subst (λ (t : List ℕ). BeginsChunk t piece rest) (sym so) b, refl)
Chunks-snoc text (first ∷ pieces) piece at rest so b = (so.0, so.1, Chunks-snoc so.0 pieces piece at rest so.2 b)

pub joined-snoc : (pieces : List (List ℕ)) (piece : List ℕ) → joined (pieces ++ piece ∷ []) ≡ joined pieces ++ piece
joined-snoc [] piece = append-nil piece
joined-snoc (first ∷ pieces) piece = ap (λ t. first ++ t) (joined-snoc pieces piece) ∙ sym (append_assoc first (joined pieces) piece)

pub Chunks-last : (text : List ℕ) (pieces : List (List ℕ)) (at rest : List ℕ) → ChunksThen text pieces at
    → BeginsLine at 0 (crlf_bytes ++ rest) → BeginsChunks text pieces rest
Chunks-last text [] at rest so b = subst (λ (t : List ℕ). BeginsLine t 0 (crlf_bytes ++ rest)) (sym so) b
Chunks-last text (first ∷ pieces) at rest so b = (so.0, so.1, Chunks-last so.0 pieces at rest so.2 b)

-- where no chunk that fits comes, there is no whole body
pub no_body : (before : ℕ) (text : List ℕ) (pieces others : List (List ℕ)) (at rest : List ℕ) → ChunksThen text pieces at
    → HasNoChunk (before + length (joined pieces)) at → BeginsChunks text others rest
    → before + length (joined others) ≤ MAX_BODY_BYTES → ⊥
no_body before text [] [] at rest so none b fits =
    none.not_last rest (subst (λ (t : List ℕ). BeginsLine t 0 (crlf_bytes ++ rest)) so b)
no_body before text [] (other ∷ others) at rest so none b fits =
    let great = none.none other b.0 (subst (λ (t : List ℕ). BeginsChunk t other b.0) so b.1) in
    omega (arith, great, length-append other (joined others))
no_body before text (piece ∷ pieces) [] at rest so none b fits =
    let same = BeginsLine-unique text (length piece) 0 so.1.after (crlf_bytes ++ rest) so.1.line b in
    let some : 0 < length piece = so.1.some in
    omega (arith, same.0)
no_body before text (piece ∷ pieces) (other ∷ others) at rest so none b fits =
    let same = BeginsChunk-unique text piece other so.0 b.0 so.1 b.1 in
    let first : length piece ≡ length other = ap length same.0 in
    let moved : ChunksThen b.0 pieces at = subst (λ (t : List ℕ). ChunksThen t pieces at) same.1 so.2 in
    let here : HasNoChunk (before + length piece + length (joined pieces)) at =
    subst (λ (n : ℕ). HasNoChunk n at) (omega (arith, length-append piece (joined pieces))) none in
    no_body (before + length piece) b.0 pieces others at rest moved here b.2
    (omega (arith, first, length-append other (joined others)))

-- where a chunk that fits comes, there is no fault
pub no_fault_at_chunk : (before : ℕ) (text piece rest : List ℕ) (fault : WireFault) → BeginsChunk text piece rest
    → before + length piece ≤ MAX_BODY_BYTES → RefusesChunk before text fault → ⊥
no_fault_at_chunk before text piece rest fault c fits refuses =
    let tail = (chunk_of_line text (length piece) c.after piece rest c.line c).1 in
    sound_with_line before text (length piece) c.after c.line fits (λ never. never_crlf_now _ never rest tail) fault refuses

pub no_fault : (before : ℕ) (text : List ℕ) (pieces others : List (List ℕ)) (at rest : List ℕ) (fault : WireFault)
    → ChunksThen text pieces at → before + length (joined pieces) ≤ MAX_BODY_BYTES
    → HasNoChunk (before + length (joined pieces)) at → ¬ (RefusesChunk (before + length (joined pieces)) at fault)
    → ChunksThen text others rest → before + length (joined others) ≤ MAX_BODY_BYTES
    → RefusesChunk (before + length (joined others)) rest fault → ⊥
no_fault before text [] [] at rest fault so fits none sound also small refuses =
    sound (subst (λ (t : List ℕ). RefusesChunk (before + 0) t fault) (sym also ∙ so) refuses)
no_fault before text [] (other ∷ others) at rest fault so fits none sound also small refuses =
    let great = none.none other also.0 (subst (λ (t : List ℕ). BeginsChunk t other also.0) so also.1) in
    omega (arith, great, length-append other (joined others))
no_fault before text (piece ∷ pieces) [] at rest fault so fits none sound also small refuses =
    let same : before + 0 ≡ before = omega arith in
    let here = subst (λ (t : List ℕ). RefusesChunk (before + 0) t fault) (sym also) refuses in
    no_fault_at_chunk before text piece so.0 fault so.1 (omega (arith, length-append piece (joined pieces)))
    (subst (λ (n : ℕ). RefusesChunk n text fault) same here)
no_fault before text (piece ∷ pieces) (other ∷ others) at rest fault so fits none sound also small refuses =
    let same = BeginsChunk-unique text piece other so.0 also.0 so.1 also.1 in
    let first : length piece ≡ length other = ap length same.0 in
    let moved : ChunksThen also.0 pieces at = subst (λ (t : List ℕ). ChunksThen t pieces at) same.1 so.2 in
    let n : before + length (piece ++ joined pieces) ≡ before + length piece + length (joined pieces) =
    omega (arith, length-append piece (joined pieces)) in
    let m : before + length (other ++ joined others) ≡ before + length piece + length (joined others) =
    omega (arith, first, length-append other (joined others)) in
    no_fault (before + length piece) also.0 pieces others at rest fault moved (omega (arith, n))
    (subst (λ (k : ℕ). HasNoChunk k at) n none)
    (λ r. sound (subst (λ (k : ℕ). RefusesChunk k at fault) (sym n) r))
    also.2 (omega (arith, m)) (subst (λ (k : ℕ). RefusesChunk k rest fault) m refuses)

-- ---- a body has one fault

pub zero_more : (n : ℕ) → n ≡ 0 + n
zero_more n = omega arith

-- a line for too much data is not refused for another reason
long_or_bad : (before : ℕ) (text : List ℕ) → RefusesChunk before text BodyTooLong → RefusesChunk before text BadLength → ⊥
long_or_bad before text r q =
    elim q [
      | inl refuses ↦ refused_is_no_line text r.0 r.1 refuses r.2
      | inr found ↦
          let same = BeginsLine-unique text r.0 found.0 r.1 found.1 r.2 found.2.line in
          let fits : before + found.0 ≤ MAX_BODY_BYTES = found.2.fits in
          omega (arith, same.0, r.3, fits)
    ]

-- what is refused is no chunk that fits
fault_or_chunk : (before : ℕ) (text piece : List ℕ) (others : List (List ℕ)) (at rest : List ℕ) (fault : WireFault)
    → text ≡ at → RefusesChunk (before + 0) at fault → BeginsChunk text piece rest
    → before + length (piece ++ joined others) ≤ MAX_BODY_BYTES → ⊥
fault_or_chunk before text piece others at rest fault so r c small =
    let same : before + 0 ≡ before = omega arith in
    no_fault_at_chunk before text piece rest fault c (omega (arith, small, length-append piece (joined others)))
    (subst (λ (k : ℕ). RefusesChunk k text fault) same (subst (λ (t : List ℕ). RefusesChunk (before + 0) t fault) (sym so) r))

one_chunk_fault : (before : ℕ) (text : List ℕ) (fault other : WireFault) → RefusesChunk before text fault
    → RefusesChunk before text other → fault ≡ other
one_chunk_fault before text BodyTooLong BodyTooLong r q = refl
one_chunk_fault before text BadLength BadLength r q = refl
one_chunk_fault before text BodyTooLong BadLength r q = absurd (long_or_bad before text r q)
one_chunk_fault before text BadLength BodyTooLong r q = absurd (long_or_bad before text q r)
one_chunk_fault before text BadHead other r q = absurd r
one_chunk_fault before text BadTarget other r q = absurd r
one_chunk_fault before text BadHost other r q = absurd r
one_chunk_fault before text UnknownCoding other r q = absurd r
one_chunk_fault before text BodyTooLong BadHead r q = absurd q
one_chunk_fault before text BodyTooLong BadTarget r q = absurd q
one_chunk_fault before text BodyTooLong BadHost r q = absurd q
one_chunk_fault before text BodyTooLong UnknownCoding r q = absurd q
one_chunk_fault before text BadLength BadHead r q = absurd q
one_chunk_fault before text BadLength BadTarget r q = absurd q
one_chunk_fault before text BadLength BadHost r q = absurd q
one_chunk_fault before text BadLength UnknownCoding r q = absurd q

chunk_faults : (before : ℕ) (text : List ℕ) (pieces others : List (List ℕ)) (at rest : List ℕ) (fault other : WireFault)
    → ChunksThen text pieces at → before + length (joined pieces) ≤ MAX_BODY_BYTES
    → RefusesChunk (before + length (joined pieces)) at fault
    → ChunksThen text others rest → before + length (joined others) ≤ MAX_BODY_BYTES
    → RefusesChunk (before + length (joined others)) rest other → fault ≡ other
chunk_faults before text [] [] at rest fault other so fits r also small q =
    one_chunk_fault (before + 0) text fault other (subst (λ (t : List ℕ). RefusesChunk (before + 0) t fault) (sym so) r)
    (subst (λ (t : List ℕ). RefusesChunk (before + 0) t other) (sym also) q)
chunk_faults before text [] (piece ∷ others) at rest fault other so fits r also small q =
    absurd (fault_or_chunk before text piece others at also.0 fault so r also.1 small)
chunk_faults before text (piece ∷ pieces) [] at rest fault other so fits r also small q =
    absurd (fault_or_chunk before text piece pieces rest so.0 other also q so.1 fits)
chunk_faults before text (piece ∷ pieces) (next ∷ others) at rest fault other so fits r also small q =
    let same = BeginsChunk-unique text piece next so.0 also.0 so.1 also.1 in
    let first : length piece ≡ length next = ap length same.0 in
    let moved : ChunksThen also.0 pieces at = subst (λ (t : List ℕ). ChunksThen t pieces at) same.1 so.2 in
    let n : before + length (piece ++ joined pieces) ≡ before + length piece + length (joined pieces) =
    omega (arith, length-append piece (joined pieces)) in
    let m : before + length (next ++ joined others) ≡ before + length piece + length (joined others) =
    omega (arith, first, length-append next (joined others)) in
    chunk_faults (before + length piece) also.0 pieces others at rest fault other moved (omega (arith, n, fits))
    (subst (λ (k : ℕ). RefusesChunk k at fault) n r) also.2 (omega (arith, m, small))
    (subst (λ (k : ℕ). RefusesChunk k rest other) m q)

pub one_body_fault : (framing : Framing) (text : List ℕ) (fault other : WireFault) → RefusesBody framing text fault
    → RefusesBody framing text other → fault ≡ other
one_body_fault (Length size) text fault other r q = absurd r
one_body_fault Chunked text fault other r q =
    chunk_faults 0 text r.0 q.0 r.1 q.1 fault other r.2 (omega (arith, r.3))
    (subst (λ (k : ℕ). RefusesChunk k r.1 fault) (zero_more _) r.4) q.2 (omega (arith, q.3))
    (subst (λ (k : ℕ). RefusesChunk k q.1 other) (zero_more _) q.4)

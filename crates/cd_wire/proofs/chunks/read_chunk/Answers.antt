use Rattle.std.proofs.Common.{◌≡◌, ◌≤◌, ◌+◌, ◌<◌, ℕ, List, drop, subst, sym, ap, ◌∙◌, refl, arith, inl, inr}
use Rattle.cd_wire.specs.Bodies.{NeverHasCrlf}
use Rattle.cd_wire.specs.declared.limits.TheConstants.{MAX_BODY_BYTES}
use Rattle.cd_wire.proofs.BodyLemmas.{whole_last, whole_data, past_in_range, no_chunk_without_crlf, no_chunk_without_line, no_chunk_too_great, sound_with_line, sound_without_line, never_crlf_now}
use Rattle.cd_wire.proofs.LineLemmas.{refused_is_no_line}
use Rattle.cd_wire.proofs.chunks.read_chunk.Goals as goal

pub returns-in-Whole-crlf : goal.returns-in-Whole-crlf
returns-in-Whole-crlf c =
    let tail = c.after-tail.ensures ∙ ap (drop c.in-Whole.size) c.after.ensures in
    let next : c.in-Whole.len + 2 ≡ c.in-Whole.len + c.in-Whole.size + 2 = omega arith in (
      past_in_range c.args.text.now _ c.in-Whole.len c.in-Whole.size (c.in-Whole.len + 2) next tail c.in-Whole-crlf.ensures.0,
      whole_last c.args.text.now _ c.in-Whole.len c.in-Whole.size (c.in-Whole.len + 2) next c.if-size-eq0.true
          c.in-Whole.ensures.2 tail c.in-Whole-crlf.ensures.1,
    )

pub returns-in-Whole-2 : goal.returns-in-Whole-2
returns-in-Whole-2 c =
    let tail = c.after-tail.ensures ∙ ap (drop c.in-Whole.size) c.after.ensures in
    let fits : c.args.before + c.in-Whole.size ≤ MAX_BODY_BYTES = omega (arith, c.in-Whole.ensures.1) in
    whole_data c.args.before c.args.text.now _ c.in-Whole.len c.in-Whole.size _ refl (omega arith) fits
    c.in-Whole.ensures.2 tail c.in-Whole-2.ensures.0 c.in-Whole-2.ensures.1

pub returns-in-Partial-crlf : goal.returns-in-Partial-crlf
returns-in-Partial-crlf c =
    let tail = c.after-tail.ensures ∙ ap (drop c.in-Whole.size) c.after.ensures in
    let fits : c.args.before + c.in-Whole.size ≤ MAX_BODY_BYTES = omega (arith, c.in-Whole.ensures.1) in (
      no_chunk_without_crlf c.args.before c.args.text.now c.in-Whole.size _ c.in-Whole.ensures.2
          (λ rest is. c.in-Partial-crlf.ensures.0 rest (tail ∙ is)),
      sound_with_line c.args.before c.args.text.now c.in-Whole.size _ c.in-Whole.ensures.2 fits
          (λ never. c.in-Partial-crlf.ensures.1 (subst (λ (t : List ℕ). NeverHasCrlf t) (sym tail) never)),
    )

pub returns-in-Other : goal.returns-in-Other
returns-in-Other c =
    let tail = c.after-tail.ensures ∙ ap (drop c.in-Whole.size) c.after.ensures in
    let never = subst (λ (t : List ℕ). NeverHasCrlf t) tail c.in-Other.ensures in (
      no_chunk_without_crlf c.args.before c.args.text.now c.in-Whole.size _ c.in-Whole.ensures.2 (never_crlf_now _ never),
      inr (
        c.in-Whole.size,
        drop c.in-Whole.len c.args.text.now,
        record { line = c.in-Whole.ensures.2; fits = omega (arith, c.in-Whole.ensures.1) },
        never,
      ),
    )

pub returns-in-TooGreat : goal.returns-in-TooGreat
returns-in-TooGreat c =
    let great : MAX_BODY_BYTES < c.args.before + c.in-TooGreat.ensures.0 = omega (arith, c.in-TooGreat.ensures.3) in (
      no_chunk_too_great c.args.before c.args.text.now c.in-TooGreat.ensures.0 c.in-TooGreat.ensures.1
          c.in-TooGreat.ensures.2 c.requires great,
      (c.in-TooGreat.ensures.0, c.in-TooGreat.ensures.1, c.in-TooGreat.ensures.2, great),
    )

pub returns-in-Partial : goal.returns-in-Partial
returns-in-Partial c = (
  no_chunk_without_line c.args.before c.args.text.now c.in-Partial.ensures.0,
  sound_without_line c.args.before c.args.text.now c.in-Partial.ensures.0 c.in-Partial.ensures.1,
)

pub returns-in-Refused : goal.returns-in-Refused
returns-in-Refused c = (
  no_chunk_without_line c.args.before c.args.text.now
      (λ size rest b. refused_is_no_line c.args.text.now size rest c.in-Refused.ensures b),
  inl c.in-Refused.ensures,
)

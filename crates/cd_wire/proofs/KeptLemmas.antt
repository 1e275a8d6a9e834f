-- What is kept of an input holds of it when more bytes come.
use Rattle.std.proofs.Common.{inl, ◌≡◌, ℕ, zero, suc, lit<, ◌+◌, ◌≤◌, IsTrue, List, [], ◌∷◌, ◌++◌, length, take, drop, refl, sym, ap, ◌∙◌, subst, arith, append_assoc, length-append, Bool, Result, Ok, Err, OnErr}
use Rattle.std.proofs.lemmas.List.{drop-append-le, drop-drop, take-append-drop, take-append-le, take_all, append-nil}
use Rattle.std.proofs.lemmas.List.Elements.{All-nil, All-cons}
use Rattle.std.proofs.lemmas.Str.{IsUtf8-from_ascii}
use Rattle.std.specs.Str.{IsAscii}
use Rattle.httparse.specs.Grammar.{lf, IsField, RequestHead, print_request, is_token_byte, is_uri_byte, MayBecomeRequest}
use Rattle.cd_text.specs.declared.memory.NoMemory.{NoMemory}
use Rattle.cd_wire.specs.declared.intake.Next.{Next}
use Rattle.cd_wire.specs.declared.scanning.Line.TheVariants.{Blank}
use Rattle.cd_wire.specs.declared.scanning.Scanned.{Scanned}
use Rattle.cd_wire.specs.declared.taking.Search.{Search}
use Rattle.cd_wire.specs.declared.taking.Known.{Known}
use Rattle.cd_wire.specs.declared.taking.Taken.{Taken}
use Rattle.cd_wire.specs.declared.taking.Known.TheVariants as known
use Rattle.cd_wire.specs.Heads.{MayBecomeHead}
use Rattle.cd_wire.specs.Scanning.{scan}
use Rattle.cd_wire.specs.Taking.{IsScanned, IsSearch, IsKept, IsTaken}

-- ---- what may become a head

-- `G / HTTP/1.1`, and an empty line
abbrev least_head : RequestHead
least_head = record {
  blank = [];
  method = 71 ∷ [];
  target = 47 ∷ [];
  minor = 1;
  line_end = lf;
  fields = [];
  last = lf;
}

slash_ascii : IsAscii (47 ∷ [])
slash_ascii zero = lit< tt
slash_ascii (suc i) = lit< tt

-- nothing may
pub nothing_may : MayBecomeRequest []
unfolding is_token_byte
nothing_may = inl (
  print_request least_head,
  least_head,
  (
    record {
      method = (omega arith, All-cons (λ b. IsTrue (is_token_byte b)) 71 [] refl (All-nil (λ b. IsTrue (is_token_byte b))));
      target = (omega arith, All-cons (λ b. IsTrue (is_uri_byte b)) 47 [] refl (All-nil (λ b. IsTrue (is_uri_byte b))));
      target_text = IsUtf8-from_ascii (47 ∷ []) slash_ascii;
      minor = omega arith;
      fields = All-nil IsField;
    },
    sym (append-nil (print_request least_head)),
  ),
)

-- where all of the bytes may, half of them may
pub all_may : (input : List ℕ) → MayBecomeRequest input → MayBecomeHead input
all_may input may = record {
  count = length input;
  half = omega arith;
  may = subst MayBecomeRequest (sym (take_all (length input) input (omega arith))) may;
}

-- ---- what is kept

-- of what no request has begun nothing is kept
pub nothing_searched : (input : List ℕ)
    → IsSearch input (record { scanned = record { count = 0; line = Blank }; parsed = 0 })
nothing_searched input = record {
  scanned = record { within = omega arith; stands = refl };
  within = omega arith;
  may = nothing_may;
}

-- all of the bytes were parsed
pub all_searched : (input : List ℕ) (scanned : Scanned) → IsScanned input scanned → MayBecomeRequest input
    → IsSearch input (record { scanned = scanned; parsed = length input })
all_searched input scanned is may = record {
  scanned = is;
  within = omega arith;
  may = subst MayBecomeRequest (sym (take_all (length input) input (omega arith))) may;
}

-- ---- a piece was appended

search_push : (input piece : List ℕ) (search : Search) → IsSearch input search → IsSearch (input ++ piece) search
search_push input piece search s = record {
  scanned = record {
    within = omega (arith, s.scanned.within, length-append input piece);
    stands = s.scanned.stands ∙ ap (scan Blank) (sym (take-append-le search.scanned.count input piece s.scanned.within));
  };
  within = omega (arith, s.within, length-append input piece);
  may = subst MayBecomeRequest (sym (take-append-le search.parsed input piece s.within)) s.may;
}

kept_push : (before left piece : List ℕ) (kept : Known) → IsKept before left kept → IsKept before (left ++ piece) kept
kept_push before left piece (known.Search search) k = (k.0, search_push left piece search k.1)
kept_push before left piece (known.Front front) k = k
kept_push before left piece (known.Whole request) k = k

-- the same of what is left of a buffer that the piece makes longer
pub kept_appended : (before buffer new piece : List ℕ) (start : ℕ) (kept : Known) → new ≡ buffer ++ piece
    → start + start ≤ length buffer → IsKept before (drop start buffer) kept
    → (start + start ≤ length new) × IsKept before (drop start new) kept
kept_appended before buffer new piece start kept is half k =
    let left : drop start buffer ++ piece ≡ drop start new =
    sym (drop-append-le start buffer piece (omega arith)) ∙ ap (drop start) (sym is) in (
      omega (arith, ap length is, length-append buffer piece),
      subst (λ (input : List ℕ). IsKept before input kept) left (kept_push before (drop start buffer) piece kept k),
    )

-- ---- bytes that are left were read

-- bytes that are read go from those that are left to those that are not kept
pub read_on : (before buffer new gone : List ℕ) (start len at : ℕ) → gone ≡ before ++ take len (drop start buffer)
    → drop at new ≡ drop (start + len) buffer
    → (drop at new ≡ drop len (drop start buffer)) × (gone ++ drop at new ≡ before ++ drop start buffer)
read_on before buffer new gone start len at gone_is is =
    let left : drop at new ≡ drop len (drop start buffer) = is ∙ sym (drop-drop len start buffer) in (
      left,
      ap (λ t. gone ++ t) left ∙ ap (λ t. t ++ drop len (drop start buffer)) gone_is
          ∙ append_assoc before (take len (drop start buffer)) (drop len (drop start buffer))
          ∙ ap (λ t. before ++ t) (take-append-drop len (drop start buffer)),
    )

-- what holds in any case holds after an error
pub after_error : (r : Result Next NoMemory) (one other : List ℕ) → one ≡ other → OnErr r (one ≡ other)
after_error (Ok next) one other is = tt
after_error (Err error) one other is = is

-- what was taken, of the bytes that are left by another name
pub taken_here : (before left rest : List ℕ) (ended : Bool) (known after : Known) (t : Taken) → IsKept before left known
    → rest ≡ left → ((front : List ℕ) → IsKept front rest known → IsTaken front rest ended after t)
    → IsTaken before left ended after t
taken_here before left rest ended known after t kept is taken =
    subst (λ (r : List ℕ). IsTaken before r ended after t) is
    (taken before (subst (λ (r : List ℕ). IsKept before r known) (sym is) kept))

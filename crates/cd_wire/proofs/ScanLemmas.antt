-- Where a head ends in the bytes that begin with it.
use Rattle.std.proofs.Common.{◌≡◌, ℕ, zero, suc, ◌<◌, ◌+◌, ◌==◌, get_or, Bool, true, false, ◌||◌, IsTrue, if◌then◌else◌, List, [], ◌∷◌, ◌++◌, length, take, drop, Option, None, Some, unwrap_or, refl, sym, ap, ◌∙◌, subst, arith, append_assoc}
use Rattle.std.proofs.lemmas.Bool.{eqb-true}
use Rattle.std.proofs.Math.Seq.{take-add}
use Rattle.std.proofs.lemmas.List.{take-append-drop, take_more}
use Rattle.std.proofs.lemmas.List.Elements.{All-head}
use Rattle.std.specs.List.{flat_map}
use Rattle.memchr.specs.Find.{Nowhere, Passes, is_byte, IsFirstByte}
use Rattle.httparse.specs.Ascii.{colon, space}
use Rattle.httparse.specs.Grammar.{LineEnd, crlf, lf, print_end, print_blank, Field, print_field, print_section, RequestHead, IsRequestHead, print_request, print_version, IsToken, is_token_byte}
use Rattle.cd_wire.specs.declared.scanning.Line.{Line}
use Rattle.cd_wire.specs.declared.scanning.Line.TheVariants.{Blank, Inside, Ended, EndedCr, Over}
use Rattle.cd_wire.specs.Heads.{HasNoHead}
use Rattle.cd_wire.specs.Scanning.{step, scan, is_over}

pub scan-append : (line : Line) (xs ys : List ℕ) → scan line (xs ++ ys) ≡ scan (scan line xs) ys
scan-append line [] ys = refl
scan-append line (x ∷ xs) ys = scan-append (step line x) xs ys

-- m bytes more, which leave the line as it is
pub scan_stays : (line : Line) (xs : List ℕ) (n m : ℕ) → scan Blank (take n xs) ≡ line → scan line (take m (drop n xs)) ≡ line → scan Blank (take (n + m) xs) ≡ line
scan_stays line xs n m here on =
    ap (scan Blank) (take-add n m xs) ∙ scan-append Blank (take n xs) (take m (drop n xs))
    ∙ ap (λ (l : Line). scan l (take m (drop n xs))) here ∙ on

-- a line stays one where no LF comes
line_stays : (xs : List ℕ) (n : ℕ) → Nowhere (Passes (is_byte 10) xs) 0 n → scan Inside (take n xs) ≡ Inside
line_stays xs zero none = refl
line_stays [] (suc n) none = refl
line_stays (x ∷ xs) (suc n) none =
    ap (λ (l : Line). scan l (take n xs)) (by_test (x == 10) refl)
    ∙ line_stays xs n (λ k low high is. none (suc k) (omega arith) (omega (arith, high)) is)
  where
    by_test : (b : Bool) → (x == 10) ≡ b → (if b then Ended else Inside) ≡ Inside
    by_test true is = absurd (none 0 (omega arith) (omega arith) is)
    by_test false is = refl

-- and so up to the first LF
pub line_goes_on : (xs : List ℕ) (r : Option ℕ) → IsFirstByte (is_byte 10) xs r → scan Inside (take (unwrap_or r (length xs)) xs) ≡ Inside
line_goes_on xs None first = line_stays xs (length xs) first
line_goes_on xs (Some n) first = line_stays xs n first.0.before

-- one byte more
pub scan_more : (line : Line) (xs : List ℕ) (n d : ℕ) → n < length xs → scan line (take (n + 1) xs) ≡ step (scan line (take n xs)) (get_or xs n d)
scan_more line xs n d within = ap (scan line) (take_more xs n d within) ∙ scan-append line (take n xs) (get_or xs n d ∷ [])

pub scan-over : (xs : List ℕ) → scan Over xs ≡ Over
scan-over [] = refl
scan-over (x ∷ xs) = scan-over xs

-- once it is over, it stays so
pub over_stays : (line : Line) (xs : List ℕ) → is_over line ≡ true → is_over (scan line xs) ≡ true
over_stays Over xs o = ap is_over (scan-over xs)
over_stays Blank xs o = cc
over_stays Inside xs o = cc
over_stays Ended xs o = cc
over_stays EndedCr xs o = cc

-- ---- what has begun

-- a line has begun
abbrev is_begun : Line → Bool
is_begun Blank = false
is_begun Inside = true
is_begun Ended = true
is_begun EndedCr = true
is_begun Over = true

-- a line has just ended, or all is over
abbrev at_end : Line → Bool
at_end Blank = false
at_end Inside = false
at_end Ended = true
at_end EndedCr = false
at_end Over = true

end_is_begun : (line : Line) → at_end line ≡ true → is_begun line ≡ true
end_is_begun Blank e = cc
end_is_begun Inside e = refl
end_is_begun Ended e = refl
end_is_begun EndedCr e = refl
end_is_begun Over e = refl

chosen : (b c : Bool) (x y z : Line) → is_begun x ≡ true → is_begun y ≡ true → is_begun z ≡ true → is_begun (if b then x else (if c then y else z)) ≡ true
chosen true c x y z f g h = f
chosen false true x y z f g h = g
chosen false false x y z f g h = h

either : (b : Bool) (x y : Line) → is_begun x ≡ true → is_begun y ≡ true → is_begun (if b then x else y) ≡ true
either true x y f g = f
either false x y f g = g

begun_step : (line : Line) (byte : ℕ) → is_begun line ≡ true → is_begun (step line byte) ≡ true
begun_step Blank byte b = cc
begun_step Inside byte b = either (byte == 10) Ended Inside refl refl
begun_step Ended byte b = chosen (byte == 10) (byte == 13) Over EndedCr Inside refl refl refl
begun_step EndedCr byte b = either (byte == 10) Over Inside refl refl
begun_step Over byte b = refl

begun_stays : (line : Line) (xs : List ℕ) → is_begun line ≡ true → is_begun (scan line xs) ≡ true
begun_stays line [] b = b
begun_stays line (x ∷ xs) b = begun_stays (step line x) xs (begun_step line x b)

after_end : (line : Line) (end : LineEnd) → is_begun line ≡ true → at_end (scan line (print_end end)) ≡ true
after_end Blank end b = cc
after_end Inside crlf b = refl
after_end Inside lf b = refl
after_end Ended crlf b = refl
after_end Ended lf b = refl
after_end EndedCr crlf b = refl
after_end EndedCr lf b = refl
after_end Over crlf b = refl
after_end Over lf b = refl

empty_line : (line : Line) (end : LineEnd) → at_end line ≡ true → scan line (print_end end) ≡ Over
empty_line Blank end e = cc
empty_line Inside end e = cc
empty_line EndedCr end e = cc
empty_line Ended crlf e = refl
empty_line Ended lf e = refl
empty_line Over crlf e = refl
empty_line Over lf e = refl

-- whatever a line has, it ends with its line end
line_end : (line : Line) (text : List ℕ) (end : LineEnd) → is_begun line ≡ true → at_end (scan line (text ++ print_end end)) ≡ true
line_end line text end b =
    subst (λ (l : Line). at_end l ≡ true) (sym (scan-append line text (print_end end))) (after_end (scan line text) end (begun_stays line text b))

after_field : (line : Line) (f : Field) → at_end line ≡ true → at_end (scan line (print_field f)) ≡ true
after_field line f e = line_end line (f.name ++ (colon ∷ f.raw)) f.end (end_is_begun line e)

after_fields : (line : Line) (fields : List Field) → at_end line ≡ true → at_end (scan line (flat_map print_field fields)) ≡ true
after_fields line [] e = e
after_fields line (f ∷ fields) e =
    subst (λ (l : Line). at_end l ≡ true) (sym (scan-append line (print_field f) (flat_map print_field fields)))
    (after_fields (scan line (print_field f)) fields (after_field line f e))

section_over : (line : Line) (fields : List Field) (last : LineEnd) → at_end line ≡ true → scan line (print_section fields last) ≡ Over
section_over line fields last e =
    scan-append line (flat_map print_field fields) (print_end last)
    ∙ empty_line (scan line (flat_map print_field fields)) last (after_fields line fields e)

-- ---- the whole head

blank_stays : (ends : List LineEnd) → scan Blank (print_blank ends) ≡ Blank
blank_stays [] = refl
blank_stays (crlf ∷ ends) = blank_stays ends
blank_stays (lf ∷ ends) = blank_stays ends

-- a byte of a method begins a line
token_begins : (byte : ℕ) → is_token_byte byte ≡ true → step Blank byte ≡ Inside
unfolding is_token_byte
token_begins byte token = by_tests (byte == 10) (byte == 13) refl refl
  where
    by_tests : (a b : Bool) → (byte == 10) ≡ a → (byte == 13) ≡ b → (if a || b then Blank else Inside) ≡ Inside
    by_tests true b is other = absurd (no_line_feed (eqb-true byte 10 is))
      where
        no_line_feed : byte ≡ 10 → ⊥
        no_line_feed e = let none : is_token_byte 10 ≡ true = subst (λ (n : ℕ). is_token_byte n ≡ true) e token in cc
    by_tests false true is other = absurd (no_return (eqb-true byte 13 other))
      where
        no_return : byte ≡ 13 → ⊥
        no_return e = let none : is_token_byte 13 ≡ true = subst (λ (n : ℕ). is_token_byte n ≡ true) e token in cc
    by_tests false false is other = refl

rest_over : (line : Line) (text : List ℕ) (end : LineEnd) (fields : List Field) (last : LineEnd) → is_begun line ≡ true
    → scan line (text ++ (print_end end ++ print_section fields last)) ≡ Over
rest_over line text end fields last b =
    ap (scan line) (sym (append_assoc text (print_end end) (print_section fields last)))
    ∙ scan-append line (text ++ print_end end) (print_section fields last)
    ∙ section_over (scan line (text ++ print_end end)) fields last (line_end line text end b)

method_over : (method text : List ℕ) (end : LineEnd) (fields : List Field) (last : LineEnd) → IsToken method
    → scan Blank (method ++ (text ++ (print_end end ++ print_section fields last))) ≡ Over
method_over [] text end fields last token = absurd (omega (arith, token.0))
method_over (byte ∷ method) text end fields last token =
    ap (λ (l : Line). scan l (method ++ (text ++ (print_end end ++ print_section fields last)))) (token_begins byte (All-head (λ b. IsTrue (is_token_byte b)) byte method token.1))
    ∙ scan-append Inside method (text ++ (print_end end ++ print_section fields last))
    ∙ rest_over (scan Inside method) text end fields last (begun_stays Inside method refl)

-- the parts of a head
regroup : (a b c d e f : List ℕ) → a ++ b ++ c ++ d ++ e ++ f ≡ a ++ (b ++ ((c ++ d) ++ (e ++ f)))
regroup a b c d e f = simp append_assoc refl

-- a head is over at its end
pub head_over : (h : RequestHead) → IsRequestHead h → scan Blank (print_request h) ≡ Over
unfolding print_request
head_over h is =
    let text : List ℕ = (space ∷ h.target) ++ (space ∷ print_version h.minor) in
    let whole : print_request h ≡ print_blank h.blank ++ (h.method ++ (text ++ (print_end h.line_end ++ print_section h.fields h.last))) =
    regroup (print_blank h.blank) h.method (space ∷ h.target) (space ∷ print_version h.minor) (print_end h.line_end) (print_section h.fields h.last) in
    ap (scan Blank) whole
    ∙ scan-append Blank (print_blank h.blank) (h.method ++ (text ++ (print_end h.line_end ++ print_section h.fields h.last)))
    ∙ ap (λ (l : Line). scan l (h.method ++ (text ++ (print_end h.line_end ++ print_section h.fields h.last)))) (blank_stays h.blank)
    ∙ method_over h.method text h.line_end h.fields h.last is.method

-- an input that is not over has no head
pub no_head_yet : (input : List ℕ) → is_over (scan Blank input) ≡ false → HasNoHead input
no_head_yet input going head rest b =
    let over : scan Blank input ≡ Over =
    ap (scan Blank) b.reads.1 ∙ scan-append Blank (print_request b.lines) rest
    ∙ ap (λ (l : Line). scan l rest) (head_over b.lines b.reads.0) ∙ scan-over rest in
    different (sym (ap is_over over) ∙ going)
  where
    different : ◌≡◌ {A = Bool} true false → ⊥
    different e = cc

-- and neither has its front
pub no_head_in_part : (input : List ℕ) (n : ℕ) → is_over (scan Blank input) ≡ false → HasNoHead (take n input)
no_head_in_part input n going = no_head_yet (take n input) (part (is_over (scan Blank (take n input))) refl)
  where
    part : (b : Bool) → is_over (scan Blank (take n input)) ≡ b → is_over (scan Blank (take n input)) ≡ false
    part false e = e
    part true e =
        let all : is_over (scan (scan Blank (take n input)) (drop n input)) ≡ true = over_stays (scan Blank (take n input)) (drop n input) e in
        let here : is_over (scan Blank input) ≡ true =
        ap (λ (t : List ℕ). is_over (scan Blank t)) (sym (take-append-drop n input)) ∙ ap is_over (scan-append Blank (take n input) (drop n input)) ∙ all in
        absurd (cc)

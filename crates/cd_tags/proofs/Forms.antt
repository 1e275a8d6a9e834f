-- The places in a value are those of the form.
use Rattle.std.proofs.Common.{◌≡◌, ◌≢◌, ℕ, suc, ◌+◌, ◌-◌, ◌==◌, ◌&&◌, Bool, true, false, cond, List, [], ◌∷◌, ◌++◌, length, take, drop, get_or, Result, Ok, Err, IfOk, refl, sym, ap, ap₂, ◌∙◌, subst, arith, append_assoc, append-nil, length-append}
use Rattle.std.specs.Prelude.{nat_eq}
use Rattle.std.specs.List.{list_all, starts_with}
use Rattle.std.proofs.lemmas.Bool.{and_parts, leb-true, le-leb}
use Rattle.std.proofs.lemmas.Bool.Decides.{Decides-eqb}
use Rattle.std.proofs.lemmas.List.{drop_all, drop_at, take_at, length-drop, length-take-le}
use Rattle.std.proofs.lemmas.List.Folds.{drop_split}
use Rattle.std.proofs.lemmas.Slice.Eq.{starts_is}
use Rattle.std.proofs.Math.Seq.{split_at}
use Rattle.cd_text.specs.Gives.{Gives}
use Rattle.cd_text.specs.Steps.{◌▷◌}
use Rattle.cd_tree.proofs.Outcomes.{chained}
use Rattle.cd_tags.specs.Encoding.{framed}
use Rattle.cd_tags.specs.Framed.{opening, path_in, closing_in, hex_in, is_closing, is_framed, framed_tag, tag_in}
use Rattle.cd_tags.specs.IfMatch.{is_lower_hex, IsDigest, parts_of_path, IsTagOf}
use Rattle.cd_tags.specs.declared.fault.IfMatchFault.{IfMatchFault}
use Rattle.cd_tags.specs.declared.fault.IfMatchFault.TheVariants.{Malformed, NoMemory}
use Rattle.cd_tags.specs.declared.if_match.Tag.{Tag}
use Rattle.cd_tags.specs.declared.limits.TheConstants.{OPENING_BYTES, CLOSING_BYTES}

-- a space, digits, and `"`
abbrev closed : List ℕ → List ℕ
closed hex = 32 ∷ (hex ++ 34 ∷ [])

and_both : (a b : Bool) → a ≡ true → b ≡ true → (a && b) ≡ true
and_both true b p q = q
and_both false b p q = p

equal_of : (a b : ℕ) → (a == b) ≡ true → a ≡ b
equal_of a b h = (Decides-eqb a b).0 h

-- ---- a closing

last_one : (r : List ℕ) (n : ℕ) → length r ≡ n + 1 → r ≡ take n r ++ get_or r n 0 ∷ []
last_one r n l = split_at r n 0 (omega (arith, l)) ∙ ap (λ d. take n r ++ get_or r n 0 ∷ d) (drop_all (suc n) r (omega (arith, l)))

closing_is : (c : List ℕ) → length c ≡ CLOSING_BYTES → is_closing c ≡ true → (c ≡ closed (hex_in c)) × IsDigest (hex_in c)
closing_is [] l e = absurd (omega (arith, l))
closing_is (x ∷ r) l e =
    let a = and_parts _ _ e in
    let b = and_parts _ _ a.1 in
    let more : length r ≡ 64 + 1 = omega (arith, l) in
    (ap₂ (λ y ys. y ∷ ys) (equal_of x 32 a.0) (last_one r 64 more ∙ ap (λ y. take 64 r ++ y ∷ []) (equal_of _ 34 b.0)), record { digits = b.1; count = length-take-le 64 r (omega (arith, more)) })

end_is : (h : List ℕ) (n : ℕ) → length h ≡ n → get_or (h ++ 34 ∷ []) n 0 ≡ 34
end_is [] n l = ap (λ k. get_or (34 ∷ []) k 0) (sym l)
end_is (x ∷ h) n l = ap (λ k. get_or (x ∷ (h ++ 34 ∷ [])) k 0) (sym l) ∙ end_is h (length h) refl

closed_is : (hex : List ℕ) → IsDigest hex → (is_closing (closed hex) ≡ true) × (hex_in (closed hex) ≡ hex)
closed_is hex d =
    let inner : hex_in (closed hex) ≡ hex = take_at hex (34 ∷ []) 64 d.count in
    let last : (get_or (hex ++ 34 ∷ []) 64 0 == 34) ≡ true = ap (λ y. y == 34) (end_is hex 64 d.count) in
    (and_both _ _ last (ap (list_all is_lower_hex) inner ∙ d.digits), inner)

-- ---- a value

-- what is known of the places of a value that has the form
record Places (value path hex : List ℕ) : Type 0 where
  pub at_path : path_in value ≡ path
  pub at_closing : closing_in value ≡ closed hex
  pub is : is_framed value ≡ true

framed_places : (value path hex : List ℕ) → value ≡ framed path hex → IsDigest hex → Places value path hex
framed_places value path hex e d =
    let c = closed hex in
    let tail : length (hex ++ 34 ∷ []) ≡ 65 = length-append hex (34 ∷ []) ∙ ap (λ n. n + 1) d.count in
    let short : length c ≡ 66 = omega (arith, tail) in
    let long : length value ≡ 9 + (length path + 66) = ap length e ∙ length-append opening (path ++ c) ∙ ap (λ n. 9 + n) (length-append path c ∙ ap (λ n. length path + n) short) in
    let after : drop OPENING_BYTES value ≡ path ++ c = ap (drop OPENING_BYTES) e ∙ drop_at opening (path ++ c) OPENING_BYTES refl in
    let fits : length value - CLOSING_BYTES - OPENING_BYTES ≡ length path = omega (arith, long) in
    let whole : value ≡ (opening ++ path) ++ c = e ∙ sym (append_assoc opening path c) in
    let before : length (opening ++ path) ≡ length value - CLOSING_BYTES = length-append opening path ∙ omega (arith, long) in
    let rest : drop (length value - CLOSING_BYTES) value ≡ c = ap (drop (length value - CLOSING_BYTES)) whole ∙ drop_at (opening ++ path) c (length value - CLOSING_BYTES) before in
    let size : length c ≡ length value - (length value - CLOSING_BYTES) = omega (arith, long, short) in
    let closing : closing_in value ≡ c = ap (take (length value - (length value - CLOSING_BYTES))) rest ∙ ap (take (length value - (length value - CLOSING_BYTES))) (sym (append-nil c)) ∙ take_at c [] (length value - (length value - CLOSING_BYTES)) size in
    let starts : starts_with nat_eq value opening ≡ true = (starts_is Decides-eqb value opening (starts_with nat_eq value opening) refl).1 (path ++ c) e in
    record {
      at_path = ap (take (length value - CLOSING_BYTES - OPENING_BYTES)) after ∙ take_at path c (length value - CLOSING_BYTES - OPENING_BYTES) (sym fits);
      at_closing = closing;
      is = and_both _ _ (le-leb (OPENING_BYTES + CLOSING_BYTES) (length value) (omega (arith, long))) (and_both _ _ starts (ap is_closing closing ∙ (closed_is hex d).0));
    }

framed_is : (value : List ℕ) → is_framed value ≡ true → (value ≡ framed (path_in value) (hex_in (closing_in value))) × IsDigest (hex_in (closing_in value))
framed_is value e =
    let a = and_parts _ _ e in
    let b = and_parts _ _ a.1 in
    let long = leb-true (OPENING_BYTES + CLOSING_BYTES) (length value) a.0 in
    let n = length value - CLOSING_BYTES in
    let starts : value ≡ opening ++ drop OPENING_BYTES value = (starts_is Decides-eqb value opening (starts_with nat_eq value opening) refl).0 b.0 in
    let path : drop OPENING_BYTES value ≡ path_in value ++ drop n value = drop_split value OPENING_BYTES n (omega (arith, long)) in
    let rest : drop n value ≡ closing_in value =
    drop_split value n (length value) (omega arith) ∙ ap (λ d. closing_in value ++ d) (drop_all (length value) value (omega arith)) ∙ append-nil (closing_in value) in
    let size : length (closing_in value) ≡ CLOSING_BYTES = sym (ap length rest) ∙ length-drop n value ∙ omega (arith, long) in
    let c = closing_is (closing_in value) size b.1 in
    (starts ∙ ap (λ d. opening ++ d) (path ∙ ap (λ d. path_in value ++ d) (rest ∙ c.0)), c.1)

-- ---- the tag

same_ok : {A : Type 0} (a b : A) → ◌≡◌ {A = Result A IfMatchFault} (Ok a) (Ok b) → a ≡ b
same_ok a b h = cc

chosen : (value : List ℕ) (b : Bool) (tag : Tag) → is_framed value ≡ b → cond b (framed_tag value) (Err Malformed) ≡ Ok tag → (is_framed value ≡ true) × (framed_tag value ≡ Ok tag)
chosen value true tag e h = (e, h)
chosen value false tag e h = cc

-- what the places give is the tag
pub tag_is : (value : List ℕ) (tag : Tag) → tag_in value ≡ Ok tag → IsTagOf value tag
tag_is value tag h =
    let both = chosen value (is_framed value) tag refl h in
    let form = framed_is value both.0 in
    let c = chained (parts_of_path (path_in value)) (λ parts. Ok (record { path = record { parts = parts }; hex = hex_in (closing_in value) })) tag both.1 in
    let found : Tag = record { path = record { parts = c.0 }; hex = hex_in (closing_in value) } in
    let known : IsTagOf value found = record { path = path_in value; form = form.0; digest = form.1; parts = c.1 } in
    subst (IsTagOf value) (same_ok found tag c.2) known

-- and the other way round
pub tag_found : (value : List ℕ) (tag : Tag) → IsTagOf value tag → tag_in value ≡ Ok tag
tag_found value tag t =
    let p = framed_places value t.path tag.hex t.form t.digest in
    let hex : hex_in (closing_in value) ≡ tag.hex = ap hex_in p.at_closing ∙ (closed_is tag.hex t.digest).1 in
    let parts : parts_of_path (path_in value) ≡ Ok tag.path.parts = ap parts_of_path p.at_path ∙ t.parts in
    let made : Result (List (List ℕ)) IfMatchFault → List ℕ → Result Tag IfMatchFault = λ r h. r ▷ λ found. Ok (record { path = record { parts = found }; hex = h }) in
    ap (λ b. cond b (framed_tag value) (Err Malformed)) p.is ∙ ap₂ made parts hex

pub one_tag : (value : List ℕ) (one other : Tag) → IsTagOf value one → IsTagOf value other → one ≡ other
one_tag value one other s t = same_ok one other (sym (tag_found value one s) ∙ tag_found value other t)

-- ---- a call

pub tag_given : (r : Result Tag IfMatchFault) (value : List ℕ) → Gives NoMemory r (tag_in value) → IfOk r (IsTagOf value)
tag_given (Ok tag) value g = tag_is value tag g
tag_given (Err fault) value g = tt

pub never_malformed : (r : Result Tag IfMatchFault) (value : List ℕ) → Gives NoMemory r (tag_in value) → r ≡ Err Malformed → (tag : Tag) → IsTagOf value tag → ⊥
never_malformed r value g e tag t =
    let refused : (Malformed ≢ NoMemory) → tag_in value ≡ Err Malformed = subst (λ (s : Result Tag IfMatchFault). Gives NoMemory s (tag_in value)) e g in
    let no : ◌≡◌ {A = Result Tag IfMatchFault} (Ok tag) (Err Malformed) = sym (tag_found value tag t) ∙ refused (λ s. cc) in cc

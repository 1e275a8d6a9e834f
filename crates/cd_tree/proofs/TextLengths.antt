-- How long a tree's text is, level by level, is how long its text is.
use Rattle.std.proofs.Common.{◌≡◌, ℕ, zero, suc, ◌+◌, Bool, true, false, cond, ◌||◌, ◌==◌, nat_lt, List, [], ◌∷◌, ◌++◌, length, map, refl, sym, ap, ◌∙◌, subst, arith, append_assoc, append-nil, length-append, rules}
use Rattle.std.proofs.lemmas.Bool.{eqb-true, lt-ltb}
use Rattle.json.specs.Print.{separator, token_text, begins, ends, print_from, escape, escape_byte, escape_letter, quoted}
use Rattle.json.specs.Token as token
use Rattle.json.specs.Token.{Token}
use Rattle.cd_text.specs.Steps.{joined}
use Rattle.cd_tree.specs.Tree.{tokens, member_tokens, text, number_text}
use Rattle.cd_tree.specs.Lengths.{has_letter, longer, more, commas, bracketed, weight, member_weight}
use Rattle.cd_tree.specs.declared.tree.Member.{Member, out-Member, roll-Member, out-roll-Member}
use Rattle.cd_tree.specs.declared.tree.Num.{Num}
use Rattle.cd_tree.specs.declared.tree.Tree as tree
use Rattle.cd_tree.specs.declared.tree.Tree.{Tree, Null, Items, Object, roll-Tree, map-Tree, ind-Tree, the_lemmas}
use Rattle.cd_tree.specs.declared.tree.Tree.TheOpen.{Tree-F, Member-F}
use Rattle.cd_tree.specs.declared.tree.Tree.TheVariants.{rolls-Null, rolls-Bool, rolls-Num, rolls-Text, rolls-Items, rolls-Object}
use Rattle.cd_tree.proofs.Trees.{tokens-Null, tokens-Bool, tokens-Num, tokens-Text, tokens-Items, tokens-Object}

-- ---- the weight of each kind

weight-Null : weight Null ≡ 4
weight-Null = search (rules, the_lemmas)

weight-Bool : (b : Bool) → weight (tree.Bool b) ≡ cond b 4 5
weight-Bool b = search (rules, the_lemmas)

weight-Num : (n : Num) → weight (tree.Num n) ≡ length (number_text n)
weight-Num n = search (rules, the_lemmas)

weight-Text : (t : List ℕ) → weight (tree.Text t) ≡ length (quoted t)
weight-Text t = search (rules, the_lemmas)

pub weight-Items : (items : List Tree) → weight (Items items) ≡ bracketed (map weight items)
weight-Items items = search (rules, the_lemmas)

pub weight-Object : (members : List Member) → weight (Object members) ≡ bracketed (map member_weight members)
weight-Object members = search (rules, the_lemmas)

-- ---- tokens, one after another

-- how long the text of these tokens is
abbrev long : Bool → List Token → ℕ
long after ts = length (print_from after ts)

-- one token
one : (after : Bool) (t : Token) (ts : List Token) → long after (t ∷ ts) ≡ length (separator after t) + (length (token_text t) + long (ends t) ts)
unfolding print_from
one after t ts = length-append (separator after t) (token_text t ++ print_from (ends t) ts) ∙ ap (λ n. length (separator after t) + n) (length-append (token_text t) (print_from (ends t) ts))

-- nothing more
none : (after : Bool) → long after [] ≡ 0
unfolding print_from
none after = refl

-- a comma, where a value has ended
abbrev comma : Bool → ℕ
comma after = cond after 1 0

parted : (after : Bool) (t : Token) → begins t ≡ true → length (separator after t) ≡ comma after
parted true t e = rw e refl
parted false t e = refl

unparted : (after : Bool) (t : Token) → begins t ≡ false → length (separator after t) ≡ 0
unparted true t e = rw e refl
unparted false t e = refl

-- the tokens are those of one value whose text has this length, whatever follows
abbrev Spans : List Token → ℕ → Type 0
Spans ts n = (after : Bool) (rest : List Token) → long after (ts ++ rest) ≡ comma after + n + long true rest

-- a value of one token
span_one : (t : Token) → begins t ≡ true → ends t ≡ true → Spans (t ∷ []) (length (token_text t))
span_one t b e after rest = one after t rest ∙ rw (parted after t b, e) (omega arith)

module _ {X : Type 0} (f : X → List Token) (w : X → ℕ) (spans : (x : X) → Spans (f x) (w x)) where
  -- values after a value
  after_one : (xs : List X) (rest : List Token) → long true (joined (map f xs) ++ rest) ≡ commas (map w xs) + long true rest
  after_one [] rest = omega arith
  after_one (x ∷ xs) rest =
      ap (long true) (append_assoc (f x) (joined (map f xs)) rest) ∙ spans x true (joined (map f xs) ++ rest) ∙ omega (arith, after_one xs rest)

  -- values in brackets
  span_all : (opens closes : Token) → begins opens ≡ true → ends opens ≡ false → length (token_text opens) ≡ 1 → begins closes ≡ false → ends closes ≡ true → length (token_text closes) ≡ 1
      → (xs : List X) → Spans (opens ∷ (joined (map f xs) ++ closes ∷ [])) (bracketed (map w xs))
  span_all opens closes b e n b' e' n' [] after rest =
      one after opens (closes ∷ rest) ∙ rw (parted after opens b, e, n, one false closes rest, e', n') (omega arith)
  span_all opens closes b e n b' e' n' (x ∷ xs) after rest =
      let regroup : (((f x ++ joined (map f xs)) ++ closes ∷ []) ++ rest) ≡ f x ++ (joined (map f xs) ++ closes ∷ rest) = simp append_assoc refl in
      let closed : long true (closes ∷ rest) ≡ 1 + long true rest = one true closes rest ∙ rw (unparted true closes b', e', n') (omega arith) in
      let inside = spans x false (joined (map f xs) ++ closes ∷ rest) in
      let others = after_one xs (closes ∷ rest) in
      one after opens (((f x ++ joined (map f xs)) ++ closes ∷ []) ++ rest) ∙ rw (parted after opens b, e, n, regroup) (omega (arith, closed, inside, others))

-- a key and a value
span_member : (k : List ℕ) (ts : List Token) (n : ℕ) → Spans ts n → Spans (token.key k ∷ ts) (length (quoted k) + 1 + n)
span_member k ts n value after rest =
    one after (token.key k) (ts ++ rest) ∙ rw (parted after (token.key k) refl) (omega (arith, value false rest, length-append (quoted k) (58 ∷ [])))

-- ---- trees

abbrev Fits : Tree → Type 0
Fits t = Spans (tokens t) (weight t)

abbrev MemberFits : Member → Type 0
MemberFits m = Fits (out-Member m).value

abbrev Such : Type 0
Such = (t : Tree) × Fits t

abbrev SuchMember : Type 0
SuchMember = (m : Member) × MemberFits m

-- what is said of a part is said of the whole
fuse : {A B C : Type 0} (f : B → C) (g : A → B) (xs : List A) → map f (map g xs) ≡ map (λ x. f (g x)) xs
fuse f g [] = refl
fuse f g (x ∷ xs) = ap (λ z. f (g x) ∷ z) (fuse f g xs)

moved : (ts us : List Token) (n m : ℕ) → ts ≡ us → n ≡ m → Spans us m → Spans ts n
moved ts us n m e d s = subst (λ z. Spans z n) (sym e) (subst (λ z. Spans us z) (sym d) s)

layer : (y : Tree-F Such SuchMember) → Fits (roll-Tree (map-Tree Such SuchMember Tree Member (λ e. e.0) (λ e. e.0) y))
layer Tree-F.Null = subst Fits (sym rolls-Null) (moved _ _ _ _ tokens-Null weight-Null (span_one token.null refl refl))
layer (Tree-F.Bool true) = subst Fits (sym (rolls-Bool true)) (moved _ _ _ _ (tokens-Bool true) (weight-Bool true) (span_one (token.boolean true) refl refl))
layer (Tree-F.Bool false) = subst Fits (sym (rolls-Bool false)) (moved _ _ _ _ (tokens-Bool false) (weight-Bool false) (span_one (token.boolean false) refl refl))
layer (Tree-F.Num n) = subst Fits (sym (rolls-Num n)) (moved _ _ _ _ (tokens-Num n) (weight-Num n) (span_one (token.number (number_text n)) refl refl))
layer (Tree-F.Text s) = subst Fits (sym (rolls-Text s)) (moved _ _ _ _ (tokens-Text s) (weight-Text s) (span_one (token.string s) refl refl))
layer (Tree-F.Items es) =
    let ts = map (λ e. e.0) es in
    subst Fits (sym (rolls-Items ts)) (moved _ _ _ _
    (tokens-Items ts ∙ ap (λ (z : List (List Token)). token.begin_array ∷ (joined z ++ token.end_array ∷ [])) (fuse tokens (λ (e : Such). e.0) es))
    (weight-Items ts ∙ ap bracketed (fuse weight (λ (e : Such). e.0) es))
    (span_all (λ (e : Such). tokens e.0) (λ e. weight e.0) (λ e. e.1) token.begin_array token.end_array refl refl refl refl refl refl es))
layer (Tree-F.Object es) =
    let ms = map (λ e. e.0) es in
    subst Fits (sym (rolls-Object ms)) (moved _ _ _ _
    (tokens-Object ms ∙ ap (λ (z : List (List Token)). token.begin_object ∷ (joined z ++ token.end_object ∷ [])) (fuse member_tokens (λ (e : SuchMember). e.0) es))
    (weight-Object ms ∙ ap bracketed (fuse member_weight (λ (e : SuchMember). e.0) es))
    (span_all (λ (e : SuchMember). member_tokens e.0) (λ e. member_weight e.0) (λ e. span_member (out-Member e.0).key (tokens (out-Member e.0).value) (weight (out-Member e.0).value) e.1) token.begin_object token.end_object refl refl refl refl refl refl es))

member_layer : (y : Member-F Such SuchMember) → MemberFits (roll-Member (record { key = y.key; value = y.value.0 }))
member_layer y = subst (λ m. Fits m.value) (sym (out-roll-Member (record { key = y.key; value = y.value.0 }))) y.value.1

fits : (t : Tree) → Fits t
fits = ind-Tree Fits MemberFits (λ x y is. subst (λ z. Fits (roll-Tree z)) is (layer y)) (λ x y is. subst (λ z. MemberFits (roll-Member z)) is (member_layer y))

pub text-length : (t : Tree) → length (text t) ≡ weight t
text-length t = ap (long false) (sym (append-nil (tokens t))) ∙ fits t false [] ∙ omega (arith, none true)

-- ---- texts

-- a byte has a short escape, a long one, or none
letter : (x : ℕ) (a b c d e f g : Bool) → (x == 34) ≡ a → (x == 92) ≡ b → nat_lt 0 x ≡ true → nat_lt 0 (cond (a || b) x (cond c 98 (cond d 102 (cond e 110 (cond f 114 (cond g 116 0)))))) ≡ (a || (b || (c || (d || (e || (f || g))))))
letter x true b c d e f g p q r = r
letter x false true c d e f g p q r = r
letter x false false true d e f g p q r = refl
letter x false false false true e f g p q r = refl
letter x false false false false true f g p q r = refl
letter x false false false false false true g p q r = refl
letter x false false false false false false true p q r = refl
letter x false false false false false false false p q r = refl

has_a_letter : (x : ℕ) → nat_lt 0 (escape_letter x) ≡ has_letter x
has_a_letter zero = refl
has_a_letter (suc x) = letter (suc x) (suc x == 34) (suc x == 92) (suc x == 8) (suc x == 12) (suc x == 10) (suc x == 13) (suc x == 9) refl refl (lt-ltb 0 (suc x) (omega arith))

-- a byte that is a small number is below a space
small : (x k : ℕ) → (x == k) ≡ true → nat_lt k 32 ≡ true → nat_lt x 32 ≡ true
small x k e below = ap (λ z. nat_lt z 32) (eqb-true x k e) ∙ below

-- a byte with a letter is escaped
stop_by : (x : ℕ) (a b c d e f g : Bool) → (x == 8) ≡ c → (x == 12) ≡ d → (x == 10) ≡ e → (x == 13) ≡ f → (x == 9) ≡ g → (a || (b || (c || (d || (e || (f || g)))))) ≡ true → ((a || b) || nat_lt x 32) ≡ true
stop_by x true b c d e f g p q r s t h = refl
stop_by x false true c d e f g p q r s t h = refl
stop_by x false false true d e f g p q r s t h = small x 8 p refl
stop_by x false false false true e f g p q r s t h = small x 12 q refl
stop_by x false false false false true f g p q r s t h = small x 10 r refl
stop_by x false false false false false true g p q r s t h = small x 13 s refl
stop_by x false false false false false false g p q r s t h = small x 9 (t ∙ h) refl

quiet : (a b r : Bool) → (a || (b || r)) ≡ false → (a || b) ≡ false
quiet true b r h = h
quiet false true r h = h
quiet false false r h = refl

-- the length of an escape, by its tests: whether it is one of the two marks, has a letter, and is below a space
by_tests : (u s t : Bool) (l x y z : ℕ) → (s ≡ true → (u || t) ≡ true) → (s ≡ false → u ≡ false) → length (cond s (92 ∷ l ∷ []) (cond t (92 ∷ 117 ∷ 48 ∷ 48 ∷ y ∷ z ∷ []) (x ∷ []))) ≡ 1 + cond (u || t) (cond s 1 5) 0
by_tests true true t l x y z h k = refl
by_tests false true true l x y z h k = refl
by_tests false true false l x y z h k = absurd (let never : ⊥ = let e = h refl in cc in never)
by_tests true false t l x y z h k = absurd (let never : ⊥ = let e = k refl in cc in never)
by_tests false false true l x y z h k = refl
by_tests false false false l x y z h k = refl

byte_length : (x : ℕ) → length (escape_byte x) ≡ 1 + longer x
unfolding escape_byte
byte_length x =
    rw (has_a_letter x) (by_tests ((x == 34) || (x == 92)) (has_letter x) (nat_lt x 32) (escape_letter x) x _ _
    (stop_by x (x == 34) (x == 92) (x == 8) (x == 12) (x == 10) (x == 13) (x == 9) refl refl refl refl refl)
    (quiet (x == 34) (x == 92) ((x == 8) || ((x == 12) || ((x == 10) || ((x == 13) || (x == 9)))))))

pub escape-length : (xs : List ℕ) → length (escape xs) ≡ more xs + length xs
escape-length [] = refl
escape-length (x ∷ xs) = length-append (escape_byte x) (escape xs) ∙ omega (arith, byte_length x, escape-length xs)

pub quoted-length : (xs : List ℕ) → length (quoted xs) ≡ length (escape xs) + 2
quoted-length xs = omega (arith, length-append (escape xs) (34 ∷ []))

-- The words of a file without a fault are texts.
use Rattle.std.proofs.Common.{◌≡◌, ℕ, suc, ◌<◌, Bool, true, false, not, ◌||◌, if◌then◌else◌, nat_lt, List, [], ◌∷◌, ◌++◌, map, drop, codes, refl, sym, subst, ◌∙◌, arith, ◌≤◌, true≢false, inl, inr, Option, Some, None, Ok}
use Rattle.std.specs.Prelude.{All, IsUtf8, IfSome, ⊤, length}
use Rattle.std.specs.Char.{to_ascii_lowercase}
use Rattle.std.specs.List.{list_any, list_all, before_first, after_first}
use Rattle.std.specs.Str.{is_utf8}
use Rattle.std.proofs.lemmas.Bool.{cases_lt, and_parts}
use Rattle.std.proofs.lemmas.Bool.Decides.{nat_tests}
use Rattle.std.proofs.lemmas.List.Elements.{All-nil, All-cons, All-head, All-tail, All-append}
use Rattle.std.proofs.lemmas.List.Sums.{AllPass-from_list_all}
use Rattle.std.proofs.lemmas.Str.{IsUtf8-from_ascii, IsUtf8-from_is_utf8}
use Rattle.std.proofs.lemmas.Str.Ascii.{IsAscii-from_all, IsAscii-map, IsAscii-nil, IsAscii-cons}
use Rattle.cd_text.specs.Steps.{◌▷◌, refused_where}
use Rattle.cd_tree.specs.declared.limits.TheConstants.{MAX_TEXT_BYTES}
use Rattle.cd_caddyfile.proofs.TextWords.{words_texts, spelled_text}
use Rattle.cd_caddyfile.specs.Adapting.{unless_faulty, checked}
use Rattle.cd_caddyfile.specs.Addresses.{is_host_byte, is_host, port_of, at_port, is_colon, port_alone, host_alone, host_then_port, host_and_port, address_of}
use Rattle.cd_caddyfile.specs.Blocks.{Lines, end, line, block, Nesting, last, up_to, opened, in_front, preceded_by, nested, followed_by, outermost, file_lines}
use Rattle.cd_caddyfile.specs.Directives.{is_matcher, choice_of, args_after, own_args}
use Rattle.cd_caddyfile.specs.Faults.{fault_at, fault_where, line_faults_of, line_faults, is_sooner, sooner, first_fault, faults, fault_of}
use Rattle.cd_caddyfile.specs.FileSites.{test_line, tested_in, tested, matchers_in}
use Rattle.cd_caddyfile.specs.Lines.{lines_of, texts, is_brace, says, opens, by_last, line_of, is_bad_text}
use Rattle.cd_caddyfile.specs.Shorthands.{spelled}
use Rattle.cd_caddyfile.specs.Walk.{words_in, inside, walk}
use Rattle.cd_caddyfile.specs.Words.{words}
use Rattle.cd_caddyfile.specs.declared.address.Address.{Address}
use Rattle.cd_caddyfile.specs.declared.choice.Choice.{Choice}
use Rattle.cd_caddyfile.specs.declared.choice.Choice.TheVariants.{Unmatched, Everything, ByPath, ByName}
use Rattle.cd_caddyfile.specs.declared.directive.Directive.{Directive}
use Rattle.cd_caddyfile.specs.declared.fault.CaddyfileFault.{CaddyfileFault}
use Rattle.cd_caddyfile.specs.declared.fault.CaddyfileKind.TheVariants.{BadText, TooLong}
use Rattle.cd_caddyfile.specs.declared.line.Line.{Line}
use Rattle.cd_caddyfile.specs.declared.line.Line.TheVariants.{Empty, Closes, Opens, Says, Misplaced}
use Rattle.cd_caddyfile.specs.declared.named.Matchers.{Matchers}
use Rattle.cd_caddyfile.specs.declared.named.TestLine.{TestLine}
use Rattle.cd_caddyfile.specs.declared.within.Within.{Within}
use Rattle.cd_caddyfile.specs.declared.within.Within.TheVariants.{File, Directives, Tests, Unread}
use Rattle.cd_caddyfile.specs.declared.word.Word.{Word}
use Rattle.cd_parts.specs.Texts.{AreTexts, LinesAreTexts}
use Rattle.cd_adapt.specs.Splitting.{IsTextLine, HasTextHost}

-- ---- a line

abbrev Texts : List Word → Type 0
Texts ws = All (λ (w : Word). IsUtf8 w.text) ws

none_said : AreTexts []
none_said = All-nil (λ word. IsUtf8 word)

words_of : (ws : List Word) → Texts ws → AreTexts (texts ws)
words_of [] all = none_said
words_of (w ∷ ws) all = All-cons (λ word. IsUtf8 word) w.text (texts ws) (All-head (λ (x : Word). IsUtf8 x.text) w ws all) (words_of ws (All-tail (λ (x : Word). IsUtf8 x.text) w ws all))

opens_texts : (b : Bool) (ws : List Word) → Texts ws → IsTextLine (if b then Misplaced else Opens (texts ws))
opens_texts true ws all = tt
opens_texts false ws all = words_of ws all

says_texts : (b : Bool) (ws : List Word) → Texts ws → IsTextLine (if b then Misplaced else Says (texts ws))
says_texts true ws all = tt
says_texts false ws all = words_of ws all

and_word : (before : List Word) (w : Word) → Texts before → IsUtf8 w.text → Texts (before ++ w ∷ [])
and_word before w all is = All-append (λ (x : Word). IsUtf8 x.text) before (w ∷ []) all (All-cons (λ (x : Word). IsUtf8 x.text) w [] is (All-nil (λ (x : Word). IsUtf8 x.text)))

last_texts : (a b : Bool) (before : List Word) (w : Word) → Texts before → IsUtf8 w.text → IsTextLine (if a then opens before else (if b then Closes else says (before ++ w ∷ [])))
last_texts true b before w all is = opens_texts (list_any is_brace before) before all
last_texts false true before w all is = tt
last_texts false false before w all is = says_texts (list_any is_brace (before ++ w ∷ [])) (before ++ w ∷ []) (and_word before w all is)

by_last_texts : (before ws : List Word) → Texts before → Texts ws → IsTextLine (by_last before ws)
unfolding by_last
by_last_texts before [] all more = tt
by_last_texts before (w ∷ []) all more = last_texts _ _ before w all (All-head (λ (x : Word). IsUtf8 x.text) w [] more)
by_last_texts before (w ∷ (v ∷ ws)) all more =
    by_last_texts (before ++ w ∷ []) (v ∷ ws) (and_word before w all (All-head (λ (x : Word). IsUtf8 x.text) w (v ∷ ws) more)) (All-tail (λ (x : Word). IsUtf8 x.text) w (v ∷ ws) more)

pub line_texts : (bytes : List ℕ) → IsUtf8 bytes → IsTextLine (line_of bytes)
line_texts bytes is = by_last_texts [] (words bytes) (All-nil (λ (x : Word). IsUtf8 x.text)) (words_texts bytes is)

pub read_texts : (bytes : List ℕ) (l : Line) → l ≡ line_of bytes → IsUtf8 bytes → IsTextLine l
read_texts bytes l is text = subst IsTextLine (sym is) (line_texts bytes text)

-- ---- all lines

abbrev TextLines : Lines → Type 0
TextLines end = ⊤
TextLines (line n ws after) = AreTexts ws × TextLines after
TextLines (block n ws is_closed within after) = AreTexts ws × (TextLines within × TextLines after)

abbrev TextNesting : Nesting → Type 0
TextNesting (last ls) = TextLines ls
TextNesting (up_to ls n more) = TextLines ls × TextNesting more

opened_texts : (n : ℕ) (ws : List (List ℕ)) (N : Nesting) → AreTexts ws → TextNesting N → TextNesting (opened n ws N)
opened_texts n ws (last ls) are is = (are, (is, tt))
opened_texts n ws (up_to ls m (last after)) are is = (are, (is.0, is.1))
opened_texts n ws (up_to ls m (up_to after k more)) are is = ((are, (is.0, is.1.0)), is.1.1)

front_texts : (n : ℕ) (ws : List (List ℕ)) (N : Nesting) → AreTexts ws → TextNesting N → TextNesting (in_front n ws N)
front_texts n ws (last ls) are is = (are, is)
front_texts n ws (up_to ls m more) are is = ((are, is.0), is.1)

preceded_texts : (n : ℕ) (l : Line) (N : Nesting) → IsTextLine l → TextNesting N → TextNesting (preceded_by n l N)
preceded_texts n Empty N are is = is
preceded_texts n Closes N are is = (tt, is)
preceded_texts n (Opens ws) N are is = opened_texts n ws N are is
preceded_texts n (Says ws) N are is = front_texts n ws N are is
preceded_texts n Misplaced N are is = is

nested_texts : (n : ℕ) (ls : List (List ℕ)) → All (λ l. IsUtf8 l) ls → TextNesting (nested n ls)
unfolding nested
nested_texts n [] all = tt
nested_texts n (l ∷ ls) all =
    preceded_texts n (line_of l) (nested (suc n) ls) (line_texts l (All-head (λ x. IsUtf8 x) l ls all)) (nested_texts (suc n) ls (All-tail (λ x. IsUtf8 x) l ls all))

followed_texts : (ls others : Lines) → TextLines ls → TextLines others → TextLines (followed_by ls others)
unfolding followed_by
followed_texts end others is more = more
followed_texts (line n ws after) others is more = (is.0, followed_texts after others is.1 more)
followed_texts (block n ws is_closed within after) others is more = (is.0, (is.1.0, followed_texts after others is.1.1 more))

a_brace : AreTexts (codes "}" ∷ [])
a_brace = All-cons (λ w. IsUtf8 w) (codes "}") [] (IsUtf8-from_ascii (codes "}") (IsAscii-cons 125 [] (omega arith) IsAscii-nil)) none_said

outermost_texts : (N : Nesting) → TextNesting N → TextLines (outermost N)
unfolding outermost
outermost_texts (last ls) is = is
outermost_texts (up_to ls n more) is = followed_texts ls (line n (codes "}" ∷ []) (outermost more)) is.0 (a_brace, outermost_texts more is.1)

-- ---- what they say of matchers

spelled_texts : (ws : List (List ℕ)) → AreTexts ws → AreTexts (map spelled ws)
spelled_texts [] all = none_said
spelled_texts (w ∷ ws) all =
    All-cons (λ x. IsUtf8 x) (spelled w) (map spelled ws) (spelled_text w (All-head (λ x. IsUtf8 x) w ws all)) (spelled_texts ws (All-tail (λ x. IsUtf8 x) w ws all))

pub made_texts : (ws made : List (List ℕ)) → made ≡ map spelled ws → AreTexts ws → AreTexts made
made_texts ws made is all = subst AreTexts (sym is) (spelled_texts ws all)

words_in_texts : (at : Within) (ws : List (List ℕ)) → AreTexts ws → AreTexts (words_in at ws)
words_in_texts File ws all = all
words_in_texts (Directives site) ws all = spelled_texts ws all
words_in_texts (Tests site matcher) ws all = spelled_texts ws all
words_in_texts (Unread site) ws all = spelled_texts ws all

abbrev IsTest : TestLine → Type 0
IsTest l = AreTexts l.words

no_test : LinesAreTexts []
no_test = All-nil (λ (l : TestLine). AreTexts l.words)

one_test : (n : ℕ) (ws : List (List ℕ)) → AreTexts ws → LinesAreTexts (test_line n ws ∷ [])
one_test n ws all = All-cons (λ (l : TestLine). AreTexts l.words) (test_line n ws) [] all no_test

this_test : (b : Bool) (n : ℕ) (ws : List (List ℕ)) → AreTexts ws → LinesAreTexts (if b then test_line n ws ∷ [] else [])
this_test true n ws all = one_test n ws all
this_test false n ws all = no_test

tested_in_texts : (n : ℕ) (ws : List (List ℕ)) → AreTexts ws → LinesAreTexts (tested_in n ws)
tested_in_texts n [] all = no_test
tested_in_texts n (name ∷ args) all = this_test (is_matcher name) n args (All-tail (λ x. IsUtf8 x) name args all)

tested_texts : (at : Within) (opens : Bool) (n : ℕ) (ws : List (List ℕ)) → AreTexts ws → LinesAreTexts (tested at opens n ws)
tested_texts File opens n ws all = no_test
tested_texts (Directives site) true n ws all = no_test
tested_texts (Directives site) false n ws all = tested_in_texts n ws all
tested_texts (Tests site matcher) opens n ws all = one_test matcher ws all
tested_texts (Unread site) opens n ws all = no_test

walk_texts : (at : Within) (ls : Lines) → TextLines ls → LinesAreTexts (walk tested at ls)
unfolding walk
walk_texts at end is = no_test
walk_texts at (line n ws after) is =
    All-append (λ (l : TestLine). AreTexts l.words) (tested at false n (words_in at ws)) (walk tested at after) (tested_texts at false n (words_in at ws) (words_in_texts at ws is.0)) (walk_texts at after is.1)
walk_texts at (block n ws is_closed within after) is =
    let here = inside at n (words_in at ws) in
    All-append (λ (l : TestLine). AreTexts l.words) (tested at true n (words_in at ws)) (walk tested here within ++ walk tested at after) (tested_texts at true n (words_in at ws) (words_in_texts at ws is.0))
    (All-append (λ (l : TestLine). AreTexts l.words) (walk tested here within) (walk tested at after) (walk_texts here within is.1.0) (walk_texts at after is.1.1))

pub matchers_texts : (bytes : List ℕ) (m : Matchers) → m ≡ matchers_in bytes → All (λ l. IsUtf8 l) (lines_of bytes) → LinesAreTexts m.tested
matchers_texts bytes m is all =
    subst (λ (x : Matchers). LinesAreTexts x.tested) (sym is) (walk_texts File (file_lines bytes) (outermost_texts (nested 1 (lines_of bytes)) (nested_texts 1 (lines_of bytes) all)))

-- ---- a file without a fault

some_first : (f : CaddyfileFault) (o : Option CaddyfileFault) → sooner (Some f) o ≡ None → false ≡ true
some_first f None e = cc
some_first f (Some g) e = sooner_some (is_sooner f g) e where
  sooner_some : (b : Bool) → (if b then Some f else Some g) ≡ None → false ≡ true
  sooner_some true e = cc
  sooner_some false e = cc

none_first : (fs : List CaddyfileFault) → first_fault fs ≡ None → fs ≡ []
none_first [] e = refl
none_first (f ∷ fs) e = absurd (true≢false (sym (some_first f (first_fault fs) e)))

none_before : {A : Type 0} (xs ys : List A) → xs ++ ys ≡ [] → xs ≡ []
none_before [] ys e = refl
none_before (x ∷ xs) ys e = cc

none_after : {A : Type 0} (xs ys : List A) → xs ++ ys ≡ [] → ys ≡ []
none_after [] ys e = e
none_after (x ∷ xs) ys e = cc

not_bad : (b : Bool) (n : ℕ) → fault_where b n BadText ≡ [] → b ≡ false
not_bad true n e = cc
not_bad false n e = refl

is_text : (u o : Bool) → (not u || o) ≡ false → u ≡ true
is_text true o e = refl
is_text false o e = absurd (true≢false e)

good_line : (n : ℕ) (bytes : List ℕ) → line_faults_of n bytes ≡ [] → IsUtf8 bytes
good_line n bytes e = IsUtf8-from_is_utf8 bytes (is_text (is_utf8 bytes) _ (not_bad (is_bad_text bytes) n (none_before (fault_where (is_bad_text bytes) n BadText) _ e)))

good_lines : (n : ℕ) (ls : List (List ℕ)) → line_faults n ls ≡ [] → All (λ l. IsUtf8 l) ls
unfolding line_faults
good_lines n [] e = All-nil (λ l. IsUtf8 l)
good_lines n (l ∷ ls) e =
    All-cons (λ x. IsUtf8 x) l ls (good_line n l (none_before (line_faults_of n l) (line_faults (suc n) ls) e)) (good_lines (suc n) ls (none_after (line_faults_of n l) (line_faults (suc n) ls) e))

no_fault : (long : Bool) (o : Option CaddyfileFault) → (refused_where long (fault_at 0 TooLong) ▷ λ _. unless_faulty o) ≡ Ok tt → o ≡ None
no_fault true o e = cc
no_fault false (Some f) e = cc
no_fault false None e = refl

pub file_texts : (bytes : List ℕ) → checked bytes ≡ Ok tt → All (λ l. IsUtf8 l) (lines_of bytes)
file_texts bytes e =
    good_lines 1 (lines_of bytes) (none_before (line_faults 1 (lines_of bytes)) _ (none_first (faults bytes) (no_fault (nat_lt MAX_TEXT_BYTES (length bytes)) (fault_of bytes) e)))

-- ---- the words of a directive

drop_texts : (ws : List (List ℕ)) → AreTexts ws → AreTexts (drop 1 ws)
drop_texts [] all = all
drop_texts (w ∷ ws) all = All-tail (λ x. IsUtf8 x) w ws all

after_texts : (c : Choice) (args : List (List ℕ)) → AreTexts args → AreTexts (args_after c args)
after_texts Unmatched args all = all
after_texts Everything args all = drop_texts args all
after_texts ByPath args all = drop_texts args all
after_texts ByName args all = drop_texts args all

pub own_texts : (name : Directive) (args own : List (List ℕ)) → own ≡ own_args name args → AreTexts args → AreTexts own
own_texts name args own is all = subst AreTexts (sym is) (after_texts (choice_of name args) args all)

pub other_texts : (words : List (List ℕ)) (word : List ℕ) (args : List (List ℕ)) → words ≡ word ∷ args → AreTexts words → AreTexts args
other_texts words word args is all = All-tail (λ x. IsUtf8 x) word args (subst AreTexts is all)

-- ---- the host of a site

small_byte : (b : ℕ) → is_host_byte b ≡ true → b < 128
small_byte b e = elim (cases_lt b 128) [ inl h ↦ h | inr h ↦ absurd (true≢false (sym e ∙ high b h)) ] where
  high : (b : ℕ) → 128 ≤ b → is_host_byte b ≡ false
  high b h = grind (arith, nat_tests)

small_folded : (b : ℕ) → b < 128 → to_ascii_lowercase b < 128
small_folded b small = grind (arith, nat_tests)

host_text : (bytes : List ℕ) → is_host bytes ≡ true → IsUtf8 (map to_ascii_lowercase bytes)
host_text bytes e =
    let all = (and_parts _ (list_all is_host_byte bytes) e).1 in
    IsUtf8-from_ascii (map to_ascii_lowercase bytes) (IsAscii-map to_ascii_lowercase bytes small_folded (IsAscii-from_all bytes (λ k d within. small_byte _ (AllPass-from_list_all is_host_byte bytes all k d within))))

abbrev Hosted : Option Address → Type 0
Hosted address = IfSome address HasTextHost

port_text : (host : Option (List ℕ)) (port : Option ℕ) → IfSome host (λ h. IsUtf8 h) → Hosted (at_port host port)
port_text host None is = tt
port_text host (Some port) is = is

if_hosted : (b : Bool) (a c : Option Address) → (b ≡ true → Hosted a) → Hosted c → Hosted (if b then a else c)
if_hosted true a c one other = one refl
if_hosted false a c one other = other

alone_text : (text : List ℕ) → Hosted (port_alone text)
alone_text [] = tt
alone_text (first ∷ rest) = if_hosted _ (at_port None (port_of rest)) None (λ _. port_text None (port_of rest) tt) tt

named_text : (text : List ℕ) (p : Option ℕ) (c : Option Address) → Hosted c → Hosted (if is_host text then at_port (Some (map to_ascii_lowercase text)) p else c)
named_text text p c other = if_hosted (is_host text) (at_port (Some (map to_ascii_lowercase text)) p) c (λ e. port_text (Some (map to_ascii_lowercase text)) p (host_text text e)) other

both_text : (text : List ℕ) → Hosted (host_and_port text)
both_text text = if_hosted (list_any is_colon text) (host_then_port (before_first is_colon text) (after_first is_colon text) text) (host_alone text)
    (λ _. named_text (before_first is_colon text) (port_of (after_first is_colon text)) (port_alone text) (alone_text text))
    (named_text text (Some 80) None tt)

pub address_text : (ws : List (List ℕ)) → Hosted (address_of ws)
address_text [] = tt
address_text (text ∷ []) = if_hosted _ (host_and_port (drop 7 text)) (port_alone text) (λ _. both_text (drop 7 text)) (alone_text text)
address_text (text ∷ (other ∷ others)) = tt

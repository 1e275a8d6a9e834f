-- What each line does to what has been read of a file.
use Rattle.std.proofs.Common.{◌≡◌, ℕ, suc, ◌+◌, ◌<◌, ◌≤◌, ◌==◌, Bool, true, false, cond, not, List, [], ◌∷◌, ◌++◌, length, map, reverse, refl, sym, ap, subst, ◌∙◌, append-nil, add-one, length-drop, arith, Option, Some, None}
use Rattle.std.specs.List.{slice_split, onto_first, position_or_len, before_first, after_first}
use Rattle.std.proofs.lemmas.List.Splits.{slice_split_first}
use Rattle.cd_caddyfile.specs.Blocks.{Nesting, last, end, preceded_by, nested, outermost, file_lines, left_open}
use Rattle.cd_caddyfile.specs.Faults as says
use Rattle.cd_caddyfile.specs.Faults.{sooner, first_fault, fault_of, fault_at, wrongs, sites_said, line_faults, line_faults_of, repeated_sites, repeated_matchers, unknown_matchers}
use Rattle.cd_caddyfile.specs.FileSites.{tested, matchers_in}
use Rattle.cd_caddyfile.specs.Going.{Goes, HasRead}
use Rattle.cd_caddyfile.specs.Left.{opening_lines, left, left_lines}
use Rattle.cd_caddyfile.specs.Lines.{without_return, lines_of, line_of}
use Rattle.cd_caddyfile.specs.Walk.{walk}
use Rattle.cd_caddyfile.specs.declared.fault.CaddyfileFault.{CaddyfileFault}
use Rattle.cd_caddyfile.specs.declared.fault.CaddyfileKind.TheVariants.{BadBlock}
use Rattle.cd_caddyfile.specs.declared.named.Matchers.{Matchers}
use Rattle.cd_caddyfile.specs.declared.reader.OpenBlock.{OpenBlock}
use Rattle.cd_caddyfile.specs.declared.reader.Reader.{Reader}
use Rattle.cd_caddyfile.specs.declared.within.Within.{Within}
use Rattle.cd_caddyfile.specs.declared.within.Within.TheVariants.{File}
use Rattle.cd_caddyfile.proofs.RepeatSteps.{block_faults}
use Rattle.cd_caddyfile.proofs.Sooner.{sooner-assoc, first_of_both}

-- ---- lines

whole_here : {A : Type 0} (b : Bool) (n m : ℕ) (x : A) (xs : List A) (parts : List (List A)) → cond (not b) (1 + n) 0 ≡ 1 + m → (n ≡ m → parts ≡ xs ∷ []) →
    cond b ([] ∷ parts) (onto_first x parts) ≡ (x ∷ xs) ∷ []
whole_here true n m x xs parts is known = absurd (omega arith)
whole_here false n m x xs parts is known = ap (onto_first x) (known (omega arith))

whole : {A : Type 0} (p : A → Bool) (xs : List A) → position_or_len p xs ≡ length xs → slice_split p xs ≡ xs ∷ []
whole p [] is = refl
whole p (x ∷ xs) is = whole_here (p x) (position_or_len p xs) (length xs) x xs (slice_split p xs) (omega arith) (whole p xs)

pub last_line : (bytes : List ℕ) → position_or_len (λ b. b == 10) bytes ≡ length bytes → lines_of bytes ≡ without_return bytes ∷ []
last_line bytes is = ap (λ parts. map without_return parts) (whole (λ b. b == 10) bytes is)

pub first_line : (bytes line after : List ℕ) → position_or_len (λ b. b == 10) bytes < length bytes →
    line ≡ before_first (λ b. b == 10) bytes → after ≡ after_first (λ b. b == 10) bytes → lines_of bytes ≡ without_return line ∷ lines_of after
first_line bytes line after less line-is after-is =
    ap (λ parts. map without_return parts) (slice_split_first (λ b. b == 10) bytes 0 less)
    ∙ (ap (λ l. without_return l ∷ lines_of (after_first (λ b. b == 10) bytes)) (sym line-is) ∙ ap (λ l. without_return line ∷ lines_of l) (sym after-is))

pub shorter : (bytes after : List ℕ) → position_or_len (λ b. b == 10) bytes < length bytes → after ≡ after_first (λ b. b == 10) bytes → length after + 1 ≤ length bytes
shorter bytes after less is = omega (arith, ap length is, length-drop (position_or_len (λ b. b == 10) bytes + 1) bytes)

pub text_on : (total old new : Option CaddyfileFault) (n : ℕ) (all more : List (List ℕ)) (line : List ℕ) → all ≡ line ∷ more →
    total ≡ sooner old (first_fault (line_faults n all)) → new ≡ sooner old (first_fault (line_faults_of n line)) →
    total ≡ sooner new (first_fault (line_faults (n + 1) more))
unfolding line_faults
text_on total old new n all more line all-is known new-is =
    known ∙ (ap (λ l. sooner old (first_fault (line_faults n l))) all-is
    ∙ (ap (λ f. sooner old f) (first_of_both (line_faults_of n line) (line_faults (suc n) more))
    ∙ sym (ap (λ f. sooner f (first_fault (line_faults (suc n) more))) new-is ∙ sooner-assoc old (first_fault (line_faults_of n line)) (first_fault (line_faults (suc n) more)))))
    ∙ ap (λ k. sooner new (first_fault (line_faults k more))) (sym (add-one n))

pub nested_line : (n : ℕ) (all more : List (List ℕ)) (line : List ℕ) → all ≡ line ∷ more → nested n all ≡ preceded_by n (line_of line) (nested (n + 1) more)
unfolding nested
nested_line n all more line all-is = ap (λ l. nested n l) all-is ∙ ap (λ k. preceded_by n (line_of line) (nested k more)) (sym (add-one n))

pub nested_end : (n : ℕ) → nested n [] ≡ last end
unfolding nested
nested_end n = refl

pub text_end : (total found : Option CaddyfileFault) (n : ℕ) → total ≡ sooner found (first_fault (line_faults n [])) → found ≡ total
unfolding line_faults
text_end total None n known = sym known
text_end total (Some f) n known = sym known

-- ---- the beginning

start : {A : Type 0} (said : Within → Bool → ℕ → List (List ℕ) → List A) (bs : List OpenBlock) (nesting : Nesting) → bs ≡ [] →
    left said (reverse bs) nesting ≡ walk said File (outermost nesting)
start said bs nesting is = ap (λ b. left said (reverse b) nesting) is

pub at_start : (bytes : List ℕ) (r : Reader) → r.notes.fault ≡ None → r.notes.sites ≡ [] → r.notes.defined ≡ [] → r.notes.used ≡ [] → r.notes.tested ≡ [] → r.blocks ≡ [] →
    HasRead bytes r (nested 1 (lines_of bytes))
at_start bytes r fault-is sites-is defined-is used-is tested-is open-is =
    let nesting = nested 1 (lines_of bytes) in record {
      fault = sym (ap (λ f. sooner f (first_fault (left wrongs (reverse r.blocks) nesting))) fault-is ∙ ap first_fault (start wrongs r.blocks nesting open-is));
      sites = sym (ap (λ l. l ++ left sites_said (reverse r.blocks) nesting) sites-is ∙ start sites_said r.blocks nesting open-is);
      defined = sym (ap (λ l. l ++ left says.defined (reverse r.blocks) nesting) defined-is ∙ start says.defined r.blocks nesting open-is);
      used = sym (ap (λ l. l ++ left says.used (reverse r.blocks) nesting) used-is ∙ start says.used r.blocks nesting open-is);
      tested = sym (ap (λ l. l ++ left tested (reverse r.blocks) nesting) tested-is ∙ start tested r.blocks nesting open-is);
      open_lines = sym (ap (λ b. left_lines (reverse b) nesting) open-is);
    }

-- ---- a line more

pub reads_on : (bytes : List ℕ) (r s : Reader) (now before after : Nesting) → now ≡ before → HasRead bytes r now → Goes r s before after → HasRead bytes s after
reads_on bytes r s now before after is read goes =
    let known : HasRead bytes r before = subst (λ (n : Nesting). HasRead bytes r n) is read in record {
      fault = known.fault ∙ goes.fault;
      sites = known.sites ∙ goes.sites;
      defined = known.defined ∙ goes.defined;
      used = known.used ∙ goes.used;
      tested = known.tested ∙ goes.tested;
      open_lines = known.open_lines ∙ goes.open_lines;
    }

-- ---- the end

nothing_left : {A : Type 0} (said : Within → Bool → ℕ → List (List ℕ) → List A) (bs : List OpenBlock) → left said bs (last end) ≡ []
unfolding walk outermost
nothing_left said [] = refl
nothing_left said (b ∷ bs) = refl

lines_left : (bs : List OpenBlock) → left_lines bs (last end) ≡ opening_lines bs
unfolding left_open outermost
lines_left [] = refl
lines_left (b ∷ bs) = refl

no_sooner : (f : Option CaddyfileFault) → sooner f None ≡ f
no_sooner None = refl
no_sooner (Some f) = refl

pub fault_noted : (bytes : List ℕ) (r : Reader) → HasRead bytes r (last end) → first_fault (walk wrongs File (file_lines bytes)) ≡ r.notes.fault
fault_noted bytes r read = read.fault ∙ (ap (λ l. sooner r.notes.fault (first_fault l)) (nothing_left wrongs (reverse r.blocks)) ∙ no_sooner r.notes.fault)

pub sites_noted : (bytes : List ℕ) (r : Reader) → HasRead bytes r (last end) → walk sites_said File (file_lines bytes) ≡ r.notes.sites
sites_noted bytes r read = read.sites ∙ (ap (λ l. r.notes.sites ++ l) (nothing_left sites_said (reverse r.blocks)) ∙ append-nil r.notes.sites)

pub defined_noted : (bytes : List ℕ) (r : Reader) → HasRead bytes r (last end) → walk says.defined File (file_lines bytes) ≡ r.notes.defined
defined_noted bytes r read = read.defined ∙ (ap (λ l. r.notes.defined ++ l) (nothing_left says.defined (reverse r.blocks)) ∙ append-nil r.notes.defined)

pub used_noted : (bytes : List ℕ) (r : Reader) → HasRead bytes r (last end) → walk says.used File (file_lines bytes) ≡ r.notes.used
used_noted bytes r read = read.used ∙ (ap (λ l. r.notes.used ++ l) (nothing_left says.used (reverse r.blocks)) ∙ append-nil r.notes.used)

pub tested_noted : (bytes : List ℕ) (r : Reader) → HasRead bytes r (last end) → walk tested File (file_lines bytes) ≡ r.notes.tested
tested_noted bytes r read = read.tested ∙ (ap (λ l. r.notes.tested ++ l) (nothing_left tested (reverse r.blocks)) ∙ append-nil r.notes.tested)

pub open_noted : (bytes : List ℕ) (r : Reader) → HasRead bytes r (last end) → left_open (file_lines bytes) ≡ opening_lines (reverse r.blocks)
open_noted bytes r read = read.open_lines ∙ lines_left (reverse r.blocks)

-- what was noted of matchers is what the file says
pub same_matchers : (bytes : List ℕ) (m : Matchers) (r : Reader) → HasRead bytes r (last end) → m.defined ≡ r.notes.defined → m.tested ≡ r.notes.tested → m ≡ matchers_in bytes
same_matchers bytes m r read defined-is tested-is = λ i. record {
  defined = (defined-is ∙ sym (defined_noted bytes r read)) i;
  tested = (tested-is ∙ sym (tested_noted bytes r read)) i;
}

-- the first of six lists
pub first_of_six : (a b c d e f : List CaddyfileFault) → first_fault (a ++ (b ++ (c ++ (d ++ (e ++ f)))))
    ≡ sooner (first_fault a) (sooner (first_fault b) (sooner (first_fault c) (sooner (first_fault d) (sooner (first_fault e) (first_fault f)))))
first_of_six a b c d e f =
    first_of_both a (b ++ (c ++ (d ++ (e ++ f)))) ∙ ap (λ x. sooner (first_fault a) x)
    (first_of_both b (c ++ (d ++ (e ++ f))) ∙ ap (λ x. sooner (first_fault b) x)
    (first_of_both c (d ++ (e ++ f)) ∙ ap (λ x. sooner (first_fault c) x)
    (first_of_both d (e ++ f) ∙ ap (λ x. sooner (first_fault d) x) (first_of_both e f))))

abbrev six : (a b c d e f : Option CaddyfileFault) → Option CaddyfileFault
six a b c d e f = sooner a (sooner b (sooner c (sooner d (sooner e f))))

same_six : (a b c d e f a' b' c' d' e' f' : Option CaddyfileFault) → a ≡ a' → b ≡ b' → c ≡ c' → d ≡ d' → e ≡ e' → f ≡ f' → six a b c d e f ≡ six a' b' c' d' e' f'
same_six a b c d e f a' b' c' d' e' f' p q r s t u =
    ap (λ x. six x b c d e f) p ∙ (ap (λ x. six a' x c d e f) q ∙ (ap (λ x. six a' b' x d e f) r
    ∙ (ap (λ x. six a' b' c' x e f) s ∙ (ap (λ x. six a' b' c' d' x f) t ∙ ap (λ x. six a' b' c' d' e' x) u))))

-- the first fault of a file, by what has been read of it
pub whole_fault : (bytes : List ℕ) (text found : Option CaddyfileFault) (r : Reader) → text ≡ first_fault (line_faults 1 (lines_of bytes)) → HasRead bytes r (last end) →
    found ≡ sooner text (sooner (first_fault (block_faults r.blocks)) (sooner r.notes.fault (sooner (first_fault (repeated_sites [] r.notes.sites))
    (sooner (first_fault (repeated_matchers [] r.notes.defined)) (first_fault (unknown_matchers r.notes.defined r.notes.used)))))) →
    found ≡ fault_of bytes
whole_fault bytes text found r text-is read found-is =
    let defined-is = sym (defined_noted bytes r read) in
    let used-is = sym (used_noted bytes r read) in
    found-is
    ∙ (same_six text (first_fault (block_faults r.blocks)) r.notes.fault (first_fault (repeated_sites [] r.notes.sites))
    (first_fault (repeated_matchers [] r.notes.defined)) (first_fault (unknown_matchers r.notes.defined r.notes.used)) _ _ _ _ _ _
    text-is
    (ap (λ l. first_fault (map (λ n. fault_at n BadBlock) l)) (sym (open_noted bytes r read)))
    (sym (fault_noted bytes r read))
    (ap (λ l. first_fault (repeated_sites [] l)) (sym (sites_noted bytes r read)))
    (ap (λ l. first_fault (repeated_matchers [] l)) defined-is)
    (ap (λ l. first_fault (unknown_matchers l r.notes.used)) defined-is ∙ ap (λ l. first_fault (unknown_matchers (walk says.defined File (file_lines bytes)) l)) used-is)
    ∙ sym (first_of_six (line_faults 1 (lines_of bytes)) (map (λ n. fault_at n BadBlock) (left_open (file_lines bytes))) (walk wrongs File (file_lines bytes))
    (repeated_sites [] (walk sites_said File (file_lines bytes))) (repeated_matchers [] (walk says.defined File (file_lines bytes)))
    (unknown_matchers (walk says.defined File (file_lines bytes)) (walk says.used File (file_lines bytes)))))

-- Each relation where it holds, and a near miss.
use Rattle.std.proofs.Common.{◌≡◌, true, false, ℕ, suc, ◌+◌, ◌≤◌, ◌<◌, ◌∙◌, List, [], ◌∷◌, ◌++◌, length, get_or, Option, Some, None, inl, inr, refl, sym, ap, arith}
use Rattle.std.proofs.lemmas.Bool.{false≢true}
use Rattle.std.proofs.lemmas.List.Elements.{All-nil, All-cons, All-head}
use Rattle.cd_caddyfile.specs.Blocks.{Nesting, last, end}
use Rattle.cd_caddyfile.specs.FileSites.{block_of}
use Rattle.cd_caddyfile.specs.Shape.{groups_inside, rewrites, handles, set_of}
use Rattle.cd_caddyfile.specs.Sites.{Tests, Block, done, no_tests}
use Rattle.cd_caddyfile.specs.declared.address.Address.{Address}
use Rattle.cd_caddyfile.specs.declared.line.Line.{Line}
use Rattle.cd_caddyfile.specs.declared.line.Line.TheVariants.{Closes, Says}
use Rattle.cd_parts.specs.Measures.{measured}
use Rattle.cd_parts.specs.declared.matchers.SetTable.{SetTable}
use Rattle.cd_parts.specs.declared.measured.Measured.{Measured}
use Rattle.cd_parts.proofs.Examples.{half, letter, not_text, not_texts, texts}
use Rattle.cd_adapt.specs.Counting.{IsCounted, needs_of, no_needs}
use Rattle.cd_adapt.specs.Laying.{AreLaid, IsLaid, IsTaken}
use Rattle.cd_adapt.specs.Ports.{AreMet}
use Rattle.cd_adapt.specs.Serving.{AgreesAll}
use Rattle.cd_adapt.specs.Splitting.{AreReadLines, AreTextsOf, HasTextHost, IsOpen, IsReadLine, IsSplit, IsTextLine, IsWhole, numbered}
use Rattle.cd_adapt.specs.Steps.{frame_of}
use Rattle.cd_adapt.specs.declared.counting.Counter.{Counter}
use Rattle.cd_adapt.specs.declared.splitting.Numbered.{Numbered}
use Rattle.cd_adapt.specs.declared.splitting.OpenSite.{OpenSite}
use Rattle.cd_adapt.specs.declared.splitting.SiteLines.{SiteLines}
use Rattle.cd_adapt.specs.declared.splitting.Splitter.{Splitter}
use Rattle.cd_adapt.specs.declared.steps.Frame.{Frame}

-- ---- groups, before any line is read

module _ (tests_of : List ℕ → Tests) (counter : Counter) where
  counted : counter.open ≡ [] → counter.here ≡ needs_of done → IsCounted tests_of (last end) counter
  unfolding block_of
  counted none here = record { around = none; here = here }

  -- a block is open
  not_counted : counter.open ≡ no_needs ∷ [] → IsCounted tests_of (last end) counter → ⊥
  not_counted one c = let h : no_needs ∷ [] ≡ [] = sym one ∙ c.around in cc

-- ---- steps

none_inside : groups_inside done ≡ 0
unfolding groups_inside
none_inside = refl

laid : IsLaid done 5 (frame_of done 5) 5
unfolding groups_inside
laid = record { stops = refl; steps = λ few. refl; groups = λ few. refl }

-- a group would be skipped
not_laid : (f : Frame) → IsLaid done 5 f 4 → ⊥
not_laid f l =
    let h : ◌≡◌ {A = ℕ} (4 + groups_inside done) 5 = l.groups (omega (arith, none_inside)) in omega (arith, h, none_inside)

module _ (tests_of : List ℕ → Tests) where
  all_laid : AreLaid tests_of 5 (last end) [] (frame_of done 5) 5
  unfolding block_of
  all_laid = (refl, laid)

  -- no block is around it
  not_all_laid : (f : Frame) → AreLaid tests_of 5 (last end) (f ∷ []) (frame_of done 5) 5 → ⊥
  not_all_laid f are = let h : f ∷ [] ≡ [] = are.0 in cc

taken : IsTaken {A = ℕ} 0 (1 ∷ 2 ∷ []) (1 ∷ []) 2
taken = inl refl

taken_of_none : IsTaken {A = ℕ} 0 [] [] 0
taken_of_none = inr (refl, (refl, refl))

-- the first one
not_taken : IsTaken {A = ℕ} 0 (1 ∷ 2 ∷ []) (2 ∷ []) 1 → ⊥
not_taken (inl is) = let h : ◌≡◌ {A = ℕ} 1 2 = ap (λ (l : List ℕ). get_or l 0 0) is in omega (arith, h)
not_taken (inr none) = let h : ◌≡◌ {A = List ℕ} (1 ∷ 2 ∷ []) [] = none.0 in cc

-- ---- sets

abbrev no_sets : SetTable
no_sets = record { sets = []; none = measured (set_of no_tests) }

agrees : AgreesAll no_sets (λ site name. no_tests)
agrees site name = refl

-- where a name has none, the set nests one level more
not_agrees : AgreesAll (record no_sets { none = record no_sets.none { depth = suc no_sets.none.depth } }) (λ site name. no_tests) → ⊥
not_agrees are = let h : suc no_sets.none.depth ≡ no_sets.none.depth = ap (λ (m : Measured). m.depth) (are 1 []) in omega (arith, h)

-- ---- lines

abbrev said : List (List ℕ) → Numbered
said words = numbered 2 (Says words)

text_line : IsTextLine (Says (letter ∷ []))
text_line = texts

not_text_line : IsTextLine (Says (half ∷ [])) → ⊥
not_text_line is = not_texts is

read_line : IsReadLine (said (letter ∷ []))
read_line = record { texts = texts; words = refl }

-- its word is not kept
not_read_line : IsReadLine (record (said (letter ∷ [])) { words = [] }) → ⊥
not_read_line is = let h : ◌≡◌ {A = ℕ} 0 1 = ap length is.words in omega (arith, h)

text_lines : AreReadLines (said (letter ∷ []) ∷ [])
text_lines = All-cons IsReadLine (said (letter ∷ [])) [] read_line (All-nil IsReadLine)

not_text_lines : AreReadLines (said (half ∷ []) ∷ []) → ⊥
not_text_lines are = not_texts (All-head IsReadLine (said (half ∷ [])) [] are).texts

abbrev at_80 : Option (List ℕ) → Address
at_80 host = record { port = 80; host = host }

-- no host is given
text_host : HasTextHost (at_80 None)
text_host = tt

not_text_host : HasTextHost (at_80 (Some half)) → ⊥
not_text_host is = not_text is

-- ---- ports

are_met : AreMet [] (record { keys = [] })
are_met port = refl

-- a port is not in the set
not_are_met : AreMet (80 ∷ []) (record { keys = [] }) → ⊥
not_are_met are = false≢true (are 80)

-- ---- sites

abbrev site_with : List Numbered → SiteLines
site_with lines = record { line = 1; address = at_80 None; lines = lines }

whole : IsWhole (site_with (said (letter ∷ []) ∷ []))
whole = record { closed = refl; host = tt; lines = text_lines }

-- a line closes a block that none opens
not_whole : IsWhole (site_with (numbered 2 Closes ∷ [])) → ⊥
not_whole w = let h : ◌≡◌ {A = ℕ} 1 0 = w.closed in omega (arith, h)

abbrev open_with : ℕ → List Numbered → OpenSite
open_with levels lines = record { line = 1; address = None; lines = lines; levels = levels }

open_texts : AreTextsOf (open_with 0 (said (letter ∷ []) ∷ []))
open_texts = (tt, text_lines)

not_open_texts : AreTextsOf (open_with 0 (said (half ∷ []) ∷ [])) → ⊥
not_open_texts are = not_text_lines are.1

no_lines : AreReadLines []
no_lines = All-nil IsReadLine

opened : IsOpen (Some (open_with 0 []))
opened = ((omega arith, λ after. omega arith), (tt, no_lines))

-- no line has opened a block
not_opened : IsOpen (Some (open_with 1 [])) → ⊥
not_opened is = let h : 1 ≤ 0 = is.0.0 in omega (arith, h)

abbrev splitter : List SiteLines → Splitter
splitter sites = record { sites = sites; current = None }

split : IsSplit 1 (splitter [])
split = record { whole = All-nil IsWhole; open_site = omega arith; few = omega arith }

-- before line 1 there was none that opens a site
not_split : IsSplit 1 (splitter (site_with [] ∷ [])) → ⊥
not_split s = let h : 1 < 1 = s.few in omega (arith, h)

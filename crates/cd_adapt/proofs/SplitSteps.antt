-- What each line does to what is still to come of sites.
use Rattle.std.proofs.Common.{◌≡◌, ℕ, zero, suc, ◌+◌, ◌-◌, ◌≤◌, ◌==◌, true, false, ◌&&◌, List, [], ◌∷◌, ◌++◌, length, map, refl, sym, ap, subst, ◌∙◌, append_assoc, append-nil, arith, length-append, get_or, drop, drop-cons, add-one, ◌<◌, Option, Some, None}
use Rattle.std.specs.List.{All}
use Rattle.std.specs.Prelude.{IfSome}
use Rattle.std.proofs.lemmas.List.{drop_all}
use Rattle.std.proofs.lemmas.List.Elements.{All-nil, All-cons, All-append}
use Rattle.std.proofs.lemmas.List.Sums.{sum_by-append}
use Rattle.std.proofs.lemmas.Bool.{false≢true, and_parts, eqb-true}
use Rattle.cd_caddyfile.specs.Blocks.{Nesting, last, up_to, end, preceded_by, opened, in_front, outermost, followed_by}
use Rattle.cd_caddyfile.specs.FileSites.{block_of, put_site, sites_in}
use Rattle.cd_caddyfile.specs.Addresses.{address_of}
use Rattle.cd_caddyfile.specs.Sites.{Tests, Block, Site}
use Rattle.cd_caddyfile.specs.declared.address.Address.{Address}
use Rattle.cd_caddyfile.specs.declared.line.Line.{Line}
use Rattle.cd_caddyfile.specs.declared.line.Line.TheVariants.{Empty, Closes, Opens, Says, Misplaced}
use Rattle.cd_adapt.specs.Splitting.{followed, innermost_lines, within, beyond, site_made, sites_left, closes, levels_after, closings, numbered, IsTextLine, IsReadLine, AreReadLines, HasTextHost, AreTextsOf, IsWhole, IsOpen, size_of, open_size, IsSplit}
use Rattle.cd_adapt.specs.declared.splitting.Numbered.{Numbered}
use Rattle.cd_adapt.specs.declared.splitting.OpenSite.{OpenSite}
use Rattle.cd_adapt.specs.declared.splitting.SiteLines.{SiteLines}
use Rattle.cd_adapt.specs.declared.splitting.Splitter.{Splitter}

followed-last : (ls : List Numbered) (n : ℕ) (l : Line) (nesting : Nesting) → followed (ls ++ numbered n l ∷ []) nesting ≡ followed ls (preceded_by n l nesting)
followed-last [] n l nesting = refl
followed-last (first ∷ ls) n l nesting = ap (λ N. preceded_by first.number first.line N) (followed-last ls n l nesting)

-- ---- inside of a site

within-says : (d n : ℕ) (ws : List (List ℕ)) (N : Nesting) → within d (in_front n ws N) ≡ in_front n ws (within d N)
within-says d n ws (last ls) = refl
within-says zero n ws (up_to ls m more) = refl
within-says (suc d) n ws (up_to ls m more) = refl

beyond-says : (d n : ℕ) (ws : List (List ℕ)) (N : Nesting) → beyond d (in_front n ws N) ≡ beyond d N
beyond-says d n ws (last ls) = refl
beyond-says zero n ws (up_to ls m more) = refl
beyond-says (suc d) n ws (up_to ls m more) = refl

within-opens : (d n : ℕ) (ws : List (List ℕ)) (N : Nesting) → within d (opened n ws N) ≡ opened n ws (within (suc d) N)
within-opens d n ws (last ls) = refl
within-opens d n ws (up_to ls m (last more)) = refl
within-opens zero n ws (up_to ls m (up_to more k others)) = refl
within-opens (suc d) n ws (up_to ls m (up_to more k others)) = refl

beyond-opens : (d n : ℕ) (ws : List (List ℕ)) (N : Nesting) → beyond d (opened n ws N) ≡ beyond (suc d) N
beyond-opens d n ws (last ls) = refl
beyond-opens d n ws (up_to ls m (last more)) = refl
beyond-opens zero n ws (up_to ls m (up_to more k others)) = refl
beyond-opens (suc d) n ws (up_to ls m (up_to more k others)) = refl

within-on : (d n : ℕ) (l : Line) (N : Nesting) → ((d == 0) && closes l) ≡ false → within d (preceded_by n l N) ≡ preceded_by n l (within (levels_after l d) N)
within-on d n Empty N stays = refl
within-on zero n Closes N stays = absurd (false≢true (sym stays))
within-on (suc d) n Closes N stays =
    let same : d ≡ suc d - 1 = omega arith in
    ap (λ k. up_to end n (within k N)) same
within-on d n (Opens ws) N stays = within-opens d n ws N
within-on d n (Says ws) N stays = within-says d n ws N
within-on d n Misplaced N stays = refl

beyond-on : (d n : ℕ) (l : Line) (N : Nesting) → ((d == 0) && closes l) ≡ false → beyond d (preceded_by n l N) ≡ beyond (levels_after l d) N
beyond-on d n Empty N stays = refl
beyond-on zero n Closes N stays = absurd (false≢true (sym stays))
beyond-on (suc d) n Closes N stays =
    let same : d ≡ suc d - 1 = omega arith in
    ap (λ k. beyond k N) same
beyond-on d n (Opens ws) N stays = beyond-opens d n ws N
beyond-on d n (Says ws) N stays = beyond-says d n ws N
beyond-on d n Misplaced N stays = refl

pub stays_inside : (tests_of : ℕ → List ℕ → Tests) (o : OpenSite) (n : ℕ) (l : Line) (after : Nesting) → ((o.levels == 0) && closes l) ≡ false →
    sites_left tests_of (Some o) (preceded_by n l after) ≡ sites_left tests_of (Some (record o { lines = o.lines ++ numbered n l ∷ []; levels = levels_after l o.levels })) after
stays_inside tests_of o n l after stays =
    ap (λ N. put_site o.address (block_of (tests_of o.line) (innermost_lines (followed o.lines N))) (sites_in tests_of (outermost (beyond o.levels (preceded_by n l after))))) (within-on o.levels n l after stays)
    ∙ (ap (λ N. put_site o.address (block_of (tests_of o.line) (innermost_lines N)) (sites_in tests_of (outermost (beyond o.levels (preceded_by n l after))))) (sym (followed-last o.lines n l (within (levels_after l o.levels) after)))
    ∙ ap (λ N. put_site o.address (block_of (tests_of o.line) (innermost_lines (followed (o.lines ++ numbered n l ∷ []) (within (levels_after l o.levels) after)))) (sites_in tests_of (outermost N))) (beyond-on o.levels n l after stays))

-- the line that closes a site
closed-here : (tests_of : ℕ → List ℕ → Tests) (o : OpenSite) (n d : ℕ) (l : Line) (after : Nesting) → o.levels ≡ d → ((d == 0) && closes l) ≡ true →
    sites_left tests_of (Some o) (preceded_by n l after) ≡ put_site o.address (block_of (tests_of o.line) (innermost_lines (followed o.lines (last end)))) (sites_in tests_of (outermost after))
closed-here tests_of o n zero Empty after is closing = absurd (false≢true closing)
closed-here tests_of o n zero Closes after is closing =
    ap (λ d. put_site o.address (block_of (tests_of o.line) (innermost_lines (followed o.lines (within d (up_to end n after))))) (sites_in tests_of (outermost (beyond d (up_to end n after))))) is
closed-here tests_of o n zero (Opens ws) after is closing = absurd (false≢true closing)
closed-here tests_of o n zero (Says ws) after is closing = absurd (false≢true closing)
closed-here tests_of o n zero Misplaced after is closing = absurd (false≢true closing)
closed-here tests_of o n (suc d) l after is closing = absurd (omega (arith, eqb-true (suc d) 0 (and_parts (suc d == 0) (closes l) closing).0))

put_before : (address : Option Address) (b : Block) (ss : List Site) → put_site address b ss ≡ put_site address b [] ++ ss
put_before None b ss = refl
put_before (Some a) b ss = refl

pub closes_site : (tests_of : ℕ → List ℕ → Tests) (o : OpenSite) (n : ℕ) (l : Line) (after : Nesting) → ((o.levels == 0) && closes l) ≡ true →
    sites_left tests_of (Some o) (preceded_by n l after) ≡ sites_left tests_of (Some o) (last end) ++ sites_in tests_of (outermost after)
unfolding sites_in outermost
closes_site tests_of o n l after closing =
    closed-here tests_of o n o.levels l after refl closing
    ∙ put_before o.address (block_of (tests_of o.line) (innermost_lines (followed o.lines (last end)))) (sites_in tests_of (outermost after))

-- what is closed at the end or by a line
pub site_done : (tests_of : ℕ → List ℕ → Tests) (o : OpenSite) → sites_left tests_of (Some o) (last end)
    ≡ put_site o.address (block_of (tests_of o.line) (innermost_lines (followed o.lines (last end)))) []
unfolding sites_in outermost
site_done tests_of o = refl

-- ---- outside of all sites

pub opens_site : (tests_of : ℕ → List ℕ → Tests) (n : ℕ) (ws : List (List ℕ)) (address : Option Address) (after : Nesting) → address ≡ address_of ws →
    sites_left tests_of None (opened n ws after) ≡ sites_left tests_of (Some (record { line = n; address = address; lines = []; levels = 0 })) after
unfolding sites_in outermost followed_by
opens_site tests_of n ws address (last ls) is = ap (λ a. put_site a (block_of (tests_of n) ls) []) (sym is)
opens_site tests_of n ws address (up_to ls m (last more)) is = ap (λ a. put_site a (block_of (tests_of n) ls) (sites_in tests_of more)) (sym is)
opens_site tests_of n ws address (up_to ls m (up_to more k others)) is =
    ap (λ a. put_site a (block_of (tests_of n) ls) (sites_in tests_of (outermost (up_to more k others)))) (sym is)

pub says_outside : (tests_of : ℕ → List ℕ → Tests) (n : ℕ) (ws : List (List ℕ)) (after : Nesting) → sites_left tests_of None (in_front n ws after) ≡ sites_left tests_of None after
unfolding sites_in outermost followed_by
says_outside tests_of n ws (last ls) = refl
says_outside tests_of n ws (up_to ls m more) = refl

pub closes_outside : (tests_of : ℕ → List ℕ → Tests) (n : ℕ) (after : Nesting) → sites_left tests_of None (up_to end n after) ≡ sites_left tests_of None after
unfolding sites_in outermost followed_by
closes_outside tests_of n after = refl

-- ---- what is true of all that have been read

closings-opens : (n : ℕ) (ws : List (List ℕ)) (N : Nesting) → closings (opened n ws N) ≡ closings N - 1
closings-opens n ws (last ls) = refl
closings-opens n ws (up_to ls m (last more)) = refl
closings-opens n ws (up_to ls m (up_to more k others)) = omega arith

closings-says : (n : ℕ) (ws : List (List ℕ)) (N : Nesting) → closings (in_front n ws N) ≡ closings N
closings-says n ws (last ls) = refl
closings-says n ws (up_to ls m more) = refl

closings-on : (d n : ℕ) (l : Line) (N : Nesting) → ((d == 0) && closes l) ≡ false → closings (preceded_by n l N) - d ≡ closings N - levels_after l d
closings-on d n Empty N stays = refl
closings-on zero n Closes N stays = absurd (false≢true (sym stays))
closings-on (suc d) n Closes N stays = omega arith
closings-on d n (Opens ws) N stays = omega (arith, closings-opens n ws N)
closings-on d n (Says ws) N stays = ap (λ k. k - d) (closings-says n ws N)
closings-on d n Misplaced N stays = refl

few-levels : (l : Line) (d : ℕ) → levels_after l d ≤ suc d
few-levels Empty d = omega arith
few-levels Closes d = omega arith
few-levels (Opens ws) d = omega arith
few-levels (Says ws) d = omega arith
few-levels Misplaced d = omega arith

pub open_on : (o : OpenSite) (n : ℕ) (l : Line) → ((o.levels == 0) && closes l) ≡ false → IsTextLine l → IsOpen (Some o) →
    IsOpen (Some (record o { lines = o.lines ++ numbered n l ∷ []; levels = levels_after l o.levels }))
open_on o n l stays text is = (
  (
    omega (arith, is.0.0, few-levels l o.levels, length-append o.lines (numbered n l ∷ [])),
    λ after. ap closings (followed-last o.lines n l after) ∙ (is.0.1 (preceded_by n l after) ∙ closings-on o.levels n l after stays),
  ),
  (is.1.0, All-append IsReadLine o.lines (numbered n l ∷ []) is.1.1 (All-cons IsReadLine (numbered n l) [] (record { texts = text; words = refl }) (All-nil IsReadLine))),
)

-- a site begins
pub open_here : (o : OpenSite) → o.lines ≡ [] → o.levels ≡ 0 → IfSome o.address HasTextHost → IsOpen (Some o)
open_here o none zero-is host = (
  (omega (arith, zero-is), λ after. ap (λ ls. closings (followed ls after)) none ∙ omega (arith, zero-is)),
  (host, subst AreReadLines (sym none) (All-nil IsReadLine)),
)

pub closed_now : (o : OpenSite) → IsOpen (Some o) → closings (followed o.lines (last end)) ≡ 0
closed_now o is = is.0.1 (last end) ∙ omega arith

-- ---- the splitter, line by line

pub starts_split : (s : Splitter) → s.sites ≡ [] → s.current ≡ None → IsSplit 1 s
starts_split s none nothing = record {
  whole = subst (λ (l : List SiteLines). All IsWhole l) (sym none) (All-nil IsWhole);
  open_site = subst (λ (o : Option OpenSite). IsOpen o) (sym nothing) (omega arith);
  few = omega (arith, ap size_of none, ap open_size nothing);
}

pub starts_sites : (tests_of : ℕ → List ℕ → Tests) (s : Splitter) (N : Nesting) → s.sites ≡ [] → s.current ≡ None →
    sites_in tests_of (outermost N) ≡ map (site_made tests_of) s.sites ++ sites_left tests_of s.current N
starts_sites tests_of s N none nothing = sym (ap (λ (l : List SiteLines). map (site_made tests_of) l ++ sites_left tests_of s.current N) none ∙ ap (λ (o : Option OpenSite). sites_left tests_of o N) nothing)

-- a line outside of all sites
pub outside_split : (n : ℕ) (s s' : Splitter) (made : Option OpenSite) → s.current ≡ None → s'.sites ≡ s.sites → s'.current ≡ made → IsOpen made → open_size made ≤ 1 →
    IsSplit n s → IsSplit (n + 1) s'
outside_split n s s' made nothing same is open_made few split = record {
  whole = subst (λ (l : List SiteLines). All IsWhole l) (sym same) split.whole;
  open_site = subst (λ (o : Option OpenSite). IsOpen o) (sym is) open_made;
  few = omega (arith, split.few, few, ap size_of same, ap open_size is, ap open_size nothing);
}

pub outside_sites : (tests_of : ℕ → List ℕ → Tests) (s s' : Splitter) (made : Option OpenSite) (N after : Nesting) → s.current ≡ None → s'.sites ≡ s.sites → s'.current ≡ made →
    sites_left tests_of None N ≡ sites_left tests_of made after →
    map (site_made tests_of) s.sites ++ sites_left tests_of s.current N ≡ map (site_made tests_of) s'.sites ++ sites_left tests_of s'.current after
outside_sites tests_of s s' made N after nothing same is known =
    ap (λ (o : Option OpenSite). map (site_made tests_of) s.sites ++ sites_left tests_of o N) nothing
    ∙ (ap (λ l. map (site_made tests_of) s.sites ++ l) (known ∙ ap (λ (o : Option OpenSite). sites_left tests_of o after) (sym is))
    ∙ ap (λ (l : List SiteLines). map (site_made tests_of) l ++ sites_left tests_of s'.current after) (sym same))

-- a line inside of a site that goes on
pub inside_split : (n : ℕ) (s s' : Splitter) (o : OpenSite) (l : Line) → ((o.levels == 0) && closes l) ≡ false → s'.sites ≡ s.sites →
    s'.current ≡ Some (record o { lines = o.lines ++ numbered n l ∷ []; levels = levels_after l o.levels }) → IsTextLine l →
    IsSplit n (record s { current = Some o }) → IsSplit (n + 1) s'
inside_split n s s' o l stays same is text split = record {
  whole = subst (λ (x : List SiteLines). All IsWhole x) (sym same) split.whole;
  open_site = subst (λ (x : Option OpenSite). IsOpen x) (sym is) (open_on o n l stays text split.open_site);
  few = omega (arith, split.few, ap size_of same, ap open_size is, length-append o.lines (numbered n l ∷ []));
}

pub inside_sites : (tests_of : ℕ → List ℕ → Tests) (n : ℕ) (s s' : Splitter) (o : OpenSite) (l : Line) (after : Nesting) → ((o.levels == 0) && closes l) ≡ false → s'.sites ≡ s.sites →
    s'.current ≡ Some (record o { lines = o.lines ++ numbered n l ∷ []; levels = levels_after l o.levels }) →
    map (site_made tests_of) s.sites ++ sites_left tests_of (Some o) (preceded_by n l after) ≡ map (site_made tests_of) s'.sites ++ sites_left tests_of s'.current after
inside_sites tests_of n s s' o l after stays same is =
    ap (λ x. map (site_made tests_of) s.sites ++ x) (stays_inside tests_of o n l after stays ∙ ap (λ (x : Option OpenSite). sites_left tests_of x after) (sym is))
    ∙ ap (λ (x : List SiteLines). map (site_made tests_of) x ++ sites_left tests_of s'.current after) (sym same)

-- the last line of a site
pub closed_split : (n : ℕ) (s s' : Splitter) (o : OpenSite) → All IsWhole s'.sites → s'.current ≡ None → size_of s'.sites ≤ size_of s.sites + 1 + length o.lines →
    IsSplit n (record s { current = Some o }) → IsSplit (n + 1) s'
closed_split n s s' o whole nothing few split = record {
  whole = whole;
  open_site = subst (λ (x : Option OpenSite). IsOpen x) (sym nothing) (omega arith);
  few = omega (arith, split.few, few, ap open_size nothing);
}

pub closed_sites : (tests_of : ℕ → List ℕ → Tests) (n : ℕ) (s s' : Splitter) (o : OpenSite) (l : Line) (after : Nesting) → ((o.levels == 0) && closes l) ≡ true → s'.current ≡ None →
    map (site_made tests_of) s.sites ++ sites_left tests_of (Some o) (last end) ≡ map (site_made tests_of) s'.sites →
    map (site_made tests_of) s.sites ++ sites_left tests_of (Some o) (preceded_by n l after) ≡ map (site_made tests_of) s'.sites ++ sites_left tests_of s'.current after
closed_sites tests_of n s s' o l after closing nothing known =
    ap (λ x. map (site_made tests_of) s.sites ++ x) (closes_site tests_of o n l after closing)
    ∙ (sym (append_assoc (map (site_made tests_of) s.sites) (sites_left tests_of (Some o) (last end)) (sites_left tests_of None after))
    ∙ (ap (λ x. x ++ sites_left tests_of None after) known
    ∙ ap (λ (x : Option OpenSite). map (site_made tests_of) s'.sites ++ sites_left tests_of x after) (sym nothing)))

-- ---- a site is added

site-last : (tests_of : ℕ → List ℕ → Tests) (sites : List SiteLines) (site : SiteLines) → map (site_made tests_of) (sites ++ site ∷ []) ≡ map (site_made tests_of) sites ++ site_made tests_of site ∷ []
site-last tests_of [] site = refl
site-last tests_of (s ∷ ss) site = ap (λ l. site_made tests_of s ∷ l) (site-last tests_of ss site)

pub added_site : (tests_of : ℕ → List ℕ → Tests) (sites sites' : List SiteLines) (site : SiteLines) (o : OpenSite) → sites' ≡ sites ++ site ∷ [] →
    o.address ≡ Some site.address → o.line ≡ site.line → o.lines ≡ site.lines →
    map (site_made tests_of) sites ++ sites_left tests_of (Some o) (last end) ≡ map (site_made tests_of) sites'
added_site tests_of sites sites' site o is address-is line-is lines-is =
    ap (λ l. map (site_made tests_of) sites ++ l) (site_done tests_of o
    ∙ (ap (λ a. put_site a (block_of (tests_of o.line) (innermost_lines (followed o.lines (last end)))) []) address-is
    ∙ (ap (λ n. put_site (Some site.address) (block_of (tests_of n) (innermost_lines (followed o.lines (last end)))) []) line-is
    ∙ ap (λ ls. put_site (Some site.address) (block_of (tests_of site.line) (innermost_lines (followed ls (last end)))) []) lines-is)))
    ∙ (sym (site-last tests_of sites site) ∙ ap (map (site_made tests_of)) (sym is))

pub no_site : (tests_of : ℕ → List ℕ → Tests) (sites : List SiteLines) (o : OpenSite) → o.address ≡ None →
    map (site_made tests_of) sites ++ sites_left tests_of (Some o) (last end) ≡ map (site_made tests_of) sites
no_site tests_of sites o address-is =
    ap (λ l. map (site_made tests_of) sites ++ l) (site_done tests_of o ∙ ap (λ a. put_site a (block_of (tests_of o.line) (innermost_lines (followed o.lines (last end)))) []) address-is)
    ∙ append-nil (map (site_made tests_of) sites)

pub added_whole : (sites sites' : List SiteLines) (site : SiteLines) (o : OpenSite) → sites' ≡ sites ++ site ∷ [] → o.address ≡ Some site.address → o.lines ≡ site.lines →
    closings (followed o.lines (last end)) ≡ 0 → AreTextsOf o → All IsWhole sites → All IsWhole sites'
added_whole sites sites' site o is address-is lines-is closed are whole =
    let here : IsWhole site = record {
      closed = ap (λ ls. closings (followed ls (last end))) (sym lines-is) ∙ closed;
      host = subst (λ (a : Option Address). IfSome a HasTextHost) address-is are.0;
      lines = subst AreReadLines lines-is are.1;
    } in
    subst (λ (l : List SiteLines). All IsWhole l) (sym is) (All-append IsWhole sites (site ∷ []) whole (All-cons IsWhole site [] here (All-nil IsWhole)))

pub added_size : (sites sites' : List SiteLines) (site : SiteLines) → sites' ≡ sites ++ site ∷ [] → size_of sites' ≡ size_of sites + suc (length site.lines)
added_size sites sites' site is = omega (arith, ap size_of is, sum_by-append (λ (s : SiteLines). suc (length s.lines)) sites (site ∷ []))

-- ---- the end

pub ended_none : (tests_of : ℕ → List ℕ → Tests) (sites : List SiteLines) (current : Option OpenSite) → current ≡ None →
    map (site_made tests_of) sites ++ sites_left tests_of current (last end) ≡ map (site_made tests_of) sites
unfolding sites_in outermost
ended_none tests_of sites current is = ap (λ (o : Option OpenSite). map (site_made tests_of) sites ++ sites_left tests_of o (last end)) is ∙ append-nil (map (site_made tests_of) sites)

-- ---- lines from the last to the first

pub followed_none : (all : List Numbered) (N : Nesting) → followed (drop (length all) all) N ≡ N
followed_none all N = ap (λ ls. followed ls N) (drop_all (length all) all (omega arith))

pub followed_all : (i : ℕ) (all : List Numbered) (N : Nesting) → i ≤ 0 → followed (drop i all) N ≡ followed all N
followed_all i all N few =
    let none : i ≡ 0 = omega (arith, few) in
    ap (λ k. followed (drop k all) N) none

pub followed_before : (i j : ℕ) (all : List Numbered) (x : Numbered) (N : Nesting) → i < length all → j ≡ i + 1 → x ≡ get_or all i x →
    followed (drop i all) N ≡ preceded_by x.number x.line (followed (drop j all) N)
followed_before i j all x N within next is =
    ap (λ ls. followed ls N) (drop-cons all i x within)
    ∙ (ap (λ (y : Numbered). preceded_by y.number y.line (followed (drop (suc i) all) N)) (sym is)
    ∙ ap (λ k. preceded_by x.number x.line (followed (drop k all) N)) (sym (next ∙ add-one i)))

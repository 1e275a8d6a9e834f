-- Part of the main theorem.
-- The faults of a Caddyfile, and the first of them: that of the first line, and of one line that of the kind that comes first.
use Rattle.std.specs.Prelude.{ℕ, suc, ◌==◌, ◌&&◌, ◌||◌, not, nat_lt, nat_le, Bool, true, false, if◌then◌else◌, List, [], ◌∷◌, ◌++◌, length, map, Option, Some, None, is_some}
use Rattle.std.specs.List.{list_any}
use Rattle.std.specs.Str.{bytes_eq}
use Rattle.cd_caddyfile.specs.Addresses.{address_of}
use Rattle.cd_caddyfile.specs.Blocks.{file_lines, left_open}
use Rattle.cd_caddyfile.specs.Directives.{directive_named, is_matcher, choice_of, own_args, action_of}
use Rattle.cd_caddyfile.specs.Lines.{lines_of, line_of, is_bad_text}
use Rattle.cd_caddyfile.specs.Matchers.{with_line}
use Rattle.cd_caddyfile.specs.Sites.{no_tests}
use Rattle.cd_caddyfile.specs.Walk.{walk}
use Rattle.cd_caddyfile.specs.declared.address.Address.{Address}
use Rattle.cd_caddyfile.specs.declared.choice.Choice.{Choice}
use Rattle.cd_caddyfile.specs.declared.choice.Choice.TheVariants.{Unmatched, Everything, ByPath, ByName}
use Rattle.cd_caddyfile.specs.declared.directive.Directive.{Directive}
use Rattle.cd_caddyfile.specs.declared.directive.Directive.TheVariants.{Vars, Header, Redir, Rewrite, Handle, Respond}
use Rattle.cd_caddyfile.specs.declared.fault.CaddyfileFault.{CaddyfileFault}
use Rattle.cd_caddyfile.specs.declared.fault.CaddyfileKind.{CaddyfileKind}
use Rattle.cd_caddyfile.specs.declared.fault.CaddyfileKind.TheVariants.{BadText, BadBlock, BadAddress, RepeatedSite, UnknownDirective, BadArguments, UnknownMatcher, RepeatedMatcher, TooLong, TooDeep, NoMemory}
use Rattle.cd_caddyfile.specs.declared.line.Line.{Line}
use Rattle.cd_caddyfile.specs.declared.line.Line.TheVariants.{Empty, Closes, Opens, Says, Misplaced}
use Rattle.cd_caddyfile.specs.declared.named.Named.{Named}
use Rattle.cd_caddyfile.specs.declared.named.Located.{Located}
use Rattle.cd_caddyfile.specs.declared.within.Within.{Within}
use Rattle.cd_caddyfile.specs.declared.within.Within.TheVariants.{File, Directives, Tests, Unread}

abbrev pub fault_at : ℕ → CaddyfileKind → CaddyfileFault
fault_at n kind = record { kind = kind; line = n }

-- a fault, where the test holds
abbrev pub fault_where : Bool → ℕ → CaddyfileKind → List CaddyfileFault
fault_where true n kind = fault_at n kind ∷ []
fault_where false n kind = []

-- ---- of each line by itself

abbrev pub is_misplaced : Line → Bool
is_misplaced Empty = false
is_misplaced Closes = false
is_misplaced (Opens ws) = false
is_misplaced (Says ws) = false
is_misplaced Misplaced = true

abbrev pub own_faults : ℕ → Bool → Bool → List CaddyfileFault
own_faults n is_bad_text is_misplaced = fault_where is_bad_text n BadText ++ fault_where is_misplaced n BadBlock

abbrev pub line_faults_of : ℕ → List ℕ → List CaddyfileFault
line_faults_of n bytes = own_faults n (is_bad_text bytes) (is_misplaced (line_of bytes))

-- of the lines from number n on
unfoldable pub line_faults : ℕ → List (List ℕ) → List CaddyfileFault
line_faults n [] = []
line_faults n (bytes ∷ more) = line_faults_of n bytes ++ line_faults (suc n) more

-- ---- of each line by where it is

-- a site has a block and an address
abbrev pub wrong_site : Bool → Bool → Option CaddyfileKind
wrong_site false has_address = Some BadBlock
wrong_site true has_address = if has_address then None else Some BadAddress

-- a test has no block
abbrev pub wrong_test : Bool → List (List ℕ) → Option CaddyfileKind
wrong_test true ws = Some BadBlock
wrong_test false ws = if is_some (with_line no_tests ws) then None else Some BadArguments

-- a matcher has a test or a block
abbrev pub wrong_matcher : Bool → List (List ℕ) → Option CaddyfileKind
wrong_matcher true [] = None
wrong_matcher true (arg ∷ args) = Some BadBlock
wrong_matcher false args = wrong_test false args

-- `handle` has a block, and nothing but its matcher
abbrev pub wrong_handle : Bool → List (List ℕ) → Option CaddyfileKind
wrong_handle false args = Some BadBlock
wrong_handle true args = if length (own_args Handle args) == 0 then None else Some BadArguments

-- no other directive has one
abbrev pub wrong_action : Directive → Bool → List (List ℕ) → Option CaddyfileKind
wrong_action name true args = Some BadBlock
wrong_action name false args = if is_some (action_of name (own_args name args)) then None else Some BadArguments

abbrev pub wrong_directive : Directive → Bool → List (List ℕ) → Option CaddyfileKind
wrong_directive Vars opens args = wrong_action Vars opens args
wrong_directive Header opens args = wrong_action Header opens args
wrong_directive Redir opens args = wrong_action Redir opens args
wrong_directive Rewrite opens args = wrong_action Rewrite opens args
wrong_directive Handle opens args = wrong_handle opens args
wrong_directive Respond opens args = wrong_action Respond opens args

abbrev pub wrong_known : Option Directive → Bool → List (List ℕ) → Option CaddyfileKind
wrong_known None opens args = Some UnknownDirective
wrong_known (Some name) opens args = wrong_directive name opens args

abbrev pub wrong_named : Bool → List ℕ → List (List ℕ) → Option CaddyfileKind
wrong_named opens name args = if is_matcher name then wrong_matcher opens args else wrong_known (directive_named name) opens args

-- a line of a block of directives is a matcher or a directive
abbrev pub wrong_statement : Bool → List (List ℕ) → Option CaddyfileKind
wrong_statement opens [] = Some UnknownDirective
wrong_statement opens (name ∷ args) = wrong_named opens name args

-- what is wrong with a line; in a block that may not stand where it does no line is wrong
abbrev pub wrong : Within → Bool → List (List ℕ) → Option CaddyfileKind
wrong File opens ws = wrong_site opens (is_some (address_of ws))
wrong (Directives site) opens ws = wrong_statement opens ws
wrong (Tests site matcher) opens ws = wrong_test opens ws
wrong (Unread site) opens ws = None

abbrev pub faults_of : ℕ → Option CaddyfileKind → List CaddyfileFault
faults_of n None = []
faults_of n (Some kind) = fault_at n kind ∷ []

abbrev pub wrongs : Within → Bool → ℕ → List (List ℕ) → List CaddyfileFault
wrongs at opens n ws = faults_of n (wrong at opens ws)

-- ---- of sites

abbrev pub located : ℕ → Option Address → List Located
located n None = []
located n (Some address) = record { line = n; address = address } ∷ []

-- the address of a site
abbrev pub sites_said : Within → Bool → ℕ → List (List ℕ) → List Located
sites_said File opens n ws = located n (address_of ws)
sites_said (Directives site) opens n ws = []
sites_said (Tests site matcher) opens n ws = []
sites_said (Unread site) opens n ws = []

abbrev pub same_host : Option (List ℕ) → Option (List ℕ) → Bool
same_host None None = true
same_host None (Some other) = false
same_host (Some host) None = false
same_host (Some host) (Some other) = bytes_eq host other

abbrev pub same_address : Address → Address → Bool
same_address a b = a.port == b.port && same_host a.host b.host

-- a site whose address one before has
abbrev pub repeated_sites : List Located → List Located → List CaddyfileFault
repeated_sites before [] = []
repeated_sites before (s ∷ ss) =
    fault_where (list_any (λ (other : Located). same_address other.address s.address) before) s.line RepeatedSite ++ repeated_sites (before ++ s ∷ []) ss

-- ---- of matchers

abbrev pub matcher_at : ℕ → ℕ → List ℕ → Named
matcher_at site n name = record { site = site; line = n; name = name }

-- the name of a matcher that a line defines
abbrev pub defined_in : ℕ → ℕ → List (List ℕ) → List Named
defined_in site n [] = []
defined_in site n (name ∷ args) = if is_matcher name then matcher_at site n name ∷ [] else []

-- matchers are defined in any block of a site
abbrev pub defined : Within → Bool → ℕ → List (List ℕ) → List Named
defined File opens n ws = []
defined (Directives site) opens n ws = defined_in site n ws
defined (Tests site matcher) opens n ws = []
defined (Unread site) opens n ws = defined_in site n ws

abbrev pub is_by_name : Choice → Bool
is_by_name Unmatched = false
is_by_name Everything = false
is_by_name ByPath = false
is_by_name ByName = true

-- of the arguments the first is the matcher
abbrev pub used_by_choice : ℕ → ℕ → Choice → List (List ℕ) → List Named
used_by_choice site n choice [] = []
used_by_choice site n choice (arg ∷ args) = if is_by_name choice then matcher_at site n arg ∷ [] else []

abbrev pub used_by : ℕ → ℕ → Option Directive → List (List ℕ) → List Named
used_by site n None args = []
used_by site n (Some name) args = used_by_choice site n (choice_of name args) args

abbrev pub used_in : ℕ → ℕ → List (List ℕ) → List Named
used_in site n [] = []
used_in site n (name ∷ args) = used_by site n (directive_named name) args

-- the name of a matcher that a directive takes
abbrev pub used : Within → Bool → ℕ → List (List ℕ) → List Named
used File opens n ws = []
used (Directives site) opens n ws = used_in site n ws
used (Tests site matcher) opens n ws = []
used (Unread site) opens n ws = []

-- a name counts in its site
abbrev pub same_matcher : Named → Named → Bool
same_matcher a b = a.site == b.site && bytes_eq a.name b.name

-- a matcher whose name one of the site before has
abbrev pub repeated_matchers : List Named → List Named → List CaddyfileFault
repeated_matchers before [] = []
repeated_matchers before (m ∷ ms) =
    fault_where (list_any (λ (other : Named). same_matcher other m) before) m.line RepeatedMatcher ++ repeated_matchers (before ++ m ∷ []) ms

-- a matcher that the site has not
abbrev pub unknown_matchers : List Named → List Named → List CaddyfileFault
unknown_matchers all [] = []
unknown_matchers all (m ∷ ms) =
    fault_where (not (list_any (λ (other : Named). same_matcher other m) all)) m.line UnknownMatcher ++ unknown_matchers all ms

-- ---- the first

-- of the faults of one line the one with the least number counts
abbrev pub precedence : CaddyfileKind → ℕ
precedence BadText = 1
precedence BadBlock = 2
precedence BadAddress = 3
precedence RepeatedSite = 4
precedence UnknownDirective = 5
precedence BadArguments = 6
precedence UnknownMatcher = 7
precedence RepeatedMatcher = 8
precedence TooLong = 9
precedence TooDeep = 10
precedence NoMemory = 11

abbrev pub is_sooner : CaddyfileFault → CaddyfileFault → Bool
is_sooner f g = nat_lt f.line g.line || (f.line == g.line && nat_le (precedence f.kind) (precedence g.kind))

-- the sooner of two, where there are two
abbrev pub sooner : Option CaddyfileFault → Option CaddyfileFault → Option CaddyfileFault
sooner None other = other
sooner (Some f) None = Some f
sooner (Some f) (Some g) = if is_sooner f g then Some f else Some g

abbrev pub first_fault : List CaddyfileFault → Option CaddyfileFault
first_fault [] = None
first_fault (f ∷ fs) = sooner (Some f) (first_fault fs)

-- ---- all

abbrev pub faults : List ℕ → List CaddyfileFault
faults bytes =
    line_faults 1 (lines_of bytes)
    ++ (map (λ n. fault_at n BadBlock) (left_open (file_lines bytes))
    ++ (walk wrongs File (file_lines bytes)
    ++ (repeated_sites [] (walk sites_said File (file_lines bytes))
    ++ (repeated_matchers [] (walk defined File (file_lines bytes))
    ++ unknown_matchers (walk defined File (file_lines bytes)) (walk used File (file_lines bytes))))))

-- the first fault of a file's lines
abbrev pub fault_of : List ℕ → Option CaddyfileFault
fault_of bytes = first_fault (faults bytes)

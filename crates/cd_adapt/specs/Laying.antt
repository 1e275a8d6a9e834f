-- Blocks that are open, from the outermost one, and what a line with a block adds.
use Rattle.std.specs.Prelude.{◌≡◌, ◌≤◌, ◌⊎◌, ℕ, ◌+◌, ◌-◌, Bool, true, false, List, [], ◌∷◌, ◌++◌, codes}
use Rattle.std.specs.Str.{bytes_eq}
use Rattle.cd_caddyfile.specs.Blocks.{Nesting, last, up_to}
use Rattle.cd_caddyfile.specs.FileSites.{block_of}
use Rattle.cd_caddyfile.specs.Shape.{groups_inside, one_if}
use Rattle.cd_caddyfile.specs.Sites.{Tests, Block}
use Rattle.cd_caddyfile.specs.declared.directive.Directive.TheVariants.{Handle}
use Rattle.cd_adapt.specs.Steps.{frame_of, with_step, set_by, subroute_of, routes_in, has_some, own_groups}
use Rattle.cd_parts.specs.declared.measured.Measured.{Measured}
use Rattle.cd_adapt.specs.declared.steps.Frame.{Frame}

-- the steps of a block that has been read, where the numbers of groups from `stop` on are taken before, and those from `free` on
-- with it. Where those of the block are too many, only `stop` is kept: such a block is no `handle`, and nothing of it is.
pub record IsLaid (b : Block) (stop : ℕ) (f : Frame) (free : ℕ) : Type 0 where
  pub stops : f.end ≡ stop
  pub steps : groups_inside b ≤ stop → f ≡ frame_of b free
  pub groups : groups_inside b ≤ stop → free + groups_inside b ≡ stop

-- the same of all blocks whose first line has not been read: those around the innermost, and that one
abbrev pub AreLaid : (List ℕ → Tests) → ℕ → Nesting → List Frame → Frame → ℕ → Type 0
AreLaid tests_of next (last ls) outer here free = (outer ≡ []) × IsLaid (block_of tests_of ls) next here free
AreLaid tests_of next (up_to ls n more) outer here free =
    (others : List Frame) × ((around : Frame) × ((taken : ℕ) ×
    ((outer ≡ others ++ around ∷ []) × (AreLaid tests_of next more others around taken × IsLaid (block_of tests_of ls) taken here free))))

-- the last element is taken off, or there is none, and this one stands for it
abbrev pub IsTaken : {A : Type 0} → A → List A → List A → A → Type 0
IsTaken none old new one = (old ≡ new ++ one ∷ []) ⊎ ((old ≡ []) × ((new ≡ []) × (one ≡ none)))

abbrev pub is_handle : List (List ℕ) → Bool
is_handle [] = false
is_handle (name ∷ args) = bytes_eq name (codes "handle")

abbrev pub arguments : List (List ℕ) → List (List ℕ)
arguments [] = []
arguments (name ∷ args) = args

-- the first number of a group that is taken with a block; where the block is that of no `handle`, its groups are given back
abbrev pub free_before : Bool → Frame → ℕ → ℕ
free_before true inside free = free - own_groups inside
free_before false inside free = inside.end

-- the routes of a block whose own groups end before this number
abbrev pub routes_at : Frame → ℕ → List Measured
routes_at f free = routes_in f (free - own_groups f) (free - one_if (has_some f.handles))

-- a line with a block
abbrev pub and_block : Bool → (List ℕ → Measured) → List (List ℕ) → Frame → ℕ → Frame → Frame
and_block true sets args inside free after = with_step Handle (record { matching = set_by sets Handle args; does = subroute_of (routes_at inside free) }) after
and_block false sets args inside free after = after

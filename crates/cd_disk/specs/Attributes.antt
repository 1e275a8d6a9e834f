-- Which files are not used: what is saved is for their owner alone.
use Rattle.std.specs.Prelude.{ℕ, ◌==◌, ◌%◌, nat_lt, if◌then◌else◌, Option, Some, None}
use Rattle.cd_disk.specs.declared.attributes.Attributes.{Attributes}
use Rattle.cd_disk.specs.declared.attributes.Kind.{Kind}
use Rattle.cd_disk.specs.declared.attributes.Kind.TheVariants.{Regular, Link, Other}
use Rattle.cd_disk.specs.declared.attributes.FileFault.{FileFault}
use Rattle.cd_disk.specs.declared.attributes.FileFault.TheVariants.{Linked, NotRegular, Foreign, Shared, Named}
use Rattle.cd_disk.specs.declared.attributes.TheConstants.{OWNER_BITS}

-- of a regular file: its owner is another, its group or others may do something with it, or it has another name
abbrev pub fault_of_regular : Attributes → ℕ → Option FileFault
fault_of_regular found user =
    if found.owner == user then
    (if found.mode % OWNER_BITS == 0 then (if nat_lt 1 found.names then Some Named else None) else Some Shared)
    else Some Foreign

abbrev pub fault_by : Kind → Attributes → ℕ → Option FileFault
fault_by Link found user = Some Linked
fault_by Other found user = Some NotRegular
fault_by Regular found user = fault_of_regular found user

-- why a file is not used by this user, if it is not
abbrev pub fault_of : Attributes → ℕ → Option FileFault
fault_of found user = fault_by found.kind found user

-- Part of the main theorem.
-- The faults of settings.
use Rattle.std.specs.Prelude.{ℕ, nat_le, if◌then◌else◌, List, [], Result, Ok, Err}
use Rattle.cd_tree.specs.declared.path.Path.{Path}
use Rattle.cd_tree.specs.declared.fault.FieldFault.{FieldFault}
use Rattle.cd_tree.specs.declared.fault.FieldFault.TheVariants as field
use Rattle.cd_module.specs.declared.fault.LoadFault.{LoadFault}
use Rattle.cd_module.specs.declared.fault.LoadFault.TheVariants.{Refused, NoMemory}
use Rattle.cd_module.specs.declared.fault.LoadKind.{LoadKind}
use Rattle.cd_module.specs.declared.fault.LoadKind.TheVariants.{UnknownModule, UnknownMember, WrongKind, Missing, RepeatedAddress, RepeatedId, LimitReached}
use Rattle.cd_module.specs.Limits.{most, named}
use Rattle.cd_module.specs.declared.limits.Limit.{Limit}

-- a fault that is all said by its kind and its path
abbrev pub refused : LoadKind → Path → LoadFault
refused kind at = Refused (record { kind = kind; at = at; other = record { parts = [] }; about = [] })

-- no module has this id
abbrev pub unknown_module : List ℕ → Path → LoadFault
unknown_module id at = Refused (record { kind = UnknownModule; at = at; other = record { parts = [] }; about = id })

-- an address is listened on again, at this path
abbrev pub repeated_address : List ℕ → Path → LoadFault
repeated_address address at = Refused (record { kind = RepeatedAddress; at = at; other = record { parts = [] }; about = address })

-- two objects have this id: the first and the second path
abbrev pub repeated_id : List ℕ → Path → Path → LoadFault
repeated_id id first second = Refused (record { kind = RepeatedId; at = first; other = second; about = id })

-- there is more of something than there may be
abbrev pub limit_reached : Limit → LoadFault
limit_reached limit = Refused (record { kind = LimitReached; at = record { parts = [] }; other = record { parts = [] }; about = named limit })

-- the fault that there is too much, unless there may be so much
abbrev pub within : Limit → ℕ → Result (Unit {0}) LoadFault
within limit count = if nat_le count (most limit) then Ok tt else Err (limit_reached limit)

-- the faults of an object's members as faults of settings
abbrev pub of_field : FieldFault → LoadFault
of_field (field.UnknownMember at) = refused UnknownMember at
of_field (field.WrongKind at) = refused WrongKind at
of_field (field.Missing at) = refused Missing at
of_field field.NoMemory = NoMemory

-- No settings of the admin API lack memory to be read.
use Rattle.std.proofs.Common.{◌≡◌, true, List, [], ◌∷◌, refl, Result, Ok, Err, rules}
use Rattle.cd_tree.specs.declared.path.Path.{Path}
use Rattle.cd_outside.specs.declared.address.Address.{Address}
use Rattle.cd_addr.specs.Addresses.{addresses}
use Rattle.cd_addr.specs.declared.fault.AddrFault.{AddrFault}
use Rattle.cd_module.specs.Settings.{text}
use Rattle.cd_module.proofs.Sure.{is_said, IsSure, then-sure, text-sure, truth-sure, list_of-sure, members-sure, optional-sure}
use Rattle.cd_admin.specs.Admin.{one_address, admin_listen, admin_config, admin}

one_address-sure : (found : Result (List Address) AddrFault) (at : Path) → is_said (one_address found at) ≡ true
one_address-sure (Ok []) at = refl
one_address-sure (Ok (address ∷ [])) at = refl
one_address-sure (Ok (address ∷ other ∷ others)) at = refl
one_address-sure (Err fault) at = refl

admin_listen-sure : IsSure admin_listen
unfolding admin_listen
admin_listen-sure = record { sure = λ t at. then-sure (text t at) _ (text-sure.sure t at) (λ written. one_address-sure (addresses written) at) }

admin_config-sure : IsSure admin_config
unfolding admin_config
admin_config-sure = search (rules, members-sure, then-sure, optional-sure, truth-sure)

pub admin-sure : IsSure admin
unfolding admin
admin-sure = search (rules, members-sure, then-sure, optional-sure, truth-sure, admin_listen-sure, list_of-sure, text-sure, admin_config-sure)

-- Examples of the definitions, from the rule by hand.
use Rattle.std.proofs.Common.{◌≡◌, ℕ, Bool, List, [], ◌∷◌, true, false, Some, Ok, Err, refl, rules}
use Rattle.std.specs.Prelude.{codes}
use Rattle.cd_tree.specs.declared.path.Path.{Path}
use Rattle.cd_tree.specs.declared.tree.Member.{roll-Member}
use Rattle.cd_tree.specs.declared.tree.Tree.{Tree, Null, Bool as Truth, Object, the_lemmas}
use Rattle.cd_outside.specs.declared.address.Address.{Address}
use Rattle.cd_addr.specs.Addresses.{written}
use Rattle.cd_wire.specs.declared.fields.Field.{Field}
use Rattle.cd_module.specs.Faults.{refused}
use Rattle.cd_module.specs.Settings.{members, optional}
use Rattle.cd_module.specs.declared.fault.LoadKind.TheVariants.{BadAddress}
use Rattle.cd_admin.specs.Admin.{admin, admin_config, admin_in, admin_of, one_address, persists, usual_address, usual_admin}
use Rattle.cd_admin.specs.Endings.{denied}
use Rattle.cd_admin.specs.Origins.{admitted, expected, names, text_at, texts_of, without_scheme}
use Rattle.cd_admin.specs.declared.admin.Admin.{Admin}
use Rattle.cd_admin.specs.declared.denial.Denial.TheVariants.{OtherHost, OtherOrigin}

-- ---- schemes and hosts

a_scheme_goes : without_scheme (codes "HTTPS://Panel.test:1") ≡ codes "Panel.test:1"
unfolding without_scheme
a_scheme_goes = refl

half_a_scheme_stays : without_scheme (codes "http:/a") ≡ codes "http:/a"
unfolding without_scheme
half_a_scheme_stays = refl

an_entry_names_its_host : names (codes "panel.TEST:1") (codes "https://PANEL.test:1") ≡ true
unfolding without_scheme
an_entry_names_its_host = refl

a_port_counts : names (codes "panel.test") (codes "http://panel.test:80") ≡ false
unfolding without_scheme
a_port_counts = refl

-- ---- what is expected

the_address_alone : expected usual_admin ≡ written usual_address ∷ []
the_address_alone = refl

three_names_without_a_host : texts_of (record { host = []; port = 80 }) ≡ text_at (codes "localhost") 80 ∷ (text_at (codes "127.0.0.1") 80 ∷ (text_at (codes "::1") 80 ∷ []))
three_names_without_a_host = refl

nothing_is_expected : expected (record usual_admin { origins = Some [] }) ≡ []
nothing_is_expected = refl

-- ---- the test

abbrev enforcing : Admin
enforcing = record usual_admin { enforce_origin = true; origins = Some (codes "https://panel.test" ∷ []) }

abbrev from : List ℕ → Field
from origin = record { name = codes "origin"; value = origin }

no_page_is_admitted : admitted enforcing (codes "PANEL.test") [] ≡ Ok tt
unfolding admitted without_scheme
no_page_is_admitted = refl

its_own_page_is_admitted : admitted enforcing (codes "panel.test") (from (codes "http://panel.test") ∷ []) ≡ Ok tt
unfolding admitted without_scheme
its_own_page_is_admitted = refl

another_page_is_not : admitted enforcing (codes "panel.test") (from (codes "http://evil.test") ∷ []) ≡ denied OtherOrigin
unfolding admitted without_scheme
another_page_is_not = refl

nor_are_two_origins : admitted enforcing (codes "panel.test") (from (codes "http://panel.test") ∷ (from (codes "http://panel.test") ∷ [])) ≡ denied OtherOrigin
unfolding admitted without_scheme
nor_are_two_origins = refl

nor_is_another_host : admitted enforcing (codes "evil.test") [] ≡ denied OtherHost
unfolding admitted without_scheme
nor_is_another_host = refl

all_are_where_nothing_is_enforced : (host : List ℕ) (fields : List Field) → admitted usual_admin host fields ≡ Ok tt
unfolding admitted
all_are_where_nothing_is_enforced host fields = refl

-- ---- the settings

one_address_is_taken : (address : Address) (at : Path) → one_address (Ok (address ∷ [])) at ≡ Ok (record { address = address })
one_address_is_taken address at = refl

two_are_not : (address other : Address) (at : Path) → one_address (Ok (address ∷ (other ∷ []))) at ≡ Err (refused BadAddress at)
two_are_not address other at = refl

null_is_usual : admin_of Null ≡ usual_admin
unfolding admin_in optional
null_is_usual = search (rules, the_lemmas)

-- ---- what is kept

abbrev alone : List ℕ → Tree → Tree
alone name value = Object (roll-Member (record { key = name; value = value }) ∷ [])

abbrev saying : Bool → Tree
saying b = alone (codes "admin") (alone (codes "config") (alone (codes "persist") (Truth b)))

null_is_kept : persists Null ≡ true
unfolding admin_in optional
null_is_kept = search (rules, the_lemmas)

what_is_denied_is_not_kept : persists (saying false) ≡ false
unfolding admin_in admin admin_config members optional
what_is_denied_is_not_kept = search (rules, the_lemmas)

what_is_asked_for_is_kept : persists (saying true) ≡ true
unfolding admin_in admin admin_config members optional
what_is_asked_for_is_kept = search (rules, the_lemmas)

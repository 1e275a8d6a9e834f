-- Examples of the definitions, from the rule by hand.
use Rattle.std.proofs.Common.{◌≡◌, [], ◌∷◌, Ok, Err, refl, rules, codes}
use Rattle.cd_tree.specs.declared.tree.Tree.{Null, Items, the_lemmas}
use Rattle.cd_outside.specs.declared.key.Key.TheVariants as key
use Rattle.cd_module.specs.Faults.{refused}
use Rattle.cd_module.specs.declared.fault.LoadKind.TheVariants.{WrongKind}
use Rattle.cd_standard.specs.Loading.{loaded, nothing_said, planned}
use Rattle.cd_standard.specs.Plans.{plan_of, root}

-- null says nothing, so the admin API alone is started
null_is_fine : loaded Null ≡ Ok (planned nothing_said)
unfolding loaded
null_is_fine = search (rules, the_lemmas)

nothing_is_planned : (plan_of nothing_said).modules ≡ []
nothing_is_planned = refl

the_admin_alone : (plan_of nothing_said).apps ≡ record { name = codes "admin"; keys = key.Listen (record { host = codes "localhost"; port = 2019 }) ∷ [] } ∷ []
the_admin_alone = refl

-- what is no object is of the wrong kind
a_list_is_refused : loaded (Items []) ≡ Err (refused WrongKind root)
unfolding loaded
a_list_is_refused = search (rules, the_lemmas)

use Rattle.cd_text.proofs.ByKeyLemmas.{IsPermutation-by_key, by_key-sorted, filter-by_key, by_key-only}
use Rattle.cd_wire.specs.declared.fields.Field.{Field}
use Rattle.cd_wire.proofs.laws.fields_go_by_name.Goals as goal

pub returns-clause-none_lost : goal.returns-clause-none_lost
returns-clause-none_lost c = IsPermutation-by_key (λ (field : Field). field.name)

pub returns-clause-names_rise : goal.returns-clause-names_rise
returns-clause-names_rise c = by_key-sorted (λ (field : Field). field.name)

pub returns-clause-order_kept : goal.returns-clause-order_kept
returns-clause-order_kept c = filter-by_key (λ (field : Field). field.name)

pub returns-clause-only_one : goal.returns-clause-only_one
returns-clause-only_one c fields others sorted same =
    by_key-only (λ (field : Field). field.name) fields others sorted (λ field. same field.name)

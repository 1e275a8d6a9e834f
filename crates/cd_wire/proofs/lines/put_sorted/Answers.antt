use Rattle.std.proofs.Common.{rules, ◌≡◌, ap, ◌∙◌, ◌++◌, map, subst, OnOk, List}
use Rattle.std.specs.List.{flat_map}
use Rattle.cd_text.proofs.ByKeyLemmas.{by_key-from_sort_by, map-by_key}
use Rattle.cd_wire.specs.Lines.{line_field}
use Rattle.cd_wire.specs.Render.{by_name, field_line}
use Rattle.cd_wire.specs.declared.fields.Field.{Field}
use Rattle.cd_wire.specs.declared.lines.Line.{Line}
use Rattle.cd_wire.proofs.lines.put_sorted.Goals as goal

pub returns : goal.returns
returns c =
    let sorted : map line_field c.sort_by.new.self ≡ by_name (map line_field c.args.lines.now) =
    ap (map line_field) (by_key-from_sort_by (λ (line : Line). line.name.now) _ _
    c.in_ok-sort_by.ensures.sorted c.sort_by.ensures.stable (λ a r f' k. search rules))
    ∙ map-by_key line_field (λ (field : Field). field.name) c.args.lines.now in
    subst (λ (fields : List Field). OnOk c.put_in_order.result (c.put_in_order.new.out.items ≡ c.args.out.now.items ++ flat_map field_line fields))
    sorted c.put_in_order.ensures

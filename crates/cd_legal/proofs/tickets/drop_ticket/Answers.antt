use Rattle.std.proofs.Common.{rules, ◌∙◌, ◌==◌, ap, not}
use Rattle.std.proofs.lemmas.Fn.{filter_same}
use Rattle.cd_legal.specs.declared.state.OpenTicket.{OpenTicket}
use Rattle.cd_legal.specs.State.{without_ticket}
use Rattle.cd_legal.proofs.Filters.{filter-tickets}
use Rattle.cd_legal.proofs.tickets.drop_ticket.Goals as goal

pub returns : goal.returns
returns c =
    let k = c.args.caller in
    c.from_vec.ensures ∙ filter_same _ (λ (t : OpenTicket). not (t.caller == k)) _ (λ x b f' k. search rules) _ _ c.retain.ensures.filtered
    ∙ filter-tickets k _ ∙ ap (without_ticket k) (c.into_vec-kept.ensures ∙ c.replace.ensures.value)

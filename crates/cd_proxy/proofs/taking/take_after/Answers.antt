use Rattle.std.proofs.Common.{ℕ, List, ◌++◌, ◌+◌, ◌≤◌, length, take, subst, arith}
use Rattle.cd_proxy.specs.declared.taking.Taken.TheVariants as taken
use Rattle.cd_proxy.specs.Taking.{IsTaken}
use Rattle.cd_proxy.proofs.TakingLemmas.{kept_front, later_response, later_none}
use Rattle.cd_proxy.proofs.taking.take_after.Goals as goal

pub overflow_add-result : goal.overflow_add-result
overflow_add-result c =
    let before = c.requires.0 in
    let found = c.requires.1 in
    let start = before ++ take c.args.at c.args.text.now in
    let t = subst (λ (r : List ℕ). IsTaken c.args.head start r c.args.ended c.take_next.new.known (taken.Response c.in-Response.answer c.in-Response.len)) c.rest_from.ensures
    (c.in-Response.ensures start (kept_front c.args.head before c.args.text.now c.args.ended c.args.at c.args.known.now found)) in
    let within : c.args.at + c.in-Response.len ≤ length c.args.text.now =
    (later_response c.args.head before c.args.text.now c.args.ended c.args.at c.in-Response.len c.in-Response.answer c.take_next.new.known found.0 t).0 in
    record { fits = omega arith }

pub overflow_add-result-in-None : goal.overflow_add-result-in-None
overflow_add-result-in-None c =
    let before = c.requires.0 in
    let found = c.requires.1 in
    let start = before ++ take c.args.at c.args.text.now in
    let t = subst (λ (r : List ℕ). IsTaken c.args.head start r c.args.ended c.take_next.new.known (taken.None c.in-None.pause c.in-None.len)) c.rest_from.ensures
    (c.in-None.ensures start (kept_front c.args.head before c.args.text.now c.args.ended c.args.at c.args.known.now found)) in
    let within : c.args.at + c.in-None.len ≤ length c.args.text.now =
    (later_none c.args.head before c.args.text.now c.args.ended c.args.at c.in-None.len c.in-None.pause c.take_next.new.known found.0 t).0 in
    record { fits = omega arith }

pub returns-in-Response : goal.returns-in-Response
returns-in-Response c before found =
    let start = before ++ take c.args.at c.args.text.now in
    let t = subst (λ (r : List ℕ). IsTaken c.args.head start r c.args.ended c.take_next.new.known (taken.Response c.in-Response.answer c.in-Response.len)) c.rest_from.ensures
    (c.in-Response.ensures start (kept_front c.args.head before c.args.text.now c.args.ended c.args.at c.args.known.now found)) in
    later_response c.args.head before c.args.text.now c.args.ended c.args.at c.in-Response.len c.in-Response.answer c.take_next.new.known found.0 t

pub returns-in-None : goal.returns-in-None
returns-in-None c before found =
    let start = before ++ take c.args.at c.args.text.now in
    let t = subst (λ (r : List ℕ). IsTaken c.args.head start r c.args.ended c.take_next.new.known (taken.None c.in-None.pause c.in-None.len)) c.rest_from.ensures
    (c.in-None.ensures start (kept_front c.args.head before c.args.text.now c.args.ended c.args.at c.args.known.now found)) in
    later_none c.args.head before c.args.text.now c.args.ended c.args.at c.in-None.len c.in-None.pause c.take_next.new.known found.0 t

use Rattle.std.proofs.Common.{◌∙◌, sym, ap, ◌≡◌, true}
use Rattle.http_header.proofs.TokenLemmas.{IsUtf8-from_token}
use Rattle.cd_handlers.specs.Rewrite.{is_token}
use Rattle.cd_handlers.proofs.Tokens.{token}
use Rattle.cd_handlers.proofs.rewriting.method_said.Goals as goal

pub unreachable-requires : goal.unreachable-requires
unreachable-requires c =
    let is : is_token c.args.method.items ≡ true = ap is_token (sym c.as_slice.ensures.value) ∙ sym c.is_token.ensures ∙ c.if-not-is_token.false in
    let no = c.in-Err.ensures.succeeds (IsUtf8-from_token c.args.method.items (token c.args.method.items is)) in cc

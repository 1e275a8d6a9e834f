-- What the front of a text says of the text.
use Rattle.std.proofs.Common.{◌≡◌, ℕ, ◌+◌, ◌-◌, ◌≤◌, List, ◌++◌, length, take, drop, sym, ap, ◌∙◌, subst, append_assoc, arith}
use Rattle.std.proofs.lemmas.List.{take-append-drop, drop-append-le, take-append-le}
use Rattle.std.proofs.Math.Seq.{take-append-add}
use Rattle.httparse.specs.Grammar.{print_request}
use Rattle.cd_wire.specs.declared.head.Head.{Head}
use Rattle.cd_wire.specs.declared.limits.TheConstants.{MAX_HEAD_BYTES}
use Rattle.cd_wire.specs.Heads.{BeginsHead, HasNoHead, NeverHasHead}
use Rattle.cd_wire.proofs.RequestLaws.{BeginsHead-append}

-- a rest of the front, and what follows the front, are a rest of the text
pub rest_of_front : (text : List ℕ) (n len : ℕ) → len ≤ length (take n text)
    → drop len (take n text) ++ drop n text ≡ drop len text
rest_of_front text n len within =
    sym (drop-append-le len (take n text) (drop n text) within) ∙ ap (drop len) (take-append-drop n text)

-- what the front begins with, the text begins with
pub head_of_front : (text : List ℕ) (n len : ℕ) (head : Head) → len ≤ length (take n text)
    → BeginsHead (take n text) head (drop len (take n text)) → BeginsHead text head (drop len text)
head_of_front text n len head within b =
    subst (λ t. BeginsHead t head (drop len text)) (take-append-drop n text)
    (subst (λ r. BeginsHead (take n text ++ drop n text) head r) (rest_of_front text n len within)
    (BeginsHead-append (take n text) head (drop len (take n text)) (drop n text) b))

-- a piece that ends in the front
pub take_past : (piece rest : List ℕ) (n : ℕ) → length piece ≤ n
    → take n (piece ++ rest) ≡ piece ++ take (n - length piece) rest
take_past piece rest n within =
    let whole : n ≡ length piece + (n - length piece) = omega arith in
    ap (λ k. take k (piece ++ rest)) whole ∙ take-append-add piece rest (n - length piece)

-- a head of the text is one of its front
pub front_has_head : (text : List ℕ) (head : Head) (rest : List ℕ) → BeginsHead text head rest
    → (r : List ℕ) × BeginsHead (take MAX_HEAD_BYTES text) head r
front_has_head text head rest b =
    let n : ℕ = MAX_HEAD_BYTES in
    let cut = take_past (print_request b.lines) rest MAX_HEAD_BYTES b.short in (
      take (MAX_HEAD_BYTES - length (print_request b.lines)) rest,
      record {
        lines = b.lines;
        reads = (b.reads.0, ap (take MAX_HEAD_BYTES) b.reads.1 ∙ cut);
        short = b.short;
        few = b.few;
        is = b.is;
      },
    )

pub no_head_in_front : (text : List ℕ) → HasNoHead (take MAX_HEAD_BYTES text) → HasNoHead text
no_head_in_front text none head rest b =
    let f = front_has_head text head rest b in none head f.0 f.1

pub never_head_in_front : (text : List ℕ) (n : ℕ) → NeverHasHead (take n text) → NeverHasHead text
never_head_in_front text n never more head rest b =
    never (drop n text ++ more) head rest
    (subst (λ t. BeginsHead t head rest)
    (ap (λ t. t ++ more) (sym (take-append-drop n text)) ∙ append_assoc (take n text) (drop n text) more) b)

pub never_head_when_full : (text : List ℕ) → MAX_HEAD_BYTES ≤ length text → HasNoHead (take MAX_HEAD_BYTES text)
    → NeverHasHead text
never_head_when_full text full none more head rest b =
    let f = front_has_head (text ++ more) head rest b in
    none head f.0 (subst (λ t. BeginsHead t head f.0) (take-append-le MAX_HEAD_BYTES text more full) f.1)

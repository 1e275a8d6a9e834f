use Rattle.std.proofs.Common.{◌≡◌, ◌∷◌, take, ap, ◌∙◌, rules}
use Rattle.form_urlencoded.specs.Form.{decode}
use Rattle.cd_fill.proofs.Characters.{ascii_first, first_piece, some_size}
use Rattle.cd_fill.proofs.escapes.first_character.Goals as goal

pub returns-then-is_ascii : goal.returns-then-is_ascii
returns-then-is_ascii c = search (rules, ascii_first)

pub overflow_sub-size : goal.overflow_sub-size
overflow_sub-size c =
    let front = take c.write_meant-count.result c.write_meant-count.new.room in
    let others = decode c.in_ok-byte.behind.now in
    let front_is : front ≡ take 4 (c.in_ok-byte.byte ∷ others) = c.write_meant-count.ensures.written ∙ ap (take 4) c.in_ok-byte.ensures.0 in
    some_size c.in_ok-byte.byte c.decode_lossy-character.result.1 others front front_is c.decode_lossy-character.ensures.size

pub returns : goal.returns
returns c = search (rules, first_piece)

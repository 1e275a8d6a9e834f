use Rattle.std.proofs.Common.{◌≡◌, ℕ, ◌+◌, ◌-◌, ◌^◌, List, ◌++◌, length, take, min, ap, ◌∙◌, subst, arith, rules, length-append}
use Rattle.std.proofs.lemmas.List.{length-take}
use Rattle.cd_disk.specs.RawFile.{Writes}
use Rattle.cd_disk.proofs.Writing.{writes_more, moves}
use Rattle.cd_disk.proofs.file_disk.write_whole.Goals as goal

pub loop-preserved : goal.loop-preserved
loop-preserved g c =
    let (written, split, place, sent) = c.loop.invariant in
    let left = c.loop.rest.now in
    let count = c.in-Ok.count in
    let moved : c.saturating_add-next.result ≡ min (c.loop.next + count) (2 ^ 64 - 1) = search rules in
    let whole : length c.args.piece.now ≡ length written + length left = ap (λ (l : List ℕ). length l) split ∙ length-append written left in
    let part : length (written ++ take count left) ≡ length written + min count (length left) = length-append written (take count left) ∙ ap (λ (n : ℕ). length written + n) (length-take count left) in
    let more = subst (λ (n : ℕ). Writes n (take count left) (g.F.RawFile.bytes c.loop.file) (g.F.RawFile.bytes c.write_once.new.file)) place c.in-Ok.ensures.bytes in (
      written ++ take count left,
      moves _ written left _ count split c.rest_from-rest.ensures,
      omega (arith, moved, whole, part, place, c.requires, c.in-Ok.ensures.bound),
      writes_more _ _ _ _ _ _ sent more,
    )

-- The tag of a value of If-Match, from what `read_if_match` says of it.
use Rattle.std.proofs.Common.{◌≡◌, List, ℕ, Some, None, Result, Ok, Err, refl, sym, ap}
use Rattle.std.specs.Result.{result_ok}
use Rattle.cd_tags.specs.Framed.{tag_in}
use Rattle.cd_tags.specs.IfMatch.{IsTagOf}
use Rattle.cd_tags.specs.declared.fault.IfMatchFault.{IfMatchFault}
use Rattle.cd_tags.specs.declared.if_match.Tag.{Tag}
use Rattle.cd_tags.proofs.Forms.{tag_is, tag_found}
use Rattle.cd_admin.specs.Deciding.{tag_of_value}

-- the tag that has the form
pub some_tag : (value : List ℕ) (tag : Tag) → IsTagOf value tag → Some tag ≡ tag_of_value value
some_tag value tag is = ap result_ok (sym (tag_found value tag is))

none_of : (value : List ℕ) (r : Result Tag IfMatchFault) → tag_in value ≡ r → ((tag : Tag) → IsTagOf value tag → ⊥) → None ≡ result_ok r
none_of value (Ok tag) e none = absurd (none tag (tag_is value tag e))
none_of value (Err fault) e none = refl

-- where no tag has it there is none
pub no_tag : (value : List ℕ) → ((tag : Tag) → IsTagOf value tag → ⊥) → None ≡ tag_of_value value
no_tag value none = none_of value (tag_in value) refl none

ok_of : (r : Result Tag IfMatchFault) (tag : Tag) → result_ok r ≡ Some tag → r ≡ Ok tag
ok_of (Ok found) tag e = cc
ok_of (Err fault) tag e = cc

-- and what has it is the tag
pub tag_formed : (value : List ℕ) (tag : Tag) → tag_of_value value ≡ Some tag → IsTagOf value tag
tag_formed value tag e = tag_is value tag (ok_of (tag_in value) tag e)

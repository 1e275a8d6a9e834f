-- What an intake of responses keeps of its bytes.
use Rattle.std.proofs.Common.{◌≡◌, ℕ, ◌≤◌, Bool, List, ◌++◌, length, take, drop, sym, ap, ◌∙◌, subst, arith, append_assoc, length-drop, ◌+◌, Ok, Err, OnErr, Result}
use Rattle.std.proofs.lemmas.List.{drop-drop, take-append-drop}
use Rattle.cd_text.specs.declared.memory.NoMemory.{NoMemory}
use Rattle.cd_proxy.specs.declared.reading.Reading.{Reading}
use Rattle.cd_proxy.specs.declared.taking.Known.{Known}
use Rattle.cd_proxy.specs.declared.taking.Pause.{Pause}
use Rattle.cd_proxy.specs.declared.taking.Taken.TheVariants as taken
use Rattle.cd_proxy.specs.Intake.{ResponseInput}
use Rattle.cd_proxy.specs.Taking.{IsKept, IsPause, IsTaken}

-- no response was taken of the bytes that a buffer has from this place on
pub none_taken : (head : Bool) (before buffer : List ℕ) (start : ℕ) (rest : List ℕ) (ended : Bool) (known after : Known) (pause : Pause) (len : ℕ)
    → (start + start ≤ length buffer) × IsKept head before known → rest ≡ drop start buffer
    → ((front : List ℕ) → IsKept head front known → IsTaken head front rest ended after (taken.None pause len))
    → (start + len ≤ length buffer) × IsPause head (before ++ drop start buffer) ended pause × IsKept head (before ++ take len (drop start buffer)) after
none_taken head before buffer start rest ended known after pause len kept is none =
    let t = subst (λ (r : List ℕ). IsTaken head before r ended after (taken.None pause len)) is (none before kept.1) in
    (omega (arith, t.0, length-drop start buffer, kept.0), t.1, t.2)

-- bytes that are read go from those that are left to those that are not kept
pub read_on : (before buffer new gone : List ℕ) (start len at : ℕ) → gone ≡ before ++ take len (drop start buffer)
    → drop at new ≡ drop (start + len) buffer → gone ++ drop at new ≡ before ++ drop start buffer
read_on before buffer new gone start len at gone_is is =
    ap (λ t. gone ++ t) (is ∙ sym (drop-drop len start buffer)) ∙ ap (λ t. t ++ drop len (drop start buffer)) gone_is
    ∙ append_assoc before (take len (drop start buffer)) (drop len (drop start buffer))
    ∙ ap (λ t. before ++ t) (take-append-drop len (drop start buffer))

-- what holds in any case holds after an error
pub after_error : (r : Result Reading NoMemory) (one other : ResponseInput) → one ≡ other → OnErr r (one ≡ other)
after_error (Ok found) one other is = tt
after_error (Err error) one other is = is

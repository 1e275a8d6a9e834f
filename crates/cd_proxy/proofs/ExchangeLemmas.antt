-- What each step of an exchange tells.
use Rattle.std.proofs.Common.{◌≡◌, ℕ, Bool, true, false, List, ◌++◌, take, refl, sym, ap, ◌∙◌, subst, Option, Some, None, option_map, IfNone, inl, inr}
use Rattle.cd_outside.specs.declared.address.Address.{Address}
use Rattle.cd_outside.specs.declared.taken.Taken.TheVariants as taken
use Rattle.cd_wire.specs.declared.request.Request.{Request}
use Rattle.cd_session.specs.Ways.{IsProperPrefix}
use Rattle.cd_peers.specs.declared.dialled.Dialled.{Dialled}
use Rattle.cd_peers.specs.Peers.{unused, after_put, after_read}
use Rattle.cd_proxy.specs.declared.exchanges.Outcome.{Outcome}
use Rattle.cd_proxy.specs.declared.exchanges.Outcome.TheVariants as outcome
use Rattle.cd_proxy.specs.declared.reading.Reading.TheVariants as reading
use Rattle.cd_proxy.specs.Responses.{IsReading}
use Rattle.cd_wire.specs.Render.{is_head}
use Rattle.cd_proxy.specs.Forward.{forward}
use Rattle.cd_proxy.specs.Intake.{ResponseInput}
use Rattle.cd_proxy.specs.Exchanges.{IsAnswered, IsExchange, Tells, Settles, Received, Goes, with_read, Conversed, Exchanged}
use Rattle.cd_proxy.proofs.Telling.{tells_taken, tells_ended, tells_put, tells_none, same_past}

-- ---- reading

-- what bytes come to where that is settled is what came
answered : (taken : List ℕ) (ended head : Bool) (d : Dialled) (came : Outcome) → Settles taken ended head (Some came)
    → IsAnswered head came (with_read taken ended d)
answered taken ended head d (outcome.Passed answer) s = s
answered taken ended head d outcome.Bad s = s
answered taken ended head d outcome.Failed s = absurd s
answered taken ended head d outcome.NoMemory s = tt

pub goes_settled : (taken : List ℕ) (ended head : Bool) (d : Dialled) (first now : Option (List Dialled)) (result : Option Outcome)
    → Tells (with_read taken ended d) first now → Settles taken ended head result → Goes head taken d first now result
goes_settled taken ended head d first now None told s = (
  subst (λ (b : Bool). Tells (with_read taken b d) first now) s.0 told,
  subst (λ (b : Bool). IsReading taken b head reading.More) s.0 s.1,
)
goes_settled taken ended head d first now (Some came) told s =
    record { taken = taken; ended = ended; told = told; answered = answered taken ended head d came s }

-- after a read that gave bytes
pub goes_bytes : (old into new : List ℕ) (count : ℕ) (head : Bool) (d : Dialled) (first before now : Option (List Dialled)) (result : Option Outcome)
    → Tells (with_read old false d) first before → now ≡ option_map (after_read (taken.Bytes count) into) before
    → new ≡ old ++ take count into → Settles new false head result → Goes head new d first now result
goes_bytes old into new count head d first before now result told is same s =
    goes_settled new false head d first now result
    (subst (λ (t : List ℕ). Tells (with_read t false d) first now) (sym same) (tells_taken old (take count into) d first before now told is)) s

-- after one for which memory was lacking
pub goes_lacking : (old into new : List ℕ) (count : ℕ) (head : Bool) (d : Dialled) (first before now : Option (List Dialled))
    → Tells (with_read old false d) first before → now ≡ option_map (after_read (taken.Bytes count) into) before
    → Goes head new d first now (Some outcome.NoMemory)
goes_lacking old into new count head d first before now told is =
    record { taken = old ++ take count into; ended = false; told = tells_taken old (take count into) d first before now told is; answered = tt }

-- after one that found the end
pub goes_ended : (old into : List ℕ) (head : Bool) (d : Dialled) (first before now : Option (List Dialled)) (result : Option Outcome)
    → Tells (with_read old false d) first before → now ≡ option_map (after_read taken.End into) before
    → Settles old true head result → Goes head old d first now result
goes_ended old into head d first before now result told is s =
    goes_settled old true head d first now result (tells_ended old d first before now told is) s

pub goes_failed : (taken : List ℕ) (head : Bool) (d : Dialled) (first now : Option (List Dialled))
    → Tells (with_read taken false d) first now → IsReading taken false head reading.More
    → Goes head taken d first now (Some outcome.Failed)
goes_failed taken head d first now told more = record { taken = taken; ended = false; told = told; answered = more }

-- a read that failed is not told
pub goes_unread : (old into : List ℕ) (head : Bool) (d : Dialled) (first before now : Option (List Dialled))
    → Tells (with_read old false d) first before → now ≡ option_map (after_read taken.Failed into) before
    → IsReading old false head reading.More → Goes head old d first now (Some outcome.Failed)
goes_unread old into head d first before now told is more =
    goes_failed old head d first now (same_past before now is ∙ told) more

-- ---- putting

-- a part was put, and then nothing more is done
pub cut_short : (bytes part : List ℕ) (head : Bool) (to : Address) (first before now : Option (List Dialled))
    → Tells (unused to) first before → IsProperPrefix part bytes → now ≡ option_map (after_put part) before
    → Conversed head bytes to first now outcome.Failed
cut_short bytes part head to first before now told part_is is = record {
  one = record (unused to) { put = part };
  is = record {
    address = refl;
    is = inr (record { failed = refl; part = part_is; taken = refl; ended = refl });
  };
  told = tells_put part (unused to) first before now told is;
}

-- all was put, and it was read
pub conversed : (bytes : List ℕ) (head : Bool) (to : Address) (first now : Option (List Dialled)) (came : Outcome)
    → Received head (record (unused to) { put = bytes }) first now came → Conversed head bytes to first now came
conversed bytes head to first now came r = record {
  one = with_read r.taken r.ended (record (unused to) { put = bytes });
  is = record { address = refl; is = inl (refl, r.answered) };
  told = r.told;
}

-- ---- an exchange

pub undialled : (q : Request) (to : Address) (before now : Option (List Dialled)) → now ≡ before → Exchanged q to outcome.NoMemory before now
undialled q to before now is = record { one = None; is = tt; told = is ∙ tells_none before }

pub not_dialled : (q : Request) (to : Address) (before now : Option (List Dialled))
    → now ≡ option_map (λ (past : List Dialled). past) before → Exchanged q to outcome.Failed before now
not_dialled q to before now is = record { one = None; is = tt; told = is }

pub exchanged : (q : Request) (to : Address) (bytes : List ℕ) (came : Outcome) (before now : Option (List Dialled))
    → bytes ≡ forward q to → Conversed (is_head q) bytes to before now came → Exchanged q to came before now
exchanged q to bytes came before now is c = record {
  one = Some c.one;
  is = subst (λ (b : List ℕ). IsExchange (is_head q) b to came c.one) is c.is;
  told = c.told;
}

-- ---- an intake that was asked what came

-- where nothing is settled it is unchanged
pub goes_asked : (asked new : ResponseInput) (head : Bool) (d : Dialled) (first now : Option (List Dialled)) (result : Option Outcome)
    → asked.to_head ≡ head → IfNone result (new ≡ asked) → Goes asked.to_head asked.bytes d first now result
    → Goes head new.bytes d first now result
goes_asked asked new head d first now None head_is same goes =
    subst (λ (i : ResponseInput). Goes head i.bytes d first now None) (sym same)
    (subst (λ (h : Bool). Goes h asked.bytes d first now None) head_is goes)
goes_asked asked new head d first now (Some came) head_is same goes =
    subst (λ (h : Bool). Received h d first now came) head_is goes

pub more_asked : (asked new : ResponseInput) (head ended : Bool) (result : Option Outcome) → asked.to_head ≡ head
    → IfNone result (new ≡ asked) → Settles asked.bytes ended asked.to_head result
    → IfNone result (IsReading new.bytes false head reading.More)
more_asked asked new head ended None head_is same s =
    subst (λ (i : ResponseInput). IsReading i.bytes false head reading.More) (sym same)
    (subst (λ (h : Bool). IsReading asked.bytes false h reading.More) head_is
    (subst (λ (b : Bool). IsReading asked.bytes b asked.to_head reading.More) s.0 s.1))
more_asked asked new head ended (Some came) head_is same s = tt

pub head_asked : (asked new : ResponseInput) (head : Bool) (result : Option Outcome) → asked.to_head ≡ head
    → IfNone result (new ≡ asked) → IfNone result (new.to_head ≡ head)
head_asked asked new head None head_is same = ap (λ (i : ResponseInput). i.to_head) same ∙ head_is
head_asked asked new head (Some came) head_is same = tt

-- after a read that gave bytes
pub goes_kept : (old asked new : ResponseInput) (into : List ℕ) (count : ℕ) (d : Dialled) (first before now : Option (List Dialled)) (result : Option Outcome)
    → Tells (with_read old.bytes false d) first before → now ≡ option_map (after_read (taken.Bytes count) into) before
    → asked ≡ record old { bytes = old.bytes ++ take count into } → Settles asked.bytes false asked.to_head result
    → IfNone result (new ≡ asked) → Goes old.to_head new.bytes d first now result
goes_kept old asked new into count d first before now result told is asked_is s same =
    goes_asked asked new old.to_head d first now result (ap (λ (i : ResponseInput). i.to_head) asked_is) same
    (goes_bytes old.bytes into asked.bytes count asked.to_head d first before now result told is
    (ap (λ (i : ResponseInput). i.bytes) asked_is) s)

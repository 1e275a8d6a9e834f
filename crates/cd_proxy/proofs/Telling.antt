-- What peers tell, call by call.
use Rattle.std.proofs.Common.{◌≡◌, ℕ, true, false, List, [], ◌∷◌, ◌++◌, refl, sym, ap, ◌∙◌, Option, Some, None, option_map}
use Rattle.cd_outside.specs.declared.past.Past.{Past}
use Rattle.cd_outside.specs.Past.{with_last}
use Rattle.cd_wire.specs.declared.answer.Answer.{Answer}
use Rattle.cd_wire.specs.declared.request.Request.{Request}
use Rattle.cd_session.proofs.Changes.{nothing-put}
use Rattle.cd_peers.specs.declared.dialled.Dialled.{Dialled}
use Rattle.cd_peers.specs.Peers.{after_put}
use Rattle.cd_peers.proofs.LastOne.{put_nothing}
use Rattle.cd_proxy.specs.declared.answering.How.TheVariants as how
use Rattle.cd_proxy.specs.Exchanges.{Tells, with_one, with_read}
use Rattle.cd_proxy.specs.Replies.{IsSent}

-- the last exchange is changed
last_changed : (f : Dialled → Dialled) (past : List Dialled) (d : Dialled) → with_last f (past ++ d ∷ []) ≡ past ++ f d ∷ []
last_changed f [] d = refl
last_changed f (x ∷ []) d = refl
last_changed f (x ∷ y ∷ past) d = ap (λ ds. x ∷ ds) (last_changed f (y ∷ past) d)

-- a call that changes the last exchange
pub tells_changed : (f : Dialled → Dialled) (d : Dialled) (first now later : Option (List Dialled)) → Tells d first now
    → later ≡ option_map (with_last f) now → Tells (f d) first later
tells_changed f d None now later told is = is ∙ ap (option_map (with_last f)) told
tells_changed f d (Some past) now later told is =
    is ∙ ap (option_map (with_last f)) told ∙ ap Some (last_changed f past d)

-- nothing is told
pub tells_none : (before : Option (List Dialled)) → before ≡ option_map (with_one None) before
tells_none None = refl
tells_none (Some past) = refl

-- ---- an exchange that began as this one

-- bytes were read
pub tells_taken : (taken more : List ℕ) (d : Dialled) (first now later : Option (List Dialled)) → Tells (with_read taken false d) first now
    → later ≡ option_map (with_last (λ (x : Dialled). record x { taken = x.taken ++ more })) now
    → Tells (with_read (taken ++ more) false d) first later
tells_taken taken more d first now later told is =
    tells_changed (λ (x : Dialled). record x { taken = x.taken ++ more }) (with_read taken false d) first now later told is

-- the end was seen
pub tells_ended : (taken : List ℕ) (d : Dialled) (first now later : Option (List Dialled)) → Tells (with_read taken false d) first now
    → later ≡ option_map (with_last (λ (x : Dialled). record x { ended = true })) now
    → Tells (with_read taken true d) first later
tells_ended taken d first now later told is =
    tells_changed (λ (x : Dialled). record x { ended = true }) (with_read taken false d) first now later told is

-- nothing changes
pub same_past : (now later : Option (List Dialled)) → later ≡ option_map (λ (past : List Dialled). past) now → later ≡ now
same_past None later is = is
same_past (Some past) later is = is

-- a part was put
pub tells_put : (part : List ℕ) (d : Dialled) (first now later : Option (List Dialled)) → Tells d first now
    → later ≡ option_map (with_last (λ (x : Dialled). record x { put = x.put ++ part })) now
    → Tells (record d { put = d.put ++ part }) first later
tells_put part d first now later told is =
    tells_changed (λ (x : Dialled). record x { put = x.put ++ part }) d first now later told is

-- to put nothing changes nothing
pub nothing_put : (past : Option (List Dialled)) → past ≡ option_map (after_put []) past
nothing_put None = refl
nothing_put (Some past) = ap Some (sym (put_nothing past))

-- where memory is lacking nothing is sent
pub sent_nothing : (q : Request) (r : Answer) (told : Option Past) → IsSent how.NoMemory q r told told
sent_nothing q r told = record { put = []; sends = refl; past = nothing-put told }

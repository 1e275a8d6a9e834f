-- Each definition where it holds and where it does not, computed: whole histories, their episodes, and near misses.
use Rattle.std.proofs.Common.{◌≡◌, ℕ, ◌++◌, true, false, List, [], ◌∷◌, length, map, refl, ap, sym, ◌∙◌, Some, None, Ok, inl, inr, arith}
use Rattle.std.specs.Prelude.{codes}
use Rattle.std.proofs.lemmas.List.{length-append, length-map, append-nil}
use Rattle.cd_outside.specs.declared.address.Address.{Address}
use Rattle.cd_outside.specs.declared.key.Key.{Key}
use Rattle.cd_outside.specs.declared.key.Key.TheVariants.{Listen, Writer}
use Rattle.cd_outside.specs.declared.past.KeepRecord.{KeepRecord}
use Rattle.cd_outside.specs.declared.past.Logged.{Logged}
use Rattle.cd_outside.specs.Past.{fresh}
use Rattle.cd_tree.specs.declared.tree.Tree.{Tree}
use Rattle.cd_wire.specs.declared.answer.Answer.{Answer}
use Rattle.cd_wire.specs.declared.request.Request.{Request}
use Rattle.cd_legal.specs.declared.limits.TheConstants.{LAST_SERIAL, MAX_DRAFTS}
use Rattle.cd_legal.specs.declared.plan.Plan.{Plan}
use Rattle.cd_legal.specs.declared.entry.Change.TheVariants as change
use Rattle.cd_legal.specs.declared.entry.Entry.{Entry}
use Rattle.cd_legal.specs.declared.entry.Entry.TheVariants.{Draft, Made, Started, Publish, Abandon, Stopped, Begin, Finish, Retire, Cleaned, Halt}
use Rattle.cd_legal.specs.declared.entry.Signed.{Signed}
use Rattle.cd_legal.specs.State.{opening_state, Conf}
use Rattle.cd_legal.specs.Entry.{signed, entries}
use Rattle.cd_legal.specs.Legal.{legal, state_at}
use Rattle.cd_legal.specs.Placed.{Placed, placed, placed_from, placed_entries, through, met}
use Rattle.cd_legal.specs.Runs.{Failure, opened, stopped_of}
use Rattle.cd_legal.specs.Signing.{are_signed}
use Rattle.cd_admin.specs.Answers.{done}
use Rattle.cd_admin.specs.Deciding.{decided, reply, replace, halt}
use Rattle.cd_module_set.specs.declared.target.Target.TheVariants as who
use Rattle.cd_serve.specs.declared.fault.ChangeFault.{ChangeFault}
use Rattle.cd_serve.specs.declared.fault.ChangeFault.TheVariants as fault
use Rattle.cd_serve.specs.Meanings.{Meaning, Sent, Decides, IsAnswer, logged, only_bytes, nothing_sent, both_sent, after_sending, keeps_of}
use Rattle.cd_serve.specs.Faults.{words, status, fault_answer, halted_answer}
use Rattle.cd_serve.specs.Retirements.{Retirement, due}
use Rattle.cd_serve.specs.Changes.{no_room, IsPublished, IsUndone, IsKept, IsHalting}
use Rattle.cd_serve.specs.Episodes.{Episode, Kind, Outcome, Answers, IsAgain, Ends, conf_met, makes_change, is_halt, another_halted}
use Rattle.cd_serve.specs.Replies.{is_whole}

-- ---- words and answers

abbrev admin_key : Key
admin_key = Listen (record { host = codes "localhost"; port = 2019 })

abbrev site_key : Key
site_key = Listen (record { host = []; port = 8080 })

abbrev log_key : Key
log_key = Writer (codes "file:x.log")

of_words : (words (fault.CannotOpen log_key) ≡ codes "cannot open writer file:x.log") × (words fault.NoSerialLeft ≡ codes "no serial left") × (words fault.NoDraftLeft ≡ codes "no draft left")
of_words = (refl, refl, refl)

of_statuses : (status (fault.CannotOpen site_key) ≡ 500) × (status (fault.StillInUse 1) ≡ 503) × (status fault.NoSerialLeft ≡ 503) × (status fault.NoDraftLeft ≡ 503)
of_statuses = (refl, refl, refl, refl)

of_outcomes : (is_whole (Outcome.answered true) ≡ true) × (is_whole (Outcome.answered false) ≡ true) × (is_whole Outcome.unlogged ≡ true) × (is_whole Outcome.broken ≡ false) × (is_whole Outcome.lacking ≡ false) × (is_whole Outcome.dropped ≡ false) × (is_whole Outcome.halted ≡ false)
of_outcomes = (refl, refl, refl, refl, refl, refl, refl)

of_changes : (makes_change Kind.changed ≡ true) × (makes_change Kind.halting ≡ true) × (makes_change Kind.served ≡ false) × (makes_change Kind.unopened ≡ false) × (makes_change Kind.kept ≡ false) × (makes_change Kind.spent ≡ false)
of_changes = (refl, refl, refl, refl, refl, refl)

-- ---- what is sent

abbrev at_first : List KeepRecord → ℕ
at_first [] = 0
at_first (k ∷ ks) = k.put

-- a configuration that is kept after two bytes of the second part was kept after five of all
of_parts : (text : List ℕ) → ◌≡◌ {A = Sent} (both_sent (only_bytes (1 ∷ 2 ∷ 3 ∷ [])) (record { put = 4 ∷ 5 ∷ []; lines = []; keeps = record { put = 2; serial = 1; text = text } ∷ [] }))
    (record { put = 1 ∷ 2 ∷ 3 ∷ 4 ∷ 5 ∷ []; lines = []; keeps = record { put = 5; serial = 1; text = text } ∷ [] })
of_parts text = refl

not_two : (text : List ℕ) → (both_sent (only_bytes (1 ∷ 2 ∷ 3 ∷ [])) (record { put = 4 ∷ 5 ∷ []; lines = []; keeps = record { put = 2; serial = 1; text = text } ∷ [] })).keeps ≡ record { put = 2; serial = 1; text = text } ∷ [] → ⊥
not_two text is = let h : 5 ≡ 2 = ap (λ (ks : List KeepRecord). at_first ks) is in omega (arith, h)

something_sent : (n : ℕ) (ns : List ℕ) → only_bytes (n ∷ ns) ≡ nothing_sent → ⊥
something_sent n ns is = let h : n ∷ ns ≡ [] = ap (λ (z : Sent). z.put) is in cc

of_nothing : (after_sending nothing_sent (fresh (record { host = []; port = 80 })) ≡ fresh (record { host = []; port = 80 })) × ((after_sending (only_bytes (1 ∷ [])) (fresh (record { host = []; port = 80 }))).put ≡ 1 ∷ [])
of_nothing = (refl, refl)

-- ---- room for a configuration

of_room : (no_room opening_state ≡ None) × (no_room (record opening_state { serial = 1022 }) ≡ None) × (no_room (record opening_state { serial = 1023 }) ≡ Some (fault.StillInUse 0)) × (no_room (record opening_state { serial = 1023; retired = 0 ∷ [] }) ≡ None)
    × (no_room (record opening_state { serial = 1100; retired = 76 ∷ [] }) ≡ Some (fault.StillInUse 77)) × (no_room (record opening_state { serial = LAST_SERIAL; retired = 16776191 ∷ [] }) ≡ Some fault.NoSerialLeft)
    × (no_room (record opening_state { serial = LAST_SERIAL }) ≡ Some (fault.StillInUse 16776191))
of_room = (refl, refl, refl, refl, refl, refl, refl)

-- ---- halts

of_halts : (is_halt (Halt 2) ≡ true) × (is_halt (Finish 2) ≡ false) × (another_halted 1 (signed 2 (Halt 1) ∷ []) ≡ true) × (another_halted 2 (signed 2 (Halt 1) ∷ []) ≡ false) × (another_halted 1 (signed 2 (Finish 2) ∷ []) ≡ false) × (another_halted 1 [] ≡ false)
of_halts = (refl, refl, refl, refl, refl, refl)

-- ---- histories

-- a module without keys, the admin API and a site
abbrev pub site : Plan
site = record {
  modules = record { name = codes "http"; at = record { parts = [] }; keys = [] } ∷ [];
  apps = record { name = codes "admin"; keys = admin_key ∷ [] } ∷ (record { name = codes "http"; keys = site_key ∷ [] } ∷ []);
}

-- these entries of a pass, after a history
abbrev pub all_by : ℕ → List Entry → List Signed
all_by k es = map (signed k) es

abbrev pub on : ℕ → List Signed → List Entry → List Placed
on k before es = placed_from k before (all_by k es)

module _ (t u : Tree) (q : Request) where
  -- the program publishes its first configuration, finishes, and retires serial 0
  abbrev pub first : List Signed
  first = all_by 0 (Begin 0 0 ∷ Draft 0 t site ∷ Made 0 0 0 None ∷ Started 0 0 1 None ∷ Started 0 1 1 None ∷ Publish 0 1 0 change.First ∷ Finish 0 ∷ Retire 0 ∷ [])

  -- ---- one pass serves while another one changes the configuration

  abbrev pub opening : List Entry
  opening = Draft 1 u site ∷ Made 1 0 0 None ∷ Started 1 0 1 None ∷ Started 1 1 1 None ∷ []

  abbrev pub begun : List Signed
  begun = first ++ (signed 1 (Begin 1 1) ∷ signed 2 (Begin 2 1) ∷ [])

  abbrev pub opened_there : List Signed
  opened_there = begun ++ all_by 2 opening

  abbrev pub published_there : List Signed
  published_there = opened_there ++ signed 2 (Publish 1 2 1 (change.Request q)) ∷ []

  abbrev pub stopped_there : List Signed
  stopped_there = published_there ++ all_by 2 (Stopped 0 1 ∷ Stopped 0 0 ∷ [])

  abbrev pub finished_there : List Signed
  finished_there = stopped_there ++ (signed 2 (Finish 2) ∷ signed 1 (Finish 1) ∷ [])

  abbrev pub changing : List Signed
  changing = finished_there ++ all_by 1 (Retire 1 ∷ Cleaned 0 0 ∷ Begin 1 2 ∷ Finish 1 ∷ [])

  changing_is_legal : (legal (entries changing) ≡ true) × (are_signed changing ≡ true)
  changing_is_legal = (refl, refl)

  abbrev pub begin_of_two : Placed
  begin_of_two = record { before = first ++ signed 1 (Begin 1 1) ∷ []; entry = Begin 2 1 }

  abbrev pub finish_of_two : Placed
  finish_of_two = record { before = stopped_there; entry = Finish 2 }

  abbrev pub work_of_two : List Placed
  work_of_two = on 2 begun (opening ++ (Publish 1 2 1 (change.Request q) ∷ Stopped 0 1 ∷ Stopped 0 0 ∷ []))

  changes : Episode 2 (placed 2 changing)
  changes = record { begin = begin_of_two; work = work_of_two; finish = finish_of_two; block = []; whole = refl; begins = refl; finishes = refl; retires = refl }

  abbrev pub begin_of_one : Placed
  begin_of_one = record { before = first; entry = Begin 1 1 }

  abbrev pub finish_of_one : Placed
  finish_of_one = record { before = stopped_there ++ signed 2 (Finish 2) ∷ []; entry = Finish 1 }

  abbrev pub first_of_one : List Placed
  first_of_one = begin_of_one ∷ finish_of_one ∷ on 1 finished_there (Retire 1 ∷ Cleaned 0 0 ∷ [])

  -- the Finish of the pass that served closes the last request of serial 1, so the block of serial 1 follows it
  abbrev pub serves : Episode 1 first_of_one
  serves = record { begin = begin_of_one; work = []; finish = finish_of_one; block = on 1 finished_there (Retire 1 ∷ Cleaned 0 0 ∷ []); whole = refl; begins = refl; finishes = refl; retires = refl }

  dues : (due (met finish_of_one) 1 ≡ Retirement.here 1) × (due (met finish_of_two) 2 ≡ Retirement.none) × (due (met begin_of_one) 1 ≡ Retirement.none)
  dues = (refl, refl, refl)

  -- it began under the first configuration and was answered by it, though another one was published before it finished
  confs : (conf_met begin_of_one ≡ Conf.Of t) × (conf_met finish_of_one ≡ Conf.Of u)
  confs = (refl, refl)

  -- ---- a key can't be opened

  abbrev first_key : Key
  first_key = Listen (record { host = []; port = 1 })

  abbrev second_key : Key
  second_key = Listen (record { host = []; port = 2 })

  abbrev third_key : Key
  third_key = Listen (record { host = []; port = 3 })

  -- a site on three addresses
  abbrev wide : Plan
  wide = record site { apps = record { name = codes "admin"; keys = admin_key ∷ [] } ∷ (record { name = codes "http"; keys = first_key ∷ (second_key ∷ (third_key ∷ [])) } ∷ []) }

  -- its second address can't be opened: what there is of it is ended, and the serial stays
  abbrev undoing : List Entry
  undoing = Draft 1 u wide ∷ Made 1 0 0 None ∷ Started 1 0 1 None ∷ Started 1 1 1 (Some second_key) ∷ Abandon 1 ∷ Stopped 1 1 ∷ Stopped 1 0 ∷ Cleaned 1 0 ∷ []

  abbrev failing : List Signed
  failing = first ++ all_by 1 (Begin 1 1 ∷ (undoing ++ Finish 1 ∷ []))

  failing_is_legal : (legal (entries failing) ≡ true) × (are_signed failing ≡ true) × ((state_at failing).serial ≡ 1)
  failing_is_legal = (refl, refl, refl)

  abbrev undone_work : List Placed
  undone_work = on 1 (first ++ signed 1 (Begin 1 1) ∷ []) undoing

  abbrev undone_finish : Placed
  undone_finish = record { before = first ++ all_by 1 (Begin 1 1 ∷ undoing); entry = Finish 1 }

  undoes : Episode 1 (placed 1 failing)
  undoes = record { begin = begin_of_one; work = undone_work; finish = undone_finish; block = []; whole = refl; begins = refl; finishes = refl; retires = refl }

  -- ---- one pass halts while another one has a draft

  abbrev halted_before : List Signed
  halted_before = first ++ (all_by 2 (Begin 2 1 ∷ opening) ++ all_by 1 (Begin 1 1 ∷ []))

  abbrev halt_work : List Placed
  halt_work = on 1 halted_before (Halt 2 ∷ Stopped 0 1 ∷ Stopped 0 0 ∷ [])

  abbrev halt_finished : List Signed
  halt_finished = halted_before ++ all_by 1 (Halt 2 ∷ Stopped 0 1 ∷ Stopped 0 0 ∷ Finish 1 ∷ [])

  abbrev given_up_there : List Signed
  given_up_there = halt_finished ++ all_by 2 (Abandon 1 ∷ Stopped 1 1 ∷ Stopped 1 0 ∷ Cleaned 1 0 ∷ [])

  abbrev halting : List Signed
  halting = given_up_there ++ all_by 2 (Finish 2 ∷ Retire 1 ∷ Cleaned 0 0 ∷ Begin 2 2 ∷ Finish 2 ∷ [])

  halting_is_legal : (legal (entries halting) ≡ true) × (are_signed halting ≡ true)
  halting_is_legal = (refl, refl)

  abbrev halt_begin : Placed
  halt_begin = record { before = first ++ all_by 2 (Begin 2 1 ∷ opening); entry = Begin 1 1 }

  abbrev halt_finish : Placed
  halt_finish = record { before = halted_before ++ all_by 1 (Halt 2 ∷ Stopped 0 1 ∷ Stopped 0 0 ∷ []); entry = Finish 1 }

  halts : Episode 1 (placed 1 halting)
  halts = record { begin = halt_begin; work = halt_work; finish = halt_finish; block = []; whole = refl; begins = refl; finishes = refl; retires = refl }

  halts_all : IsHalting halt_work
  halts_all = record { halt = record { before = halted_before; entry = Halt 2 }; stopping = on 1 (halted_before ++ signed 1 (Halt 2) ∷ []) (Stopped 0 1 ∷ Stopped 0 0 ∷ []); block = []; whole = refl; halts = refl; stops = refl; retires = inl refl }

  abbrev again_begin : Placed
  again_begin = record { before = first; entry = Begin 2 1 }

  abbrev again_opening : List Placed
  again_opening = on 2 (first ++ all_by 2 (Begin 2 1 ∷ [])) opening

  abbrev again_ending : List Placed
  again_ending = on 2 (halt_finished ++ all_by 2 (Abandon 1 ∷ [])) (Stopped 1 1 ∷ Stopped 1 0 ∷ Cleaned 1 0 ∷ [])

  abbrev again_work : List Placed
  again_work = again_opening ++ record { before = halt_finished; entry = Abandon 1 } ∷ again_ending

  abbrev again_finish : Placed
  again_finish = record { before = given_up_there; entry = Finish 2 }

  abbrev again_own : List Placed
  again_own = again_begin ∷ (again_work ++ again_finish ∷ on 2 (given_up_there ++ all_by 2 (Finish 2 ∷ [])) (Retire 1 ∷ Cleaned 0 0 ∷ []))

  -- the halt has superseded serial 1, and this was its last request: its block may follow here, or stand elsewhere
  agains : Episode 2 again_own
  agains = record { begin = again_begin; work = again_work; finish = again_finish; block = on 2 (given_up_there ++ all_by 2 (Finish 2 ∷ [])) (Retire 1 ∷ Cleaned 0 0 ∷ []); whole = refl; begins = refl; finishes = refl; retires = inr refl }

  again_due : due (met again_finish) 2 ≡ Retirement.here_or_elsewhere 1
  again_due = refl

  -- then the request begins in the halted state, where nobody answers
  abbrev dropped_begin : Placed
  dropped_begin = record { before = given_up_there ++ all_by 2 (Finish 2 ∷ Retire 1 ∷ Cleaned 0 0 ∷ []); entry = Begin 2 2 }

  all_of_two : placed 2 halting ≡ again_own ++ (dropped_begin ∷ record { before = given_up_there ++ all_by 2 (Finish 2 ∷ Retire 1 ∷ Cleaned 0 0 ∷ Begin 2 2 ∷ []); entry = Finish 2 } ∷ [])
  all_of_two = refl

  halted_conf : conf_met dropped_begin ≡ Conf.Halted
  halted_conf = refl

-- ---- what is answered for these episodes

-- a list of entries is longer than its beginning
too_short : (front behind work : List Placed) (x : Placed) (n : ℕ) → work ≡ front ++ x ∷ behind → length (placed_entries front) ≡ n → length work ≡ n → ⊥
too_short front behind work x n is many all = omega (arith, ap length is, length-append front (x ∷ behind), length-map front (λ (p : Placed). p.entry), many, all)

-- a list of entries that begins with another list begins with its first entry
first_of : (front behind : List Placed) (x : Placed) (es fs : List Entry) (e f : Entry) → e ∷ es ≡ placed_entries (front ++ x ∷ behind) → placed_entries front ≡ f ∷ fs → e ≡ f
first_of [] behind x es fs e f is opens = absurd (let h : [] ≡ f ∷ fs = opens in cc)
first_of (p ∷ front) behind x es fs e f is opens = cc

-- two configurations with one tree each are the same only with the same tree
same_tree : (t u : Tree) → Conf.Of t ≡ Conf.Of u → t ≡ u
same_tree t u is = cc

wrong_first : (stopping block more : List Placed) (p : Placed) → p ∷ more ≡ stopping ++ block → placed_entries stopping ≡ Stopped 0 1 ∷ Stopped 0 0 ∷ [] → p.entry ≡ Stopped 0 0 → ⊥
wrong_first [] block more p is order first = absurd (let h : [] ≡ Stopped 0 1 ∷ Stopped 0 0 ∷ [] = order in cc)
wrong_first (x ∷ stopping) block more p is order first =
    let h : Stopped 0 0 ≡ Stopped 0 1 = sym first ∙ ap (λ (y : Placed). y.entry) (let i : p ≡ x = cc in i) ∙ (let j : x.entry ≡ Stopped 0 1 = cc in j) in
    cc

module _ (t u : Tree) (q : Request) where
  wrong_order : (x : Placed) (stopping block : List Placed) → on 1 (halted_before t u q) (Halt 2 ∷ Stopped 0 0 ∷ Stopped 0 1 ∷ []) ≡ x ∷ (stopping ++ block) → placed_entries stopping ≡ stopped_of (met x) (met x).serial → ⊥
  wrong_order x stopping block is stops =
      let one : record { before = halted_before t u q; entry = Halt 2 } ≡ x = cc in
      let order : placed_entries stopping ≡ Stopped 0 1 ∷ Stopped 0 0 ∷ [] = stops ∙ ap (λ (p : Placed). stopped_of (met p) (met p).serial) (sym one) in
      let rest : on 1 (halted_before t u q ++ all_by 1 (Halt 2 ∷ [])) (Stopped 0 0 ∷ Stopped 0 1 ∷ []) ≡ stopping ++ block = cc in
      wrong_first stopping block (on 1 (halted_before t u q ++ all_by 1 (Halt 2 ∷ Stopped 0 0 ∷ [])) (Stopped 0 1 ∷ [])) (record { before = halted_before t u q ++ all_by 1 (Halt 2 ∷ []); entry = Stopped 0 0 }) rest order refl

module _ (m : Meaning) (at : Address) (t u : Tree) (q : Request) where
  -- ---- an app answers at the address

  module _ (app : (m.acts t).target at ≡ who.App) where
    -- its answer is that of the configuration that was current at the Begin, with its lines
    served : Answers m 1 at q Kind.served (begin_of_one t u q) [] (finish_of_one t u q) ((m.acts t).answer at q) (map logged ((m.acts t).lines at q ((m.acts t).answer at q))) []
    served = (inl (record { there = app; answer = refl; logs = refl }), refl, refl)

    -- and not that of a configuration that was published since
    served_late : (lines : List Logged) → ((m.acts u).answer at q ≡ (m.acts t).answer at q → ⊥) → IsAnswer m (conf_met (begin_of_one t u q)) at q ((m.acts u).answer at q) lines → ⊥
    served_late lines differ (inl a) = differ a.answer
    served_late lines differ (inr d) = let h : who.App ≡ who.Admin = sym app ∙ d.0.there in cc

    -- somebody answers, so the request is not dropped
    not_dropped : (finish : Placed) → Ends m 1 at q Outcome.dropped (begin_of_one t u q) [] finish nothing_sent → ⊥
    not_dropped finish d = let h : who.App ≡ who.Nobody = sym app ∙ d.0 in cc

  -- nobody answers after the halt, so nothing is sent for the request
  halted : (finish : Placed) → Ends m 2 at q Outcome.halted (dropped_begin t u q) [] finish nothing_sent
  halted finish = (refl, refl, refl, refl)

  halted_with_an_answer : (finish : Placed) → Ends m 2 at q Outcome.halted (dropped_begin t u q) [] finish (only_bytes (65 ∷ [])) → ⊥
  halted_with_an_answer finish d = something_sent 65 [] d.3

  -- it is dropped for that, and not since nobody answers at the address alone
  halted_not_dropped : (finish : Placed) → Ends m 2 at q Outcome.dropped (dropped_begin t u q) [] finish nothing_sent → ⊥
  halted_not_dropped finish d = let h : true ≡ false = d.1 in cc

  running_not_halted : (finish : Placed) → Ends m 1 at q Outcome.halted (begin_of_one t u q) [] finish nothing_sent → ⊥
  running_not_halted finish d = let h : false ≡ true = d.1 in cc

  -- where memory lacks, a request may end with its Finish alone; then nothing was sent for it
  lacking : Ends m 1 at q Outcome.lacking (begin_of_one t u q) [] (finish_of_one t u q) nothing_sent
  lacking = (inr refl, refl)

  lacking_with_a_line : (put : List ℕ) (line : Logged) → Ends m 1 at q Outcome.lacking (begin_of_one t u q) [] (finish_of_one t u q) (record { put = put; lines = line ∷ []; keeps = [] }) → ⊥
  lacking_with_a_line put line b = let h : line ∷ [] ≡ [] = ap (λ (z : Sent). z.lines) b.1 in cc

  -- a request that was begun and not finished has no episode
  unfinished : Episode 1 (begin_of_one t u q ∷ []) → ⊥
  unfinished e = omega (arith, ap length e.whole, length-append e.work (e.finish ∷ e.block))

  -- ---- the admin API answers there

  -- it answers 404, say, and nothing changes
  told : (r : Answer) → Decides m (Conf.Of t) at q (reply r) → Answers m 1 at q Kind.served (begin_of_one t u q) [] (finish_of_one t u q) r [] []
  told r asks = (inr (asks, refl), refl, refl)

  -- ---- another tree is asked for

  module _ (asks : Decides m (Conf.Of t) at q (replace u)) where
    -- there is no draft left
    spent : (finish : Placed) → length (met finish).drafts ≡ MAX_DRAFTS → Answers m 1 at q Kind.spent (begin_of_one t u q) [] finish (fault_answer fault.NoDraftLeft) [] []
    spent finish full = ((u, asks), refl, full, refl, refl, refl)

    not_spent : (r : Answer) → Answers m 1 at q Kind.spent (begin_of_one t u q) [] (finish_of_one t u q) r [] [] → ⊥
    not_spent r s = let h : 2 ≡ MAX_DRAFTS = s.2 in omega (arith, h)

    -- another pass had halted before the draft was given up, so the request is decided again
    again : (planned : m.plan u ≡ Ok site) → IsAgain m 2 at q (again_begin t u q) (again_work t u q) (again_finish t u q)
    again planned = inl (
      u,
      asks,
      record {
        given_up = record {
          draft = 1;
          plan = site;
          opening = again_opening t u q;
          abandon = record { before = halt_finished t u q; entry = Abandon 1 };
          ending = again_ending t u q;
          whole = refl;
          planned = planned;
          opens = refl;
          abandons = refl;
          ends = refl;
        };
        later = omega arith;
      },
    )

    -- without a draft it is not
    not_again : (finish : Placed) → IsAgain m 1 at q (begin_of_one t u q) [] finish → ⊥
    not_again finish (inl a) = omega (arith, ap length a.2.given_up.whole, length-append a.2.given_up.opening (a.2.given_up.abandon ∷ a.2.given_up.ending))
    not_again finish (inr a) =
        let h : replace u ≡ halt = sym asks.comes_to ∙ ap (λ (c : Tree). decided m.plan c q) (same_tree asks.tree a.0.tree (sym asks.runs ∙ a.0.runs)) ∙ a.0.comes_to in
        cc

    -- the draft was published, and its configuration was kept
    pub changed : (planned : m.plan u ≡ Ok site) → Answers m 2 at q Kind.changed (begin_of_two t u q) (work_of_two t u q) (finish_of_two t u q) done [] (keeps_of 2 u)
    changed planned = (
      (
        u,
        asks,
        record {
          draft = 1;
          plan = site;
          opening = on 2 (begun t u q) (opening t u q);
          publish = record { before = opened_there t u q; entry = Publish 1 2 1 (change.Request q) };
          stopping = on 2 (published_there t u q) (Stopped 0 1 ∷ Stopped 0 0 ∷ []);
          whole = refl;
          planned = planned;
          opens = refl;
          publishes = refl;
          stops = refl;
        },
        refl,
      ),
      refl,
      refl,
    )

    -- a draft that was opened and not published is no change
    unpublished : (planned : m.plan u ≡ Ok site) → IsPublished m u q 1 (on 2 (begun t u q) (opening t u q)) → ⊥
    unpublished planned p =
        let same : site ≡ p.plan = let is : Ok site ≡ Ok p.plan = sym planned ∙ p.planned in cc in
        too_short p.opening p.stopping (on 2 (begun t u q) (opening t u q)) p.publish 4 p.whole
        (ap length p.opens ∙ ap (λ (x : Plan). length (Draft p.draft u x ∷ opened p.draft x)) (sym same)) refl

    -- a key could not be opened, and its words are answered
    unopened : (planned : m.plan u ≡ Ok (wide t u q)) → Answers m 1 at q Kind.unopened (begin_of_one t u q) (undone_work t u q) (undone_finish t u q) (fault_answer (fault.CannotOpen (second_key t u q))) [] []
    unopened planned = ((u, second_key t u q, asks, record { draft = 1; plan = wide t u q; failure = Failure.InApp 1 1; planned = planned; whole = refl }, refl), refl, refl)

    -- a draft of another tree is none for this request
    undone_of_another : (other : Tree) (key : Key) → (u ≡ other → ⊥) → IsUndone m other key (undone_work t u q) → ⊥
    undone_of_another other key differ d = differ (let h : Draft 1 u (wide t u q) ≡ Draft d.draft other d.plan = cc in cc)

    -- no configuration could follow, so the draft was given up
    kept : (planned : m.plan u ≡ Ok site) (h : List Signed) (n : ℕ) (why : ChangeFault) → (state_at (through 2 (on 2 h (opening t u q)))).serial ≡ n → no_room (state_at (through 2 (on 2 h (opening t u q)))) ≡ Some why
        → IsKept m u 2 n why (on 2 h (opening t u q) ++ record { before = through 2 (on 2 h (opening t u q)); entry = Abandon 1 } ∷ on 2 h (Stopped 1 1 ∷ Stopped 1 0 ∷ Cleaned 1 0 ∷ []))
    kept planned h n why current refused = record {
      given_up = record {
        draft = 1;
        plan = site;
        opening = on 2 h (opening t u q);
        abandon = record { before = through 2 (on 2 h (opening t u q)); entry = Abandon 1 };
        ending = on 2 h (Stopped 1 1 ∷ Stopped 1 0 ∷ Cleaned 1 0 ∷ []);
        whole = refl;
        planned = planned;
        opens = refl;
        abandons = refl;
        ends = refl;
      };
      place = through 2 (on 2 h (opening t u q));
      after = ([], append-nil (through 2 (on 2 h (opening t u q))));
      before = ([], append-nil (through 2 (on 2 h (opening t u q))));
      current = current;
      refused = refused;
    }

    -- a draft of another tree that was given up is none for this request
    kept_of_another : (other : Tree) (h : List Signed) (n : ℕ) (why : ChangeFault) (es : List Entry) → (u ≡ other → ⊥) → IsKept m other 2 n why (on 2 h (Draft 1 u site ∷ es)) → ⊥
    kept_of_another other h n why es differ k = differ (
        let g = k.given_up in
        let h : Draft 1 u site ≡ Draft g.draft other g.plan = first_of g.opening g.ending g.abandon _ (opened g.draft g.plan) (Draft 1 u site) (Draft g.draft other g.plan) (ap placed_entries g.whole ∙ ap placed_entries (ap (λ (x : Placed). g.opening ++ x ∷ g.ending) refl)) g.opens in
        cc
        )

  -- ---- the halt is asked for

  module _ (asks : Decides m (Conf.Of t) at q halt) where
    halting_answers : Answers m 1 at q Kind.halting (halt_begin t u q) (halt_work t u q) (halt_finish t u q) halted_answer [] []
    halting_answers = (asks, halts_all t u q, refl, refl, refl)

    -- the last app is stopped first
    stopped_in_another_order : IsHalting (on 1 (halted_before t u q) (Halt 2 ∷ Stopped 0 0 ∷ Stopped 0 1 ∷ [])) → ⊥
    stopped_in_another_order i = wrong_order t u q i.halt i.stopping i.block i.whole i.stops

    -- another pass had halted before the Finish
    halted_by_another : IsAgain m 3 at q (record { before = first t u q; entry = Begin 3 1 }) [] (record { before = halt_finished t u q; entry = Finish 3 })
    halted_by_another = inr (asks, refl, refl)

    -- its own halt is none of another pass
    halted_itself : IsAgain m 1 at q (halt_begin t u q) [] (halt_finish t u q) → ⊥
    halted_itself (inl a) = omega (arith, ap length a.2.given_up.whole, length-append a.2.given_up.opening (a.2.given_up.abandon ∷ a.2.given_up.ending))
    halted_itself (inr a) = let h : false ≡ true = a.2 in cc

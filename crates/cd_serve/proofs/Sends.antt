-- What is sent and logged for an answer, and the outcome that it gives.
use Rattle.std.proofs.Common.{◌≡◌, ◌<◌, ◌≤◌, ◌∙◌, ◌++◌, ℕ, Bool, true, false, List, [], ◌∷◌, length, take, Option, Some, None, option_map, inl, inr, refl, ap, sym, subst, arith}
use Rattle.std.specs.Prelude.{map}
use Rattle.std.proofs.lemmas.List.{append-nil, take_all, take-map, length-map}
use Rattle.cd_outside.specs.declared.address.Address.{Address}
use Rattle.cd_outside.specs.declared.given.Given.{Given}
use Rattle.cd_outside.specs.declared.given.Given.TheVariants as given
use Rattle.cd_outside.specs.declared.past.KeepRecord.{KeepRecord}
use Rattle.cd_outside.specs.declared.past.Logged.{Logged}
use Rattle.cd_outside.specs.declared.past.Past.{Past}
use Rattle.cd_outside.specs.Past.{with_connection, after_put, after_keep}
use Rattle.cd_wire.specs.declared.answer.Answer.{Answer}
use Rattle.cd_wire.specs.declared.request.Request.{Request}
use Rattle.cd_legal.specs.Placed.{Placed}
use Rattle.cd_serve.specs.declared.how.How.{How}
use Rattle.cd_serve.specs.declared.how.How.TheVariants as how
use Rattle.cd_module_set.specs.declared.target.Line.{Line}
use Rattle.cd_serve.specs.Meanings.{Meaning, Sent, logged, sent, says_close, IsProperPrefix, only_bytes, nothing_sent, answer_sent, both_sent, after_sending}
use Rattle.cd_serve.specs.Episodes.{Kind, Answers, makes_change}
use Rattle.cd_serve.specs.Requests.{outcome_of, only_lines, only_keeps, Keeps, Sends, IsSent, IsLogged, EndsIn}
use Rattle.cd_serve.proofs.Told.{sent-is, nothing-sent, sent-both, put-sent, line-sent, keep-sent, nothing-put}

-- ---- what is told

pub no-bytes : (told : Option Past) → told ≡ option_map (after_put []) told
no-bytes told = nothing-put told

-- bytes, and then lines
bytes-logged : (q : Request) (r : Answer) (part : List ℕ) (lines : List Logged) (old then new : Option Past) → part ≡ sent q r → then ≡ option_map (after_put part) old → new ≡ option_map (with_connection (after_sending (only_lines lines))) then
    → new ≡ option_map (with_connection (after_sending (answer_sent q r lines []))) old
bytes-logged q r part lines old then new whole one two =
    sent-both (only_bytes part) (only_lines lines) old then new (put-sent part old then one) two
    ∙ ap (λ (s : Sent). option_map (with_connection (after_sending s)) old) (sent-is (part ++ []) (sent q r) lines lines [] [] (append-nil part ∙ whole) refl refl)

-- one line more
pub line-logged : (lines : List Logged) (line : Logged) (all : List Logged) (old then new : Option Past) → then ≡ option_map (with_connection (after_sending (only_lines lines))) old → new ≡ option_map (with_connection (λ c. record c { lines = c.lines ++ line ∷ [] })) then → all ≡ lines ++ line ∷ []
    → new ≡ option_map (with_connection (after_sending (only_lines all))) old
line-logged lines line all old then new one two is =
    sent-both (only_lines lines) (only_lines (line ∷ [])) old then new one (line-sent line then new two)
    ∙ ap (λ (ls : List Logged). option_map (with_connection (after_sending (only_lines ls))) old) (sym is)

as-it-is : (told : Option Past) → option_map (λ p. p) told ≡ told
as-it-is None = refl
as-it-is (Some p) = refl

-- the lane failed at the next one
pub logged-some : (n : ℕ) (lines : List Line) (old then new : Option Past) → n < length lines → then ≡ option_map (with_connection (after_sending (only_lines (map logged (take n lines))))) old → new ≡ option_map (λ p. p) then
    → IsLogged false (map logged lines) old new
logged-some n lines old then new inside past same = record {
  lines = map logged (take n lines);
  past = same ∙ (as-it-is then ∙ past);
  all_are = λ e. absurd (let h : false ≡ true = e in cc);
  fewer = λ e. (n, omega (arith, inside, length-map lines logged), sym (take-map logged n lines));
}

-- all were logged
pub logged-all : (n : ℕ) (lines : List Line) (old new : Option Past) → length lines ≤ n → new ≡ option_map (with_connection (after_sending (only_lines (map logged (take n lines))))) old → IsLogged true (map logged lines) old new
logged-all n lines old new all past = record {
  lines = map logged (take n lines);
  past = past;
  all_are = λ e. ap (map logged) (take_all n lines all);
  fewer = λ e. absurd (let h : true ≡ false = e in cc);
}

-- ---- sending

pub sent-lacking : (q : Request) (r : Answer) (all : List Logged) (old : Option Past) → IsSent how.NoMemory q r all [] old old
sent-lacking q r all old = record { what = nothing_sent; past = nothing-sent old; is = refl }

pub sent-broken : (q : Request) (r : Answer) (all : List Logged) (part bytes : List ℕ) (old new : Option Past) → bytes ≡ sent q r → IsProperPrefix part bytes → new ≡ option_map (after_put part) old → IsSent how.Failed q r all [] old new
sent-broken q r all part bytes old new is cut told = record {
  what = only_bytes part;
  past = put-sent part old new told;
  is = inr (part, subst (λ (b : List ℕ). IsProperPrefix part b) is cut, refl);
}

pub sent-unlogged : (q : Request) (r : Answer) (all : List Logged) (part bytes : List ℕ) (old then new : Option Past) → bytes ≡ sent q r → part ≡ bytes → then ≡ option_map (after_put part) old → IsLogged false all then new → IsSent how.Unlogged q r all [] old new
sent-unlogged q r all part bytes old then new is whole told logs = record {
  what = answer_sent q r logs.lines [];
  past = bytes-logged q r part logs.lines old then new (whole ∙ is) told logs.past;
  is = (logs.lines, logs.fewer refl, refl);
}

pub sent-whole : (q : Request) (r : Answer) (all : List Logged) (part bytes : List ℕ) (close : Bool) (old then new : Option Past) → bytes ≡ sent q r → part ≡ bytes → then ≡ option_map (after_put part) old → IsLogged true all then new → close ≡ says_close q r
    → IsSent (how.Answered close) q r all [] old new
sent-whole q r all part bytes close old then new is whole told logs closes = record {
  what = answer_sent q r logs.lines [];
  past = bytes-logged q r part logs.lines old then new (whole ∙ is) told logs.past;
  is = (ap (λ (lines : List Logged). answer_sent q r lines []) (logs.all_are refl), closes);
}

-- ---- keeping before

-- a lane kept a configuration, or failed to
pub keep-told : (result : Given) (serial : ℕ) (bytes : List ℕ) (old new : Option Past) → new ≡ option_map (after_keep result serial bytes) old → Keeps result (record { put = 0; serial = serial; text = bytes } ∷ []) old new
keep-told given.All serial bytes old new is = keep-sent serial bytes old new is
keep-told given.Failed serial bytes old new is = ((let h : 0 < 1 = omega arith in h), is ∙ as-it-is old)

-- nothing is a part of what is to be kept, where there is some
none-of : {A : Type 0} (xs : List A) → 0 < length xs → IsProperPrefix [] xs
none-of [] some = absurd (omega (arith, some))
none-of (x ∷ xs) some = (0, some, refl)

-- what was kept comes before what was sent of the answer
kept-first : (keeps : List KeepRecord) (put : List ℕ) (lines : List Logged) → ◌≡◌ {A = Sent} (both_sent (only_keeps keeps) (record { put = put; lines = lines; keeps = [] })) (record { put = put; lines = lines; keeps = keeps })
kept-first keeps put lines = ap (λ (all : List KeepRecord). record { put = put; lines = lines; keeps = all }) (append-nil keeps)

sends-after : (keeps : List KeepRecord) (h : How) (q : Request) (r : Answer) (all : List Logged) (s : Sent) → ¬ (h ≡ how.NoMemory) → Sends h q r all [] s → Sends h q r all keeps (both_sent (only_keeps keeps) s)
sends-after keeps (how.Answered close) q r all s made sends = (ap (both_sent (only_keeps keeps)) sends.0 ∙ kept-first keeps (sent q r) all, sends.1)
sends-after keeps how.Unlogged q r all s made sends = (sends.0, sends.1, ap (both_sent (only_keeps keeps)) sends.2 ∙ kept-first keeps (sent q r) sends.0)
sends-after keeps how.Failed q r all s made (inl a) = absurd (let few : a.1.0 < 0 = a.1.1 in omega (arith, few))
sends-after keeps how.Failed q r all s made (inr a) = inr (a.0, a.1, ap (both_sent (only_keeps keeps)) a.2 ∙ kept-first keeps a.0 [])
sends-after keeps how.NoMemory q r all s made sends = absurd (made refl)
sends-after keeps how.Dropped q r all s made sends = sends
sends-after keeps how.Halted q r all s made sends = sends
sends-after keeps how.Worn q r all s made sends = sends

-- an answer that is sent after these were kept
pub sent-after : (keeps : List KeepRecord) (h : How) (q : Request) (r : Answer) (all : List Logged) (old then new : Option Past) → then ≡ option_map (with_connection (after_sending (only_keeps keeps))) old → ¬ (h ≡ how.NoMemory) → IsSent h q r all [] then new
    → IsSent h q r all keeps old new
sent-after keeps h q r all old then new kept made s = record {
  what = both_sent (only_keeps keeps) s.what;
  past = sent-both (only_keeps keeps) s.what old then new kept s.past;
  is = sends-after keeps h q r all s.what made s.is;
}

-- what was to be kept could not be
pub sent-unkept : (keeps : List KeepRecord) (q : Request) (r : Answer) (all : List Logged) (old new : Option Past) → 0 < length keeps → new ≡ old → IsSent how.Failed q r all keeps old new
sent-unkept keeps q r all old new some same = record { what = nothing_sent; past = same ∙ nothing-sent old; is = inl ([], none-of keeps some, refl) }

-- ---- the outcome

module _ (m : Meaning) (k : ℕ) (at : Address) (q : Request) where
  -- an answer of a kind that was sent ends the request; where memory lacked, no change was made
  pub ends-sent : (kind : Kind) (begin : Placed) (work : List Placed) (finish : Placed) (r : Answer) (all : List Logged) (keeps : List KeepRecord) (h : How) (s : Sent) → Answers m k at q kind begin work finish r all keeps → Sends h q r all keeps s → (h ≡ how.NoMemory → makes_change kind ≡ false)
      → EndsIn m k at q (outcome_of h) begin work finish s
  ends-sent kind begin work finish r all keeps (how.Answered close) s a sends made = (kind, r, all, keeps, a, sends.0, sends.1)
  ends-sent kind begin work finish r all keeps how.Unlogged s a sends made = (kind, r, all, sends.0, keeps, a, sends.1, sends.2)
  ends-sent kind begin work finish r all keeps how.Failed s a sends made = inl (kind, r, all, keeps, a, sends)
  ends-sent kind begin work finish r all keeps how.NoMemory s a sends made = (inl (kind, r, all, keeps, a, made refl), sends)
  ends-sent kind begin work finish r all keeps how.Dropped s a sends made = absurd sends
  ends-sent kind begin work finish r all keeps how.Halted s a sends made = absurd sends
  ends-sent kind begin work finish r all keeps how.Worn s a sends made = absurd sends

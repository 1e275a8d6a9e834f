-- What each line does to a reader.
use Rattle.std.proofs.Common.{◌≡◌, ℕ, ◌-◌, ◌<◌, Bool, true, false, List, [], ◌∷◌, ◌++◌, length, get_or, reverse, refl, sym, ap, ◌∙◌, append_assoc, append-nil, arith, Option, Some}
use Rattle.std.specs.Prelude.{codes, Result, Ok, Err, OnOk}
use Rattle.std.proofs.lemmas.List.{reverse-append, get_or-reverse, length-reverse}
use Rattle.cd_caddyfile.specs.Blocks.{Nesting, end, up_to, in_front, opened}
use Rattle.cd_caddyfile.specs.Faults as says
use Rattle.cd_caddyfile.specs.Faults.{sooner, first_fault, faults_of, wrongs, sites_said}
use Rattle.cd_caddyfile.specs.FileSites.{tested}
use Rattle.cd_caddyfile.specs.Going.{Goes}
use Rattle.cd_caddyfile.specs.Left.{innermost, left, left_lines}
use Rattle.cd_caddyfile.specs.Walk.{words_in, inside}
use Rattle.cd_caddyfile.specs.declared.fault.CaddyfileFault.{CaddyfileFault}
use Rattle.cd_caddyfile.specs.declared.fault.CaddyfileKind.TheVariants.{BadBlock}
use Rattle.cd_caddyfile.specs.declared.named.Located.{Located}
use Rattle.cd_caddyfile.specs.declared.named.Named.{Named}
use Rattle.cd_caddyfile.specs.declared.named.TestLine.{TestLine}
use Rattle.cd_caddyfile.specs.declared.notes.Notes.{Notes}
use Rattle.cd_caddyfile.specs.declared.reader.OpenBlock.{OpenBlock}
use Rattle.cd_caddyfile.specs.declared.within.Within.{Within}
use Rattle.cd_caddyfile.specs.declared.within.Within.TheVariants.{File}
use Rattle.cd_caddyfile.proofs.LeftSteps.{open_at, left-says, left-opens, left-closes, left-stray, lines-says, lines-opens, lines-closes, lines-stray}
use Rattle.cd_caddyfile.proofs.Sooner.{sooner-assoc, first_of_both}

-- ---- what is noted, and what is left

-- something more is noted of what is left
taken : {A : Type 0} (old new said whole rest : List A) → new ≡ old ++ said → whole ≡ said ++ rest → old ++ whole ≡ new ++ rest
taken old new said whole rest new-is whole-is = ap (λ w. old ++ w) whole-is ∙ sym (ap (λ n. n ++ rest) new-is ∙ append_assoc old said rest)

blamed : (old new : Option CaddyfileFault) (said whole rest : List CaddyfileFault) → new ≡ sooner old (first_fault said) → whole ≡ said ++ rest →
    sooner old (first_fault whole) ≡ sooner new (first_fault rest)
blamed old new said whole rest new-is whole-is =
    ap (λ w. sooner old w) (ap first_fault whole-is ∙ first_of_both said rest)
    ∙ sym (ap (λ n. sooner n (first_fault rest)) new-is ∙ sooner-assoc old (first_fault said) (first_fault rest))

-- ---- the innermost block

first_inside : (bs : List OpenBlock) (d : OpenBlock) → 0 < length bs → innermost bs ≡ (get_or bs 0 d).inside
first_inside [] d some = absurd (omega arith)
first_inside (b ∷ bs) d some = refl

pub last_inside : (bs : List OpenBlock) (d : OpenBlock) → 0 < length bs → (get_or bs (length bs - 1) d).inside ≡ innermost (reverse bs)
last_inside bs d some =
    let as_many : 0 < length (reverse bs) = omega (arith, length-reverse bs) in
    sym (first_inside (reverse bs) d as_many ∙ ap (λ (b : OpenBlock). b.inside) (get_or-reverse bs 0 d some ∙ ap (λ k. get_or bs k d) (omega arith)))

pub pushed : (bs new : List OpenBlock) (b : OpenBlock) → new ≡ bs ++ b ∷ [] → reverse new ≡ b ∷ reverse bs
pushed bs new b is = ap reverse is ∙ reverse-append bs (b ∷ [])

-- ---- steps

pub record Noted (old new : Notes) (at : Within) (opens : Bool) (n : ℕ) (ws : List (List ℕ)) : Type 0 where
  pub fault : new.fault ≡ sooner old.fault (first_fault (wrongs at opens n ws))
  pub sites : new.sites ≡ old.sites ++ sites_said at opens n ws
  pub defined : new.defined ≡ old.defined ++ says.defined at opens n ws
  pub used : new.used ≡ old.used ++ says.used at opens n ws
  pub tested : new.tested ≡ old.tested ++ tested at opens n ws

-- something was said, and the open blocks are others
pub said_on : (old new : Notes) (bs bs' : List OpenBlock) (at : Within) (opens : Bool) (n : ℕ) (ws : List (List ℕ)) (before after : Nesting) →
    Noted old new at opens n ws →
    ((A : Type 0) (said : Within → Bool → ℕ → List (List ℕ) → List A) → left said (reverse bs) before ≡ said at opens n ws ++ left said (reverse bs') after) →
    left_lines (reverse bs) before ≡ left_lines (reverse bs') after →
    Goes (record { notes = old; blocks = bs }) (record { notes = new; blocks = bs' }) before after
said_on old new bs bs' at opens n ws before after noted step lines = record {
  fault = blamed old.fault new.fault (wrongs at opens n ws) _ _ noted.fault (step CaddyfileFault wrongs);
  sites = taken old.sites new.sites (sites_said at opens n ws) _ _ noted.sites (step Located sites_said);
  defined = taken old.defined new.defined (says.defined at opens n ws) _ _ noted.defined (step Named says.defined);
  used = taken old.used new.used (says.used at opens n ws) _ _ noted.used (step Named says.used);
  tested = taken old.tested new.tested (tested at opens n ws) _ _ noted.tested (step TestLine tested);
  open_lines = lines;
}

-- the facts of a call that notes a line
pub all_noted : {A E : Type 0} (r : Result A E) (old new : Notes) (at : Within) (opens : Bool) (n : ℕ) (ws : List (List ℕ)) →
    OnOk r (new.fault ≡ sooner old.fault (first_fault (wrongs at opens n ws))) → OnOk r (new.sites ≡ old.sites ++ sites_said at opens n ws) →
    OnOk r (new.defined ≡ old.defined ++ says.defined at opens n ws) → OnOk r (new.used ≡ old.used ++ says.used at opens n ws) →
    OnOk r (new.tested ≡ old.tested ++ tested at opens n ws) → OnOk r (Noted old new at opens n ws)
all_noted (Ok value) old new at opens n ws a b c d e = record { fault = a; sites = b; defined = c; used = d; tested = e }
all_noted (Err error) old new at opens n ws a b c d e = tt

pub says_on : (old new : Notes) (bs : List OpenBlock) (at : Within) (n : ℕ) (ws read : List (List ℕ)) (after : Nesting) →
    at ≡ innermost (reverse bs) → read ≡ words_in at ws → Noted old new at false n read →
    Goes (record { notes = old; blocks = bs }) (record { notes = new; blocks = bs }) (in_front n ws after) after
says_on old new bs at n ws read after at-is read-is noted = said_on old new bs bs at false n read (in_front n ws after) after noted
    (λ A said. left-says said (reverse bs) n ws after
    ∙ (ap (λ w. said w false n (words_in w ws) ++ left said (reverse bs) after) (sym at-is)
    ∙ ap (λ r. said at false n r ++ left said (reverse bs) after) (sym read-is)))
    (lines-says (reverse bs) n ws after)

pub opens_on : (old new : Notes) (bs bs' : List OpenBlock) (at within : Within) (n : ℕ) (ws read : List (List ℕ)) (after : Nesting) →
    at ≡ innermost (reverse bs) → read ≡ words_in at ws → within ≡ inside at n read → bs' ≡ bs ++ open_at n within ∷ [] → Noted old new at true n read →
    Goes (record { notes = old; blocks = bs }) (record { notes = new; blocks = bs' }) (opened n ws after) after
opens_on old new bs bs' at within n ws read after at-is read-is within-is bs-is noted =
    let turned = pushed bs bs' (open_at n within) bs-is in
    said_on old new bs bs' at true n read (opened n ws after) after noted
    (λ A said. left-opens said (reverse bs) n ws after
    ∙ (ap (λ w. said w true n (words_in w ws) ++ left said (open_at n (inside w n (words_in w ws)) ∷ reverse bs) after) (sym at-is)
    ∙ (ap (λ r. said at true n r ++ left said (open_at n (inside at n r) ∷ reverse bs) after) (sym read-is)
    ∙ (ap (λ w. said at true n read ++ left said (open_at n w ∷ reverse bs) after) (sym within-is)
    ∙ ap (λ b. said at true n read ++ left said b after) (sym turned)))))
    (lines-opens (reverse bs) n within ws after ∙ ap (λ b. left_lines b after) (sym turned))

closed : {A : Type 0} (said : Within → Bool → ℕ → List (List ℕ) → List A) (bs bs' : List OpenBlock) (b : OpenBlock) (n : ℕ) (after : Nesting) → bs ≡ bs' ++ b ∷ [] →
    left said (reverse bs) (up_to end n after) ≡ left said (reverse bs') after
closed said bs bs' b n after is = ap (λ x. left said x (up_to end n after)) (pushed bs' bs b is) ∙ left-closes said b (reverse bs') n after

pub closes_on : (notes : Notes) (bs bs' : List OpenBlock) (b : OpenBlock) (n : ℕ) (after : Nesting) → bs ≡ bs' ++ b ∷ [] →
    Goes (record { notes = notes; blocks = bs }) (record { notes = notes; blocks = bs' }) (up_to end n after) after
closes_on notes bs bs' b n after is = record {
  fault = ap (λ l. sooner notes.fault (first_fault l)) (closed wrongs bs bs' b n after is);
  sites = ap (λ l. notes.sites ++ l) (closed sites_said bs bs' b n after is);
  defined = ap (λ l. notes.defined ++ l) (closed says.defined bs bs' b n after is);
  used = ap (λ l. notes.used ++ l) (closed says.used bs bs' b n after is);
  tested = ap (λ l. notes.tested ++ l) (closed tested bs bs' b n after is);
  open_lines = ap (λ x. left_lines x (up_to end n after)) (pushed bs' bs b is) ∙ lines-closes b (reverse bs') n after;
}

pub strays_on : (old new : Notes) (bs bs' : List OpenBlock) (n : ℕ) (after : Nesting) → bs ≡ [] → bs' ≡ [] →
    new.fault ≡ sooner old.fault (first_fault (faults_of n (Some BadBlock))) → new.sites ≡ old.sites → new.defined ≡ old.defined → new.used ≡ old.used → new.tested ≡ old.tested →
    Goes (record { notes = old; blocks = bs }) (record { notes = new; blocks = bs' }) (up_to end n after) after
strays_on old new bs bs' n after none none' fault-is sites-is defined-is used-is tested-is =
    said_on old new bs bs' File false n (codes "}" ∷ []) (up_to end n after) after
    (record {
      fault = fault-is;
      sites = sites-is ∙ sym (append-nil old.sites);
      defined = defined-is ∙ sym (append-nil old.defined);
      used = used-is ∙ sym (append-nil old.used);
      tested = tested-is ∙ sym (append-nil old.tested);
    })
    (λ A said. ap (λ b. left said (reverse b) (up_to end n after)) none
    ∙ (left-stray said n after ∙ ap (λ b. said File false n (codes "}" ∷ []) ++ left said (reverse b) after) (sym none')))
    (ap (λ b. left_lines (reverse b) (up_to end n after)) none ∙ (lines-stray n after ∙ ap (λ b. left_lines (reverse b) after) (sym none')))

-- The steps on the table by which passes come, go and tell one another, and its beginning.
use Rattle.std.proofs.Common.{◌≡◌, ℕ, suc, ◌+◌, ◌<◌, true, false, List, [], ◌∷◌, length, set, replicate, refl, sym, ap, ◌∙◌, subst, Some, arith}
use Rattle.std.proofs.lemmas.List.{set-get_or, length-replicate}
use mathlib.Core.Option.{none, some}
use Rattle.atomic_table.specs.Table.{step, keeps, Allows, Splits, Joins, opening}
use Rattle.atomic_table.proofs.Lists.{set_else}
use Rattle.cd_legal.specs.declared.entry.Signed.{Signed}
use Rattle.cd_legal.specs.declared.limits.TheConstants.{MAX_PASSES, MAX_UNRETIRED}
use Rattle.cd_legal.specs.Owing.{owes_nothing}
use Rattle.cd_gate.specs.declared.table.TheConstants.{SERIAL_WORD, TURN_WORD, HISTORY_WORD, FULL_BALANCE, WORD_COUNT}
use Rattle.cd_gate.specs.declared.view.View.{View}
use Rattle.cd_gate.specs.Words.{Slot, owed, first_balances}
use Rattle.cd_gate.specs.Steps.{splitting, split_off, joining, spent_view, messenger, told, compared, first_view}
use Rattle.cd_gate.specs.Tables.{Holds, moment_of, has_compared, first_words}
use Rattle.cd_gate.proofs.Seats.{splits, joins}
use Rattle.cd_gate.proofs.Telling.{copies, hands_over, compares}
use Rattle.cd_gate.proofs.Starting.{begins_by_rule}
use Rattle.cd_gate.proofs.Tabled.{Table, AtSeat, home_is}

first_count : length first_balances ≡ 1 + MAX_UNRETIRED
unfolding first_balances
first_count = length-replicate (1 + MAX_UNRETIRED) FULL_BALANCE

set_three : (n x : ℕ) → set (set (set (replicate (suc (suc (suc n))) x) 0 0) 1 0) 2 0 ≡ 0 ∷ 0 ∷ 0 ∷ replicate n x
set_three n x = refl

-- the words at the beginning, written one after another
pub words_written : set (set (set (replicate WORD_COUNT FULL_BALANCE) SERIAL_WORD 0) TURN_WORD 0) HISTORY_WORD 0 ≡ first_words
unfolding first_balances
words_written = set_three (1 + MAX_UNRETIRED) FULL_BALANCE

module _ {T : Type 0} (stands : T → T → List Signed → Type 0) (first : T) where
  abbrev Rule : Table T → Type 0
  Rule = Holds stands first

  -- ---- seats

  pub hands_out : (id : ℕ) (v : View T) → v.live ≡ true → v.number ≡ 0 → v.made < MAX_PASSES → Splits Rule id v (splitting v) (split_off v)
  hands_out id v live number room s r at = record {
    log = r.log;
    slot = r.slot;
    kept = splits stands first r.log (moment_of s r.slot) r.kept id v at live number room;
    wide = r.wide;
    deep = r.deep;
    home = r.home;
  }

  pub takes_in : (id : ℕ) (v : View T) (other : ℕ) (w : View T) → v.live ≡ true → v.number ≡ 0 → w.live ≡ true → w.turn ≡ false → owed w ≡ owes_nothing → w.duties ≡ [] → Joins Rule id v other w (joining v w) spent_view
  takes_in id v other w live number live' idle free no_duty s r at apart there = record {
    log = r.log;
    slot = r.slot;
    kept = joins stands first r.log (moment_of s r.slot) r.kept id v other w at (sym (set_else s.views id other (joining v w) apart) ∙ there) apart live number live' idle free no_duty;
    wide = r.wide;
    deep = r.deep;
    home = r.home;
  }

  pub sends_out : (id : ℕ) (v : View T) → Splits Rule id v v (messenger v.seen)
  sends_out id v s r at = record {
    log = r.log;
    slot = r.slot;
    kept = copies stands first r.log (moment_of s r.slot) r.kept id v at;
    wide = r.wide;
    deep = r.deep;
    home = r.home;
  }

  pub hears : (id : ℕ) (v : View T) (other : ℕ) (w : View T) → w.live ≡ false → Joins Rule id v other w (told v w) spent_view
  hears id v other w dead s r at apart there = record {
    log = r.log;
    slot = r.slot;
    kept = hands_over stands first r.log (moment_of s r.slot) r.kept id v other w at (sym (set_else s.views id other (told v w) apart) ∙ there) apart dead;
    wide = r.wide;
    deep = r.deep;
    home = r.home;
  }

  pub compares_lists : (slots id : ℕ) (m : AtSeat T) → Allows Rule slots id m SERIAL_WORD (λ n. n) (has_compared (step slots SERIAL_WORD 0 0 none) m)
  compares_lists slots id m s r deep at low =
      let v : View T = m.0 in
      let w : View T = compared v in (
        w,
        keeps,
        tt,
        subst (λ (ws : List ℕ). Rule record { words = ws; homes = s.homes; views = set s.views id w }) (sym (set-get_or s.words SERIAL_WORD 0)) record {
          log = r.log;
          slot = r.slot;
          kept = compares stands first r.log (moment_of s r.slot) r.kept id v at;
          wide = r.wide;
          deep = r.deep;
          home = r.home;
        },
        (refl, (r.kept.each id v at).older),
      )

  -- ---- the beginning

  pub starts : stands first first [] → Rule (opening first_words (Some first ∷ []) (first_view first))
  starts board = record {
    log = [];
    slot = Slot.Home first;
    kept = begins_by_rule stands first board;
    wide = let count = first_count in omega (arith, count);
    deep = refl;
    home = λ b e. ap (λ (z : T). some (some (Some z))) (home_is first b e);
  }

-- A gate begins by the rule.
use Rattle.std.proofs.Common.{◌≡◌, inl, ℕ, zero, suc, ◌+◌, ◌<◌, ◌≤◌, List, [], ◌∷◌, get_or, None, refl, sym, ap, ◌∙◌, subst, arith}
use Rattle.std.proofs.lemmas.List.{get_or-replicate, length-replicate}
use lib.ListN.{get_elem?, replicate}
use mathlib.Core.Option.{some, some-ne-none, some-injective}
use Rattle.cd_legal.specs.declared.entry.Signed.{Signed}
use Rattle.cd_gate.specs.declared.table.TheConstants.{FULL_BALANCE}
use Rattle.cd_legal.specs.declared.limits.TheConstants.{MAX_UNRETIRED}
use Rattle.cd_legal.specs.State.{opening_state, has_number}
use Rattle.cd_gate.specs.declared.view.View.{View}
use Rattle.cd_gate.specs.Counts.{Ordered, place_of, Counts, begins_in}
use Rattle.cd_gate.specs.Duties.{is_settled}
use Rattle.cd_gate.specs.Rule.{Fits, Numbered, IsKept}
use Rattle.cd_gate.specs.Steps.{first_view}
use Rattle.cd_gate.specs.Words.{Slot, first_balances}
use Rattle.cd_gate.proofs.Balances.{settled_low, place_in}
use Rattle.cd_gate.proofs.Frames.{none_some}
use Rattle.cd_gate.proofs.Numbers.{off}
use Rattle.cd_legal.proofs.Histories.{first}

not_low : (n : ℕ) → n < 0 → ⊥
not_low n low = absurd (omega arith)

-- serial 0 is current, and its balance was made ready
pub first_order : Ordered opening_state None 0
first_order = record {
  last = λ n is. absurd (none_some None n refl is);
  fresh = λ n is. absurd (none_some None n refl is);
  stopped = λ n is. absurd (not_low n (settled_low opening_state None n is));
  low = omega arith;
  high = omega arith;
  reused = λ n le. absurd (omega arith);
  room = omega arith;
  ready_alone = λ _. refl;
}

-- each balance is full, and nothing has begun
pub first_counts : Counts 0 first_balances opening_state None 0 (begins_in [])
unfolding first_balances
first_counts = record {
  packed_is = refl;
  range = length-replicate (1 + MAX_UNRETIRED) FULL_BALANCE;
  whole = λ n le used un. at_start (get_or (replicate (1 + MAX_UNRETIRED) FULL_BALANCE) (place_of opening_state n) 0) (get_or-replicate (1 + MAX_UNRETIRED) (place_of opening_state n) FULL_BALANCE 0 (place_in opening_state n));
  settled = λ n used is. absurd (not_low n (settled_low opening_state None n is));
  unused = λ n above few. get_or-replicate (1 + MAX_UNRETIRED) (1 + n) FULL_BALANCE 0 (omega (arith, few));
  coming = λ ready. absurd (off ready);
  halting = λ _. get_or-replicate (1 + MAX_UNRETIRED) 0 FULL_BALANCE 0 (omega arith);
  few = λ n un. omega arith;
  unbegun = λ n low. refl;
}
  where
    at_start : (g : ℕ) → g ≡ FULL_BALANCE → g + 0 ≡ FULL_BALANCE + 0
    at_start g e = omega arith

module _ {T : Type 0} (stands : T → T → List Signed → Type 0) (b : T) where
  abbrev views : List (View T)
  views = first_view b ∷ []

  only : (j : ℕ) (u : View T) → get_elem? views j ≡ some u → (j ≡ 0) × (first_view b ≡ u)
  only zero u e = (refl, some-injective _ _ e)
  only (suc j) u e = absurd (some-ne-none u (sym e))

  first_fits : Fits b 0 [] None 0 (first_view b)
  first_fits = record {
    opened = λ _. refl;
    seen = ([], refl);
    older = λ i l e. absurd (some-ne-none l (sym e));
    own = λ _. refl;
    own_seen = λ _. refl;
    owes = λ _. refl;
    holds = λ has. absurd (off has);
    waits = λ _. (refl, refl);
    begun = λ l is. absurd (none_some None l refl is);
    lends = λ l is on. absurd (none_some None l refl is);
    checks = λ h. absurd (off h);
  }

  first_numbers : Numbered [] views
  first_numbers = record {
    root = first_view b;
    root_at = refl;
    root_is = (refl, refl);
    few = omega arith;
    apart = λ i j v w ev ew lv lw same. (only i v ev).0 ∙ sym (only j w ew).0;
    below = λ i v e live. let same : 0 ≡ v.number = ap (λ (z : View T). z.number) (only i v e).1 in let h : v.number < 1 = omega arith in h;
    gone = λ i g e. absurd (some-ne-none g (sym e));
    known = λ k low. inl (0, first_view b, refl, refl, let h : 0 ≡ k = omega arith in h);
    unmade = λ k le. refl;
  }

  pub begins_by_rule : stands b b [] → IsKept stands b [] (record { packed = 0; turn = 0; counted = 0; balances = first_balances; board = Slot.Home b; views = views })
  begins_by_rule at_start = record {
    unsettled = None;
    edge = 0;
    history = record { is_legal = refl; is_signed = refl };
    counted = refl;
    order = first_order;
    counts = first_counts;
    crowd = record { few = λ u e. subst (λ (z : ℕ). 1 ≤ z) (ap (λ (z : View T). z.made) (some-injective _ _ e)) (omega arith); room = λ u e. omega arith };
    each = λ j u e. subst (Fits b 0 [] None 0) (only j u e).1 first_fits;
    numbers = first_numbers;
    duties = record {
      sound = λ j u n e live h. absurd (off (ap (λ (z : View T). has_number n z.duties) (only j u e).1 ∙ h));
      one = λ i j v w n ev ew lv lw hv hw. (only i v ev).0 ∙ sym (only j w ew).0;
      whole = λ n may. absurd (not_low n (settled_low opening_state None n (first (is_settled opening_state None n) _ may)));
    };
    free = λ _. ((b, refl, at_start), refl, refl, refl);
    taken = λ more. absurd (omega arith);
  }

-- What is counted of connections that ended: each mishap has its cause.
use Rattle.std.proofs.Common.{◌≡◌, ◌≤◌, ◌<◌, ◌∙◌, ◌+◌, ℕ, Bool, true, false, cond, refl, sym, arith}
use Rattle.cd_outside.specs.Counts.{count_end, Covers}
use Rattle.cd_session.specs.declared.cause.Cause.{Cause}
use Rattle.cd_session.specs.declared.cause.Cause.TheVariants as cause
use Rattle.cd_session.specs.Ends.{CausedBy, HasRisen, cut_by}
use Rattle.cd_session.specs.Ways.{Way, is_interrupted, is_faulted}

pub covers-more : (c : Cause) (early : Bool) (interruptions f0 f1 f2 f3 cut : ℕ) → (c ≡ cause.Whole → early ≡ false) → Covers interruptions f0 f1 cut → f1 ≤ f2 → HasRisen c f2 f3 → Covers (interruptions + cond early 1 0) f0 f3 (cut_by c cut)
covers-more cause.Whole true interruptions f0 f1 f2 f3 cut whole covers le rose = absurd (let h : true ≡ false = whole refl in cc)
covers-more cause.Whole false interruptions f0 f1 f2 f3 cut whole covers le rose = λ a b. let h : f1 < count_end = omega (arith, le, rose) in omega (arith, covers h b, le, rose)
covers-more cause.Failed true interruptions f0 f1 f2 f3 cut whole covers le rose = λ a b. let h : f1 < count_end = omega (arith, le, rose.1) in omega (arith, covers h b, le, rose.0, rose.1)
covers-more cause.Failed false interruptions f0 f1 f2 f3 cut whole covers le rose = λ a b. let h : f1 < count_end = omega (arith, le, rose.1) in omega (arith, covers h b, le, rose.0, rose.1)
covers-more cause.Lacking true interruptions f0 f1 f2 f3 cut whole covers le rose = λ a b. let h : f1 < count_end = omega (arith, le, rose) in let c : cut < count_end = omega arith in omega (arith, covers h c, le, rose)
covers-more cause.Lacking false interruptions f0 f1 f2 f3 cut whole covers le rose = λ a b. let h : f1 < count_end = omega (arith, le, rose) in let c : cut < count_end = omega arith in omega (arith, covers h c, le, rose)

-- without the memory that a connection lacked
pub faults-more : (c : Cause) (faulted : Bool) (interruptions f0 f1 f2 f3 : ℕ) → (faulted ≡ true → c ≡ cause.Failed) → Covers interruptions f0 f1 0 → f1 ≤ f2 → HasRisen c f2 f3 → Covers (interruptions + cond faulted 1 0) f0 f3 0
faults-more cause.Failed true interruptions f0 f1 f2 f3 failed covers le rose = λ a b. let h : f1 < count_end = omega (arith, le, rose.1) in omega (arith, covers h b, le, rose.0, rose.1)
faults-more cause.Failed false interruptions f0 f1 f2 f3 failed covers le rose = λ a b. let h : f1 < count_end = omega (arith, le, rose.1) in omega (arith, covers h b, le, rose.0, rose.1)
faults-more cause.Whole true interruptions f0 f1 f2 f3 failed covers le rose = absurd (let h : cause.Whole ≡ cause.Failed = failed refl in cc)
faults-more cause.Whole false interruptions f0 f1 f2 f3 failed covers le rose = λ a b. let h : f1 < count_end = omega (arith, le, rose) in omega (arith, covers h b, le, rose)
faults-more cause.Lacking true interruptions f0 f1 f2 f3 failed covers le rose = absurd (let h : cause.Lacking ≡ cause.Failed = failed refl in cc)
faults-more cause.Lacking false interruptions f0 f1 f2 f3 failed covers le rose = λ a b. let h : f1 < count_end = omega (arith, le, rose) in omega (arith, covers h b, le, rose)

pub cut-more : (c : Cause) (early : Bool) (cut earlies : ℕ) → (c ≡ cause.Lacking → early ≡ true) → cut ≤ earlies → cut_by c cut ≤ earlies + cond early 1 0
cut-more cause.Whole early cut earlies lacking le = omega (arith, le)
cut-more cause.Failed early cut earlies lacking le = omega (arith, le)
cut-more cause.Lacking true cut earlies lacking le = omega (arith, le)
cut-more cause.Lacking false cut earlies lacking le = absurd (let h : false ≡ true = lacking refl in cc)

-- the causes of a way
pub caused-whole : (c : Cause) (way : Way) → CausedBy c way → c ≡ cause.Whole → is_interrupted way ≡ false
caused-whole cause.Whole way caused is = caused
caused-whole cause.Failed way caused is = absurd (let h : cause.Failed ≡ cause.Whole = is in cc)
caused-whole cause.Lacking way caused is = absurd (let h : cause.Lacking ≡ cause.Whole = is in cc)

pub caused-lacking : (c : Cause) (way : Way) → CausedBy c way → c ≡ cause.Lacking → is_interrupted way ≡ true
caused-lacking cause.Lacking way caused is = caused.0
caused-lacking cause.Whole way caused is = absurd (let h : cause.Whole ≡ cause.Lacking = is in cc)
caused-lacking cause.Failed way caused is = absurd (let h : cause.Failed ≡ cause.Lacking = is in cc)

-- only an interrupted way is faulted
faulted-interrupted : (way : Way) → is_faulted way ≡ true → is_interrupted way ≡ true
faulted-interrupted (Way.interrupted break) is = refl
faulted-interrupted Way.clean is = absurd (let h : false ≡ true = is in cc)
faulted-interrupted Way.truncated is = absurd (let h : false ≡ true = is in cc)
faulted-interrupted Way.closed is = absurd (let h : false ≡ true = is in cc)
faulted-interrupted Way.dropped is = absurd (let h : false ≡ true = is in cc)
faulted-interrupted Way.halted is = absurd (let h : false ≡ true = is in cc)
faulted-interrupted Way.worn is = absurd (let h : false ≡ true = is in cc)
faulted-interrupted (Way.refused fault) is = absurd (let h : false ≡ true = is in cc)

pub caused-failed : (c : Cause) (way : Way) → CausedBy c way → is_faulted way ≡ true → c ≡ cause.Failed
caused-failed cause.Failed way caused is = refl
caused-failed cause.Whole way caused is = absurd (let h : true ≡ false = sym (faulted-interrupted way is) ∙ caused in cc)
caused-failed cause.Lacking way caused is = absurd (let h : true ≡ false = sym is ∙ caused.1 in cc)

pub covers-same : (a b f0 f1 cut : ℕ) → a ≡ b → Covers b f0 f1 cut → Covers a f0 f1 cut
covers-same a b f0 f1 cut is covers = λ x y. omega (arith, covers x y, is)

-- a fault that rose later has risen since before
pub risen-later : (c : Cause) (f0 f1 f2 : ℕ) → f0 ≤ f1 → HasRisen c f1 f2 → HasRisen c f0 f2
risen-later cause.Whole f0 f1 f2 le rose = omega arith
risen-later cause.Failed f0 f1 f2 le rose = (omega (arith, rose.0, rose.1, le), omega (arith, rose.1, le))
risen-later cause.Lacking f0 f1 f2 le rose = omega arith

-- what would need a halted host where none has halted found none
pub never-halted : (found : Bool) → (found ≡ true → false ≡ true) → found ≡ false
never-halted false by = refl
never-halted true by = sym (by refl)

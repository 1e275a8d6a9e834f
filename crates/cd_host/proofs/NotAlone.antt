-- A lane that has halted the host has signed something.
use Rattle.std.proofs.Common.{◌≡◌, ◌≤◌, ◌+◌, ℕ, zero, suc, eq-eqb, ◌==◌, ◌||◌, ◌&&◌, not, Bool, true, false, cond, List, [], ◌∷◌, refl, ap, sym, ◌∙◌, ⊎_elim, arith}
use Rattle.std.proofs.lemmas.Bool.Decides.{eqb_tells}
use Rattle.cd_legal.specs.declared.entry.Signed.{Signed}
use Rattle.cd_legal.specs.Entry.{mine}
use Rattle.cd_legal.proofs.Logs.{mine-append}
use Rattle.cd_serve.specs.Episodes.{is_halt, another_halted}
use Rattle.cd_host.specs.Parts.{IsAlone}
use Rattle.cd_host.proofs.Signing.{none-right}

later-halted : (b c r : Bool) → c ≡ true → ((b && not c) || r) ≡ true → r ≡ true
later-halted true true r is h = h
later-halted false true r is h = h
later-halted b false r is h = absurd (let e : false ≡ true = is in cc)

not-zero : (n : ℕ) → (n == 0) ≡ false → 1 ≤ n
not-zero zero is = absurd (let e : true ≡ false = is in cc)
not-zero (suc n) is = omega arith

-- who signs the first entry has signed something
signs-first : (x : Signed) (xs : List Signed) → mine x.by (x ∷ xs) ≡ [] → ⊥
signs-first x xs none =
    let is : mine x.by (x ∷ xs) ≡ x ∷ mine x.by xs = ap (λ (b : Bool). cond b (x ∷ mine x.by xs) (mine x.by xs)) (eq-eqb x.by x.by refl) in
    let e : x ∷ mine x.by xs ≡ [] = sym is ∙ none in
    cc

pub halts-not-alone : (log : List Signed) → another_halted 0 log ≡ true → IsAlone log → ⊥
halts-not-alone [] halted alone = let e : false ≡ true = halted in cc
halts-not-alone (x ∷ xs) halted alone = ⊎_elim
    (λ program. halts-not-alone xs (later-halted (is_halt x.entry) (x.by == 0) (another_halted 0 xs) program.0 halted)
    (λ k pos. none-right (mine k (x ∷ [])) (mine k xs) (sym (mine-append k (x ∷ []) xs) ∙ alone k pos)))
    (λ other. signs-first x xs (alone x.by (not-zero x.by other.0)))
    (eqb_tells x.by 0)

-- Lanes that save are the lanes that they hold, with their shares.
use Rattle.std.proofs.Common.{◌≡◌, ◌<◌, ℕ, zero, suc, ◌+◌, List, [], ◌∷◌, All, length, map, slice_index_or, Option, sum, sum_by, refl, sym, ap, ◌∙◌, subst, arith}
use Rattle.std.proofs.lemmas.List.Sums.{sum_by-cons}
use Rattle.cd_outside.specs.declared.past.Past.{Past}
use Rattle.cd_serve.specs.Reports.{Span}
use Rattle.cd_host.specs.Seated.{spans, span_of}
use Rattle.cd_saved.specs.Shares.{with_shares}

module _ {W L : Type 0} (faults : L → ℕ) (past : L → Option Past) (since : L → Option (List ℕ)) (lane : W → L) (amount : W → ℕ) where
  -- a lane that saves has failed as often as the lane that it holds and its saves have
  abbrev failed : W → ℕ
  failed w = faults (lane w) + amount w

  abbrev told : W → Option Past
  told w = past (lane w)

  abbrev since_of : W → Option (List ℕ)
  since_of w = since (lane w)

  pub shared-spans : (olds news : List W) → length news ≡ length olds → All (λ w. amount w ≡ 0) olds
      → spans failed told since_of olds news ≡ with_shares (spans faults past since (map lane olds) (map lane news)) (map amount news)
  shared-spans [] news same none = refl
  shared-spans (old ∷ olds) [] same none = absurd (omega (arith, same))
  shared-spans (old ∷ olds) (new ∷ news) same none =
      let nothing : amount old ≡ 0 = none 0 old (omega arith) in
      let before : faults (lane old) + amount old ≡ faults (lane old) = omega (arith, nothing) in
      ap (λ (n : ℕ). record { told_before = past (lane old); told_now = past (lane new); since_before = since (lane old); since_now = since (lane new); failed_before = n; failed_now = faults (lane new) + amount new } ∷ spans failed told since_of olds news) before
      ∙ ap (λ l. record { told_before = past (lane old); told_now = past (lane new); since_before = since (lane old); since_now = since (lane new); failed_before = faults (lane old); failed_now = faults (lane new) + amount new } ∷ l) (shared-spans olds news (omega (arith, same)) (λ i d less. none (suc i) d (omega (arith, less))))

  pub amounts : (ws : List W) → sum (map amount ws) ≡ sum_by amount ws
  amounts [] = refl
  amounts (w ∷ ws) = sum_by-cons (λ n. n) (amount w) (map amount ws) ∙ ap (λ (n : ℕ). amount w + n) (amounts ws) ∙ sym (sum_by-cons amount w ws)

  pub longs : {A : Type 0} (f : W → A) (ws : List W) → length (map f ws) ≡ length ws
  longs f [] = refl
  longs f (w ∷ ws) = let more = longs f ws in omega (arith, more)

  pub counted : (olds news : List W) → length news ≡ length olds → length (map amount news) ≡ length (spans faults past since (map lane olds) (map lane news))
  counted [] [] same = refl
  counted [] (new ∷ news) same = absurd (omega (arith, same))
  counted (old ∷ olds) [] same = absurd (omega (arith, same))
  counted (old ∷ olds) (new ∷ news) same = let more = counted olds news (omega (arith, same)) in omega (arith, more)

  pub shared-lanes : (olds news befores nows : List W) (ols nls : List L) → befores ≡ olds → nows ≡ news → map lane olds ≡ ols → nls ≡ map lane news
      → length news ≡ length olds → All (λ w. amount w ≡ 0) olds → spans failed told since_of befores nows ≡ with_shares (spans faults past since ols nls) (map amount news)
  shared-lanes olds news befores nows ols nls before now old_are new_are same none =
      ap (λ l. spans failed told since_of l nows) before
      ∙ ap (λ l. spans failed told since_of olds l) now
      ∙ shared-spans olds news same none
      ∙ ap (λ l. with_shares (spans faults past since l (map lane news)) (map amount news)) old_are
      ∙ ap (λ l. with_shares (spans faults past since ols l) (map amount news)) (sym new_are)

  pub counted-lanes : (olds news : List W) (ols nls : List L) → map lane olds ≡ ols → nls ≡ map lane news → length news ≡ length olds
      → length (map amount news) ≡ length (spans faults past since ols nls)
  counted-lanes olds news ols nls old_are new_are same =
      counted olds news same
      ∙ ap (λ l. length (spans faults past since l (map lane news))) old_are
      ∙ ap (λ l. length (spans faults past since ols l)) (sym new_are)

-- what each has that each holds
all-cons : {W : Type 0} (Q : W → Type 0) (w : W) (ws : List W) → Q w → All Q ws → (k : ℕ) (d : W) → k < length (w ∷ ws) → Q (slice_index_or (w ∷ ws) k d)
all-cons Q w ws first others zero d less = first
all-cons Q w ws first others (suc k) d less = others k d (omega (arith, less))

pub all-under : {W L : Type 0} (f : W → L) (P : L → Type 0) (ws : List W) → All P (map f ws) → All (λ w. P (f w)) ws
all-under f P [] all = λ k d less. absurd (omega (arith, less))
all-under f P (w ∷ ws) all = all-cons (λ v. P (f v)) w ws (all 0 (f w) (omega arith)) (all-under f P ws (λ i e low. all (suc i) e (omega (arith, low))))

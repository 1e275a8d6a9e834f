-- What of a change is kept before it is acknowledged, and near misses.
use Rattle.std.proofs.Common.{◌≡◌, ◌∙◌, ◌++◌, ◌<◌, ℕ, zero, suc, Bool, true, false, List, [], ◌∷◌, inl, Ok, refl, ap, sym, subst, arith}
use Rattle.std.specs.Prelude.{if◌then◌else◌, Contains}
use Rattle.cd_outside.specs.declared.address.Address.{Address}
use Rattle.cd_outside.specs.declared.past.KeepRecord.{KeepRecord}
use Rattle.cd_tree.specs.declared.tree.Tree.{Tree}
use Rattle.cd_tree.specs.Tree.{text}
use Rattle.cd_wire.specs.declared.request.Request.{Request}
use Rattle.cd_legal.specs.Placed.{placed}
use Rattle.cd_legal.specs.State.{Conf}
use Rattle.cd_admin.specs.Admin.{persists}
use Rattle.cd_admin.specs.Answers.{done}
use Rattle.cd_admin.specs.Deciding.{replace}
use Rattle.cd_serve.specs.Meanings.{Meaning, Decides, IsProperPrefix, nothing_sent, only_bytes, keeps_of}
use Rattle.cd_serve.specs.Episodes.{Kind, Outcome, Answers, Ends}
use Rattle.cd_serve.specs.Replies.{Reply}
use Rattle.cd_serve.specs.Keeping.{HasPublished, AreKeptFirst}
use Rattle.cd_serve.proofs.Examples.{site, changing, begin_of_two, work_of_two, finish_of_two, changed}
use Rattle.cd_serve.proofs.KeptFirst.{one-tree, one-kept}

-- what is denied is not kept
not_kept : (tree : Tree) → persists tree ≡ false → keeps_of 2 tree ≡ []
not_kept tree is = ap (λ (b : Bool). if b then record { put = 0; serial = 2; text = text tree } ∷ [] else []) is

abbrev kept_at : KeepRecord → ℕ
kept_at keep = keep.put

alone : (k z : KeepRecord) → Contains (k ∷ []) z → k ≡ z
alone k z (zero, below, is) = is
alone k z (suc i, below, is) = absurd (let h : suc i < 1 = below in omega (arith, h))

-- a request changes the configuration of this tree to another one, which is to be kept
module _ (m : Meaning) (at : Address) (t u : Tree) (q : Request) (asks : Decides m (Conf.Of t) at q (replace u)) (planned : m.plan u ≡ Ok (site)) (is : persists u ≡ true) where
  -- it is not acknowledged without its keep
  unkept : Answers m 2 at q Kind.changed (begin_of_two t u q) (work_of_two t u q) (finish_of_two t u q) done [] [] → ⊥
  unkept a =
      let same : u ≡ a.0.0 = one-tree m (Conf.Of t) at q u a.0.0 asks a.0.1 in
      let none : [] ≡ record { put = 0; serial = 2; text = text u } ∷ [] = a.0.3 ∙ (ap (keeps_of 2) (sym same) ∙ one-kept 2 u is) in
      cc

  -- where the lane fails to keep it, nothing is put
  broken_off : Ends m 2 at q Outcome.broken (begin_of_two t u q) (work_of_two t u q) (finish_of_two t u q) nothing_sent
  broken_off =
      let none : IsProperPrefix [] (keeps_of 2 u) = subst (λ (ks : List KeepRecord). IsProperPrefix [] ks) (sym (one-kept 2 u is)) (0, (let h : 0 < 1 = omega arith in h), refl) in
      inl (Kind.changed, done, [], keeps_of 2 u, changed m at t u q asks planned, inl ([], none, refl))

  abbrev acknowledged : Reply
  acknowledged = record { request = q; again = []; last = placed 2 (changing t u q); outcome = Outcome.broken; sent = only_bytes (72 ∷ []) }

  publishes : HasPublished m 2 at acknowledged 2 u
  publishes = record { begin = begin_of_two t u q; rest = work_of_two t u q ++ finish_of_two t u q ∷ []; last = refl; asks = asks; next = refl; publishes = let h : 0 < 1 = omega arith in h }

  -- a byte of the answer was put, and nothing was kept
  not_first : AreKeptFirst m 2 at [] (acknowledged ∷ []) → ⊥
  not_first kept =
      let c = kept [] [] acknowledged 2 u refl publishes is (λ e. let h : 72 ∷ [] ≡ [] = e in cc) in
      let none : c.0 < 0 = c.1 in
      omega (arith, none)

  -- or it was kept after that byte
  kept_late : AreKeptFirst m 2 at (record { put = 1; serial = 2; text = text u } ∷ []) (acknowledged ∷ []) → ⊥
  kept_late kept =
      let c = kept [] [] acknowledged 2 u refl publishes is (λ e. let h : 72 ∷ [] ≡ [] = e in cc) in
      let same : 1 ≡ 0 = ap kept_at (alone (record { put = 1; serial = 2; text = text u }) (record { put = 0; serial = 2; text = text u }) c) in
      omega (arith, same)

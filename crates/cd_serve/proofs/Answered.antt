-- Which answer an attempt gives.
use Rattle.std.proofs.Common.{◌≡◌, inl, ℕ, ◌+◌, List, [], length, Option, refl, sym, ap, subst, ◌∙◌}
use Rattle.cd_outside.specs.declared.address.Address.{Address}
use Rattle.cd_tree.specs.declared.tree.Tree.{Tree}
use Rattle.cd_wire.specs.declared.request.Request.{Request}
use Rattle.cd_legal.specs.declared.limits.TheConstants.{MAX_DRAFTS}
use Rattle.cd_legal.specs.declared.state.State.{State}
use Rattle.cd_legal.specs.State.{Conf}
use Rattle.cd_legal.specs.Placed.{Placed, met}
use Rattle.cd_module_set.specs.Acts.{Acts, conf_acts}
use Rattle.cd_module_set.specs.declared.target.Target.TheVariants as who
use Rattle.cd_life.specs.declared.shares.Share.{Share}
use Rattle.cd_life.specs.declared.shares.Share.TheVariants as share
use Rattle.cd_life.specs.Shares.{conf_in, tree_in}
use Rattle.cd_admin.specs.Answers.{done}
use Rattle.cd_admin.specs.Deciding.{Outcome as Decision, new_tree, replace}
use Rattle.cd_serve.specs.declared.attempting.Attempt.TheVariants as attempt
use Rattle.cd_serve.specs.declared.fault.ChangeFault.{ChangeFault}
use Rattle.cd_serve.specs.declared.fault.ChangeFault.TheVariants as fault
use Rattle.cd_serve.specs.Meanings.{Meaning, keeps_of}
use Rattle.cd_serve.specs.Faults.{fault_answer}
use Rattle.cd_serve.specs.Changes.{IsPublished, IsKept, IsSuperseded}
use Rattle.cd_serve.specs.Episodes.{Kind, Answers, IsAgain, Replaces}
use Rattle.cd_serve.specs.Attempts.{Asks, Attempted}

-- where the admin API answers, the configuration is one that was published
pub runs-tree : {A B : Type 0} {g : _} (acts : Tree → Acts) (s : Share A B g) (at : Address) → (conf_acts acts (conf_in s)).target at ≡ who.Admin → conf_in s ≡ Conf.Of (tree_in s)
runs-tree acts (share.Opening nothing) at is = absurd (let h : who.Nobody ≡ who.Admin = is in cc)
runs-tree acts (share.Halted nothing) at is = absurd (let h : who.Nobody ≡ who.Admin = is in cc)
runs-tree acts (share.Running loaded) at is = refl

-- a replacement is what the request asks for
pub asks : (makes : Tree → Request → Option Tree) (conf : Conf) (before tree : Tree) (q : Request) (d : Decision) → conf ≡ Conf.Of before → makes before q ≡ new_tree d → d ≡ replace tree → Asks makes conf q tree
asks makes conf before tree q d runs made is = (before, runs, made ∙ ap new_tree is)

-- the kind of answer for each fault
abbrev pub kind_of : ChangeFault → Kind
kind_of (fault.CannotOpen key) = Kind.unopened
kind_of (fault.StillInUse n) = Kind.kept
kind_of fault.NoSerialLeft = Kind.kept
kind_of fault.NoDraftLeft = Kind.spent

module _ (m : Meaning) (k : ℕ) (at : Address) (q : Request) (tree : Tree) (serial : ℕ) (s : State) (begin finish : Placed) (work : List Placed) (replaces : Replaces m k at q begin tree) (same : (met begin).serial ≡ serial) where
  pub answers-made : Attempted m tree q k serial s work attempt.Published → Answers m k at q Kind.changed begin work finish done [] (keeps_of (serial + 1) tree)
  answers-made a = ((tree, replaces, subst (λ (n : ℕ). IsPublished m tree q n work) (sym same) a, ap (λ (n : ℕ). keeps_of (n + 1) tree) (sym same)), refl, refl)

  kept-so : (why : ChangeFault) → IsKept m tree k serial why work → Answers m k at q Kind.kept begin work finish (fault_answer why) [] []
  kept-so why a = ((tree, why, replaces, subst (λ (n : ℕ). IsKept m tree k n why work) (sym same) a, refl), refl, refl)

  -- where no draft is left, none is left at the end of the request either
  pub answers-refused : (why : ChangeFault) → Attempted m tree q k serial s work (attempt.Refused why) → (length s.drafts ≡ MAX_DRAFTS → length (met finish).drafts ≡ MAX_DRAFTS) → Answers m k at q (kind_of why) begin work finish (fault_answer why) [] []
  answers-refused (fault.CannotOpen key) a full = ((tree, key, replaces, a, refl), refl, refl)
  answers-refused (fault.StillInUse n) a full = kept-so (fault.StillInUse n) a
  answers-refused fault.NoSerialLeft a full = kept-so fault.NoSerialLeft a
  answers-refused fault.NoDraftLeft a full = ((tree, replaces), a.0, full a.1, refl, refl, refl)

  -- the request is decided again
  pub again-superseded : Attempted m tree q k serial s work attempt.Superseded → IsAgain m k at q begin work finish
  again-superseded a = inl (tree, replaces, subst (λ (n : ℕ). IsSuperseded m tree n work) (sym same) a)

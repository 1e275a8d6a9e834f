-- Connections that were served one after another are told together.
use Rattle.std.proofs.Common.{ℕ, List, [], ◌∷◌, ◌++◌, ap, sym, subst, ◌∙◌}
use Rattle.std.specs.Prelude.{flat_map}
use Rattle.std.proofs.lemmas.List.{append_assoc, append-nil}
use Rattle.std.proofs.lemmas.Grind.{flat_map-append}
use Rattle.cd_outside.specs.declared.past.Connection.{Connection}
use Rattle.cd_legal.specs.declared.entry.Signed.{Signed}
use Rattle.cd_legal.specs.Placed.{Placed}
use Rattle.cd_serve.specs.Meanings.{Meaning}
use Rattle.cd_serve.specs.Connections.{Ending, ServesEach}
use Rattle.cd_serve.specs.Lanes.{IsTold}

each-together : (m : Meaning) (k : ℕ) (history : List Signed) (before : List Placed) (cs ds : List Connection) (es fs : List Ending)
    → ServesEach m k history before cs es → ServesEach m k history (before ++ flat_map (λ e. e.own) es) ds fs → ServesEach m k history before (cs ++ ds) (es ++ fs)
each-together m k history before [] ds [] fs all more = subst (λ (b : List Placed). ServesEach m k history b ds fs) (append-nil before) more
each-together m k history before (c ∷ cs) ds (e ∷ es) fs all more = (
  all.0,
  each-together m k history (before ++ e.own) cs ds es fs all.1
      (subst (λ (b : List Placed). ServesEach m k history b ds fs) (sym (append_assoc before e.own (flat_map (λ (x : Ending). x.own) es))) more),
)
each-together m k history before [] ds (e ∷ es) fs all more = absurd all
each-together m k history before (c ∷ cs) ds [] fs all more = absurd all

pub told-together : (m : Meaning) (k : ℕ) (history : List Signed) (before own more : List Placed) (cs ds : List Connection) (es fs : List Ending)
    → IsTold m k history before own cs es → IsTold m k history (before ++ own) more ds fs → IsTold m k history before (own ++ more) (cs ++ ds) (es ++ fs)
told-together m k history before own more cs ds es fs one two = record {
  whole = ap (λ (x : List Placed). x ++ more) one.whole ∙ ap (λ (y : List Placed). flat_map (λ (e : Ending). e.own) es ++ y) two.whole ∙ sym (flat_map-append (λ (e : Ending). e.own) es fs);
  each = each-together m k history before cs ds es fs one.each (subst (λ (o : List Placed). ServesEach m k history (before ++ o) ds fs) one.whole two.each);
}

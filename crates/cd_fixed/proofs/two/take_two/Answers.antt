use Rattle.std.proofs.Common.{rules, ◌≡◌, List, [], ◌∷◌, ◌++◌, length, refl, ap, ◌∙◌, arith, length-append}
use Rattle.cd_fixed.proofs.two.take_two.Goals as goal

empty : {A : Type 0} (xs : List A) → length xs ≡ 0 → xs ≡ []
empty [] is = refl
empty (x ∷ xs) is = absurd (omega arith)

-- a list of two from which two were taken
two_of : {A : Type 0} (ps ab bs : List A) (x y : A) → ps ≡ ab ++ y ∷ [] → ab ≡ bs ++ x ∷ [] → length ps ≡ 2 → (ps ≡ x ∷ y ∷ []) × (bs ≡ [])
two_of ps ab bs x y is has two =
    let p = ap length is ∙ length-append ab (y ∷ []) in
    let q = ap length has ∙ length-append bs (x ∷ []) in
    let none : bs ≡ [] = empty bs (omega arith) in
    (is ∙ (ap (λ l. l ++ y ∷ []) has ∙ ap (λ l. (l ++ x ∷ []) ++ y ∷ []) none), none)

pub returns-clause-two : goal.returns-clause-two
returns-clause-two g c =
    let second : c.args.items.items ≡ c.pop.new.self.items ++ c.unwrap-second.result ∷ [] = search rules in
    let first : c.pop.new.self.items ≡ c.pop-2.new.self.items ++ c.unwrap-first.result ∷ [] = search rules in
    (two_of c.args.items.items c.pop.new.self.items c.pop-2.new.self.items c.unwrap-first.result c.unwrap-second.result second first c.requires).0

pub returns-clause-rest : goal.returns-clause-rest
returns-clause-rest g c =
    let second : c.args.items.items ≡ c.pop.new.self.items ++ c.unwrap-second.result ∷ [] = search rules in
    let first : c.pop.new.self.items ≡ c.pop-2.new.self.items ++ c.unwrap-first.result ∷ [] = search rules in
    (two_of c.args.items.items c.pop.new.self.items c.pop-2.new.self.items c.unwrap-first.result c.unwrap-second.result second first c.requires).1

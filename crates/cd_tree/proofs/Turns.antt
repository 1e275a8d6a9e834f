-- What the grammar's loops read as, a turn at a time.
use Rattle.std.proofs.Common.{◌≡◌, ℕ, zero, suc, ◌<◌, ◌≤◌, ◌-◌, List, [], ◌∷◌, length, Option, Some, None, option_map, refl, ap, ◌∙◌, arith}
use Rattle.std.specs.Prelude.{option_and_then}
use Rattle.json.specs.Json as raw
use Rattle.json.specs.Json.{Parse, parse_map, after_end_array, read_key, items, members}
use Rattle.json.specs.Token.{Token}
use Rattle.json.proofs.Grammar.{items_end, items_fail, items_more, members_end, members_no_key, members_fail, members_more}
use Rattle.serde_json.specs.Data as json
use Rattle.serde_json.specs.Read.{of_json, of_items, of_members, converted}
use Rattle.cd_tree.proofs.Rising.{mapped}

pub unmapped : {A B : Type 0} (f : A → B) (o : Option A) → option_map f o ≡ None → o ≡ None
unmapped f None e = refl
unmapped f (Some a) e = absurd (let no : ⊥ = cc in no)

-- what was read comes from a value
from_value : {A B : Type 0} (f : A → Option B) (o : Option (A × List Token)) (b : B) (r : List Token) → converted f o ≡ Some (b, r) → (a : A) × (o ≡ Some (a, r)) × (f a ≡ Some b)
from_value f None b r e = absurd (let no : ⊥ = cc in no)
from_value {A} {B} f (Some p) b r e =
    let m = mapped {A = B} {B = B × List Token} (λ x. (x, p.1)) (f p.0) (b, r) e in
    (p.0, ap (λ s. Some (p.0, s)) (ap (λ q. q.1) m.2), m.1 ∙ ap (λ q. Some q.0) m.2)

under : {A B : Type 0} (g : A → B) (r : List Token) (x : Option A) → option_map (λ b. (b, r)) (option_map g x) ≡ parse_map g (option_map (λ a. (a, r)) x)
under g r None = refl
under g r (Some a) = refl

pub unchanged : (o : Option (json.Items × List Token)) → o ≡ parse_map (λ ds. ds) o
unchanged None = refl
unchanged (Some p) = refl

pub twice : (f g : json.Items → json.Items) (o : Option (json.Items × List Token)) → parse_map f (parse_map g o) ≡ parse_map (λ ds. f (g ds)) o
twice f g None = refl
twice f g (Some p) = refl

-- ---- values

pub list_read : (o : Option (raw.Items × List Token)) → converted of_json (parse_map raw.array o) ≡ parse_map json.array (converted of_items o)
list_read None = refl
list_read (Some p) = under json.array p.1 (of_items p.0)

pub object_read : (o : Option (raw.Members × List Token)) → converted of_json (parse_map raw.object o) ≡ parse_map json.object (converted (λ ms. of_members ms json.no_members) o)
object_read None = refl
object_read (Some p) = under json.object p.1 (of_members p.0 json.no_members)

-- ---- items

item_ahead : (j : raw.Json) (d : json.Data) → of_json j ≡ Some d → (o : Option (raw.Items × List Token)) → converted of_items (parse_map (raw.item j) o) ≡ parse_map (json.item d) (converted of_items o)
item_ahead j d e None = refl
item_ahead j d e (Some p) = ap (λ x. option_map (λ b. (b, p.1)) (option_and_then (λ first. option_map (json.item first) (of_items p.0)) x)) e ∙ under (json.item d) p.1 (of_items p.0)

item_gone : (j : raw.Json) → of_json j ≡ None → (o : Option (raw.Items × List Token)) → converted of_items (parse_map (raw.item j) o) ≡ None
item_gone j e None = refl
item_gone j e (Some p) = ap (λ x. option_map (λ b. (b, p.1)) (option_and_then (λ first. option_map (json.item first) (of_items p.0)) x)) e

member_ahead : (k : List ℕ) (j : raw.Json) (d : json.Data) (old : json.Members) → of_json j ≡ Some d → (o : Option (raw.Members × List Token))
    → converted (λ ms. of_members ms old) (parse_map (raw.member k j) o) ≡ converted (λ ms. of_members ms (json.put k d old)) o
member_ahead k j d old e None = refl
member_ahead k j d old e (Some p) = ap (λ x. option_map (λ b. (b, p.1)) (option_and_then (λ one. of_members p.0 (json.put k one old)) x)) e

member_gone : (k : List ℕ) (j : raw.Json) (old : json.Members) → of_json j ≡ None → (o : Option (raw.Members × List Token)) → converted (λ ms. of_members ms old) (parse_map (raw.member k j) o) ≡ None
member_gone k j old e None = refl
member_gone k j old e (Some p) = ap (λ x. option_map (λ b. (b, p.1)) (option_and_then (λ one. of_members p.0 (json.put k one old)) x)) e

module _ (p : Parse raw.Json) where
  pub item_read : (n : ℕ) (ts r : List Token) (d : json.Data) → 0 < n → after_end_array ts ≡ None → converted of_json (p ts) ≡ Some (d, r)
      → converted of_items (items p n ts) ≡ parse_map (json.item d) (converted of_items (items p (n - 1) r))
  item_read n ts r d some going e =
      let j = from_value of_json (p ts) d r e in
      ap (converted of_items) (items_more p n ts r j.0 some going j.1) ∙ item_ahead j.0 d j.2 (items p (n - 1) r)

  item_refused_at : (n : ℕ) (ts : List Token) (o : Option (raw.Json × List Token)) → 0 < n → after_end_array ts ≡ None → p ts ≡ o → converted of_json o ≡ None → converted of_items (items p n ts) ≡ None
  item_refused_at n ts None some going is e = ap (converted of_items) (items_fail p n ts going is)
  item_refused_at n ts (Some q) some going is e =
      ap (converted of_items) (items_more p n ts q.1 q.0 some going is) ∙ item_gone q.0 (unmapped (λ d. (d, q.1)) (of_json q.0) e) (items p (n - 1) q.1)

  pub item_refused : (n : ℕ) (ts : List Token) → after_end_array ts ≡ None → converted of_json (p ts) ≡ None → converted of_items (items p n ts) ≡ None
  unfolding items
  item_refused zero ts going e = refl
  item_refused (suc n) ts going e = item_refused_at (suc n) ts (p ts) (omega arith) going refl e

  pub items_over : (n : ℕ) (ts r : List Token) → length ts ≤ n → after_end_array ts ≡ Some r → converted of_items (items p n ts) ≡ Some (json.no_items, r)
  items_over n ts r enough e = ap (converted of_items) (items_end p n ts r enough e)

  -- ---- members

  module _ (old : json.Members) where
    pub member_read : (n : ℕ) (k : List ℕ) (ts s r : List Token) (d : json.Data) → 0 < n → read_key ts ≡ Some (Some k, s) → converted of_json (p s) ≡ Some (d, r)
        → converted (λ ms. of_members ms old) (members p n ts) ≡ converted (λ ms. of_members ms (json.put k d old)) (members p (n - 1) r)
    member_read n k ts s r d some key e =
        let j = from_value of_json (p s) d r e in
        ap (converted (λ ms. of_members ms old)) (members_more p n k ts s r j.0 some key j.1) ∙ member_ahead k j.0 d old j.2 (members p (n - 1) r)

    member_refused_at : (n : ℕ) (k : List ℕ) (ts s : List Token) (o : Option (raw.Json × List Token)) → 0 < n → read_key ts ≡ Some (Some k, s) → p s ≡ o → converted of_json o ≡ None
        → converted (λ ms. of_members ms old) (members p n ts) ≡ None
    member_refused_at n k ts s None some key is e = ap (converted (λ ms. of_members ms old)) (members_fail p n k ts s key is)
    member_refused_at n k ts s (Some q) some key is e =
        ap (converted (λ ms. of_members ms old)) (members_more p n k ts s q.1 q.0 some key is) ∙ member_gone k q.0 old (unmapped (λ d. (d, q.1)) (of_json q.0) e) (members p (n - 1) q.1)

    pub member_refused : (n : ℕ) (k : List ℕ) (ts s : List Token) → read_key ts ≡ Some (Some k, s) → converted of_json (p s) ≡ None → converted (λ ms. of_members ms old) (members p n ts) ≡ None
    unfolding members
    member_refused zero k ts s key e = refl
    member_refused (suc n) k ts s key e = member_refused_at (suc n) k ts s (p s) (omega arith) key refl e

    pub key_refused : (n : ℕ) (ts : List Token) → read_key ts ≡ None → converted (λ ms. of_members ms old) (members p n ts) ≡ None
    key_refused n ts e = ap (converted (λ ms. of_members ms old)) (members_no_key p n ts e)

    pub members_over : (n : ℕ) (ts r : List Token) → length ts ≤ n → read_key ts ≡ Some (None, r) → converted (λ ms. of_members ms old) (members p n ts) ≡ Some (old, r)
    members_over n ts r enough e = ap (converted (λ ms. of_members ms old)) (members_end p n ts r enough e)

-- ---- texts

abbrev whole : Option (raw.Json × List Token) → Option json.Data
whole o = option_and_then of_json (option_and_then (λ p. raw.if_last p.0 p.1) o)

pub whole_read : (o : Option (raw.Json × List Token)) (d : json.Data) → converted of_json o ≡ Some (d, []) → whole o ≡ Some d
whole_read o d e = let j = from_value of_json o d [] e in ap whole j.1 ∙ j.2

pub whole_and_more : (o : Option (raw.Json × List Token)) (d : json.Data) (t : Token) (r : List Token) → converted of_json o ≡ Some (d, t ∷ r) → whole o ≡ None
whole_and_more o d t r e = ap whole (from_value of_json o d (t ∷ r) e).1

pub whole_refused : (o : Option (raw.Json × List Token)) → converted of_json o ≡ None → whole o ≡ None
whole_refused None e = refl
whole_refused (Some (j, [])) e = unmapped (λ d. (d, [])) (of_json j) e
whole_refused (Some (j, t ∷ r)) e = refl

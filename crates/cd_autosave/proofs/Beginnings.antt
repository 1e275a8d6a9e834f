-- What was read as a file is opened.
use Rattle.std.proofs.Common.{◌≡◌, inl, inr, ℕ, zero, suc, ◌+◌, ◌-◌, ◌<◌, ◌≤◌, true, List, [], ◌∷◌, length, refl, sym, ◌∙◌, ap, subst, arith, Option, Some, None, IfSome, Result, Ok, Err, IfOk}
use Rattle.std.proofs.lemmas.List.{get_or_past}
use Rattle.cd_tree.specs.Endings.{last_byte}
use Rattle.cd_tree.specs.Reading.{tree_of}
use Rattle.cd_tree.specs.declared.tree.Tree.{Tree}
use Rattle.cd_outside.specs.declared.limits.TheConstants.{MAX_KEPT_BYTES}
use Rattle.cd_autosave.specs.Places.{start_of}
use Rattle.cd_autosave.specs.Image.{byte_at, bytes_at, length_at, saved_at}
use Rattle.cd_autosave.specs.Disk.{IsRead}
use Rattle.cd_autosave.specs.Heads.{IsHead}
use Rattle.cd_autosave.specs.Opening.{IsNoTree, IsRecord, IsInvalid, IsDamagedAt}
use Rattle.cd_autosave.specs.declared.limits.TheConstants.{MAX_NUMBER}
use Rattle.cd_autosave.specs.declared.head.Head.{Head}
use Rattle.cd_autosave.specs.declared.slot.Slot.{Slot}
use Rattle.cd_autosave.specs.declared.found.Record.{Record}
use Rattle.cd_autosave.proofs.Images.{bytes_are, length-bytes_at, open_slot}

pub if_some : {A : Type 0} (P Q : A → Type 0) (o : Option A) → IfSome o P → ((a : A) → P a → Q a) → IfSome o Q
if_some P Q None has leads = tt
if_some P Q (Some a) has leads = leads a has

pub both_some : {A : Type 0} (P Q R : A → Type 0) (o : Option A) → IfSome o P → IfSome o Q → ((a : A) → P a → Q a → R a) → IfSome o R
both_some P Q R None one two leads = tt
both_some P Q R (Some a) one two leads = leads a one two

pub err_is : {A E : Type 0} {x y : E} → ◌≡◌ {A = Result A E} (Err x) (Err y) → x ≡ y
err_is same = cc same

-- ---- a text

pub last_is : (before : ℕ) (xs : List ℕ) (n : ℕ) → length xs ≡ suc n → last_byte before xs ≡ byte_at xs n
last_is before [] n long = absurd (omega (arith, long))
last_is before (x ∷ []) zero long = refl
last_is before (x ∷ []) (suc n) long = absurd (omega (arith, long))
last_is before (x ∷ y ∷ ys) zero long = absurd (omega (arith, long))
last_is before (x ∷ y ∷ ys) (suc n) long = last_is x (y ∷ ys) n (omega (arith, long))

pub empty_last : (xs : List ℕ) → length xs ≡ 0 → last_byte 0 xs ≡ 0
empty_last [] none = refl
empty_last (x ∷ xs) none = absurd (omega (arith, none))

read_is : (image into : List ℕ) (at count n : ℕ) → length into ≡ n → IsRead at into count image → bytes_at image at n ≡ into
read_is image into at count n long read = ap (λ (k : ℕ). bytes_at image at k) (sym long) ∙ bytes_are image into at (λ i low. sym (read.each i low))

module _ (seen : Option (List ℕ)) (into : List ℕ) (at count n : ℕ) (long : length into ≡ n) (reads : IfSome seen (λ image. IsRead at into count image)) where
  tree_here : (tree : Tree) → 0 < count → length into ≤ count → tree_of into ≡ Ok tree → (image : List ℕ) → IsRead at into count image → (at + n ≤ length image) × (tree_of (bytes_at image at n) ≡ Ok tree)
  tree_here tree some enough is image read =
      (let there = read.there some in omega (arith, there, long, enough), ap tree_of (read_is image into at count n long read) ∙ is)

  pub tree_told : {E : Type 0} (r : Result Tree E) → IfOk r (λ tree. (0 < count) × (length into ≤ count) × (tree_of into ≡ Ok tree))
      → IfOk r (λ tree. IfSome seen (λ image. (at + n ≤ length image) × (tree_of (bytes_at image at n) ≡ Ok tree)))
  tree_told (Err e) told = tt
  tree_told (Ok tree) told = if_some _ _ seen reads (tree_here tree told.0 told.1 told.2)

  -- a text that reaches past the end of the file ends in a byte 0
  zero_last : (image : List ℕ) → IsRead at into count image → count < length into → last_byte 0 into ≡ 0
  zero_last image read short =
      let there = read.short short in
      last_is 0 into (length into - 1) (omega (arith, short)) ∙ read.each (length into - 1) (omega (arith, short)) ∙ get_or_past image (at + (length into - 1)) 0 (omega (arith, there, short))

  pub invalid_told : ((count < length into → last_byte 0 into ≡ 0) → IsNoTree into) → IfSome seen (λ image. IsNoTree (bytes_at image at n))
  invalid_told why = if_some _ _ seen reads (λ image read. λ tree is. why (zero_last image read) tree (sym (ap tree_of (read_is image into at count n long read)) ∙ is))

-- ---- a record

module _ (slot : Slot) (image : List ℕ) (head : Head) (is : IsHead (start_of slot) image head) where
  start : ℕ
  start = start_of slot

  text_is : bytes_at image (start_of slot + 13) head.size ≡ (saved_at image (start_of slot)).text
  text_is = ap (λ (n : ℕ). bytes_at image (start_of slot + 13) n) (sym is.size)

  text_long : length (saved_at image (start_of slot)).text ≡ head.size
  text_long = length-bytes_at image (start_of slot + 13) (length_at image (start_of slot)) ∙ is.size

  pub record_here : (tree : Tree) (found : Record) → found.number ≡ head.number → found.tree ≡ tree → head.size ≤ MAX_KEPT_BYTES → (start_of slot + 13 + head.size ≤ length image) × (tree_of (bytes_at image (start_of slot + 13) head.size) ≡ Ok tree)
      → IsRecord slot image (saved_at image (start_of slot)) found
  record_here tree found number_is found_tree short (there, tree_is) = record {
    number = is.number ∙ sym number_is;
    whole = record { within = omega (arith, there, text_long); short = omega (arith, short, text_long) };
    tree = ap tree_of (sym text_is) ∙ tree_is ∙ ap Ok (sym found_tree);
  }

  pub invalid_by_size : MAX_KEPT_BYTES < head.size → IsInvalid (saved_at image (start_of slot))
  invalid_by_size long = inl (omega (arith, long, text_long))

  pub invalid_by_number : MAX_NUMBER < head.number → IsInvalid (saved_at image (start_of slot))
  invalid_by_number great = inr (inl (subst (λ (n : ℕ). MAX_NUMBER < n) (sym is.number) great))

  pub invalid_by_text : IsNoTree (bytes_at image (start_of slot + 13) head.size) → IsInvalid (saved_at image (start_of slot))
  invalid_by_text no_tree = inr (inr (λ tree tree_is. no_tree tree (ap tree_of text_is ∙ tree_is)))

  -- the same, where the place and the length are told by other terms
  pub invalid_by_read : (at n : ℕ) → at ≡ start_of slot → n ≡ head.size → IsNoTree (bytes_at image (at + 13) n) → IsInvalid (saved_at image (start_of slot))
  invalid_by_read at n at_is n_is why =
      invalid_by_text (subst (λ (k : ℕ). IsNoTree (bytes_at image (start_of slot + 13) k)) n_is
      (subst (λ (a : ℕ). IsNoTree (bytes_at image (a + 13) n)) at_is why))

  pub record_read : (tree : Tree) (found : Record) (at n : ℕ) → found.number ≡ head.number → found.tree ≡ tree → at ≡ start_of slot → n ≡ head.size → head.size ≤ MAX_KEPT_BYTES
      → (at + 13 + n ≤ length image) × (tree_of (bytes_at image (at + 13) n) ≡ Ok tree) → IsRecord slot image (saved_at image (start_of slot)) found
  record_read tree found at n number_is found_tree at_is n_is short read =
      record_here tree found number_is found_tree short (subst (λ (k : ℕ). (start_of slot + 13 + k ≤ length image) × (tree_of (bytes_at image (start_of slot + 13) k) ≡ Ok tree)) n_is
      (subst (λ (a : ℕ). (a + 13 + n ≤ length image) × (tree_of (bytes_at image (a + 13) n) ≡ Ok tree)) at_is read))

pub damaged_told : (slot : Slot) (old mid : Option (List ℕ)) (at : ℕ) (head : Head) → at ≡ start_of slot → mid ≡ old → IfSome old (λ image. IsHead at image head)
    → IfSome mid (λ image. IsInvalid (saved_at image (start_of slot))) → head.open_slot ≡ true → IfSome old (λ image. IsDamagedAt slot image)
damaged_told slot old mid at head at_is same heads invalid opens =
    both_some _ _ _ old heads (subst (λ o. IfSome o (λ image. IsInvalid (saved_at image (start_of slot)))) same invalid) (λ image is why.
    let here : IsHead (start_of slot) image head = subst (λ (a : ℕ). IsHead a image head) at_is is in
    record { saved = saved_at image (start_of slot); open_slot = open_slot image (start_of slot) (here.opens ∙ opens); invalid = why })

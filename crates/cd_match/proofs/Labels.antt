-- A host is compared with a pattern label by label.
use Rattle.std.proofs.Common.{◌≡◌, ℕ, ◌<◌, ◌&&◌, true, false, List, [], ◌∷◌, length, refl, ap, ◌∙◌, arith, rules}
use Rattle.std.specs.Cmp.Lexicographic.{pointwise}
use Rattle.std.specs.List.{before_first, after_first, position_or_len}
use Rattle.std.proofs.lemmas.Bool.{and_right}
use Rattle.std.proofs.Math.Bool.{and-true}
use Rattle.std.proofs.lemmas.List.Splits.{slice_split_first, slice_split_none, length-slice_split}
use Rattle.std.proofs.lemmas.List.Sums.{fails_before_first}
use Rattle.cd_match.specs.Host.{is_dot, labels, label_fits, host_fits}

one_label : (text : List ℕ) → position_or_len is_dot text ≡ length text → labels text ≡ text ∷ []
one_label text none = slice_split_none is_dot text (λ k d h. fails_before_first is_dot text k d (omega arith))

first_label : (text : List ℕ) → position_or_len is_dot text < length text → labels text ≡ before_first is_dot text ∷ labels (after_first is_dot text)
first_label text within = slice_split_first is_dot text 0 within

-- a first label of each: they fit, and what follows fits
pub more_labels : (pattern host : List ℕ) → position_or_len is_dot pattern < length pattern → position_or_len is_dot host < length host
    → host_fits pattern host ≡ (label_fits (before_first is_dot pattern) (before_first is_dot host) && host_fits (after_first is_dot pattern) (after_first is_dot host))
unfolding host_fits
more_labels pattern host p h = ap (λ ls. pointwise label_fits ls (labels host)) (first_label pattern p) ∙ ap (λ ls. pointwise label_fits (before_first is_dot pattern ∷ labels (after_first is_dot pattern)) ls) (first_label host h)

-- one label each
pub last_labels : (pattern host : List ℕ) → position_or_len is_dot pattern ≡ length pattern → position_or_len is_dot host ≡ length host
    → host_fits pattern host ≡ label_fits pattern host
unfolding host_fits
last_labels pattern host p h = search (rules, one_label, and-true)

-- labels that are left on one side alone
none_left : (ls : List (List ℕ)) → 0 < length ls → pointwise label_fits [] ls ≡ false
none_left ls some = search rules

none_right : (ls : List (List ℕ)) → 0 < length ls → pointwise label_fits ls [] ≡ false
none_right [] some = absurd (omega arith)
none_right (l ∷ ls) some = refl

some_label : (text : List ℕ) → 0 < length (labels text)
some_label text = omega (arith, length-slice_split is_dot text)

pub longer_host : (pattern host : List ℕ) → position_or_len is_dot pattern ≡ length pattern → position_or_len is_dot host < length host → host_fits pattern host ≡ false
unfolding host_fits
longer_host pattern host p h = search (rules, one_label, first_label, and_right, none_left, some_label)

pub longer_pattern : (pattern host : List ℕ) → position_or_len is_dot pattern < length pattern → position_or_len is_dot host ≡ length host → host_fits pattern host ≡ false
unfolding host_fits
longer_pattern pattern host p h = search (rules, first_label, one_label, and_right, none_right, some_label)

-- the first labels decide, or what follows does
pub step_fails : (pattern host wanted others label behind : List ℕ) → position_or_len is_dot pattern < length pattern → wanted ≡ before_first is_dot pattern → others ≡ after_first is_dot pattern
    → position_or_len is_dot host < length host → label ≡ before_first is_dot host → behind ≡ after_first is_dot host → label_fits wanted label ≡ false → host_fits pattern host ≡ false
step_fails pattern host wanted others label behind p w o h l b fails = search (rules, more_labels)

pub step_fits : (pattern host wanted others label behind : List ℕ) → position_or_len is_dot pattern < length pattern → wanted ≡ before_first is_dot pattern → others ≡ after_first is_dot pattern
    → position_or_len is_dot host < length host → label ≡ before_first is_dot host → behind ≡ after_first is_dot host → label_fits wanted label ≡ true → host_fits pattern host ≡ host_fits others behind
step_fits pattern host wanted others label behind p w o h l b fits = search (rules, more_labels)

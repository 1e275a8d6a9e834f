-- A pass goes on in its turn, by one entry or by several, and leaves it.
use Rattle.std.proofs.Common.{◌≡◌, ◌≢◌, ℕ, true, false, List, [], ◌∷◌, ◌++◌, Option, None, refl, sym, ap, ◌∙◌, subst}
use Rattle.std.proofs.lemmas.List.{append-nil, append_assoc, map-append}
use mathlib.Core.List.{IsPrefix}
use Rattle.cd_legal.specs.declared.entry.Entry.{Entry}
use Rattle.cd_legal.specs.declared.entry.Entry.TheVariants.{Begin, Finish, Retire}
use Rattle.cd_legal.specs.declared.entry.Signed.{Signed}
use Rattle.cd_legal.specs.Entry.{signed, mine}
use Rattle.cd_legal.specs.Laws.{core_at, is_core}
use Rattle.cd_legal.specs.Owing.{Owes, owes_by}
use Rattle.cd_legal.specs.Placed.{Placed, placed, placed_entries, through}
use Rattle.cd_legal.specs.Signing.{IsHistory}
use Rattle.cd_legal.specs.State.{has_number}
use Rattle.cd_legal.proofs.Cores.{is_apart}
use Rattle.cd_legal.proofs.Logs.{prefix_trans}
use Rattle.cd_gate.specs.declared.view.Unsettled.{Unsettled}
use Rattle.cd_gate.specs.declared.view.View.{View}
use Rattle.cd_gate.specs.Counts.{is_noted}
use Rattle.cd_gate.specs.Duties.{duties_after}
use Rattle.cd_gate.specs.Growing.{all_signed, owes_after}
use Rattle.cd_gate.specs.Knowing.{Knows}
use Rattle.cd_gate.specs.Steps.{adding, noted, superseded, with_turn, without_turn}
use Rattle.cd_gate.specs.Tables.{FoundInTurn}
use Rattle.cd_gate.specs.Words.{owed}
use Rattle.cd_gate.proofs.Cored.{noted_core, one_more}
use Rattle.cd_gate.proofs.InTurn.{knows_noted}
use Rattle.cd_gate.proofs.Longer.{prefix_self}
use Rattle.cd_gate.proofs.Numbers.{off}
use Rattle.cd_hall.specs.GoesOn.{GoesOn, SeesMore, duties_left}
use Rattle.cd_hall.specs.Since.{Since, reached}
use Rattle.cd_hall.specs.Spread.{Starts, Spread}
use Rattle.cd_hall.specs.Turned.{Turned}
use Rattle.cd_hall.proofs.Since.{goes_on, goes_further, spreads, turned_one, turned_none}

-- ---- lists

entries_both : (ps qs : List Placed) → placed_entries (ps ++ qs) ≡ placed_entries ps ++ placed_entries qs
entries_both ps qs = map-append (λ (q : Placed). q.entry) ps qs

pub all_both : (k : ℕ) (es fs : List Entry) → all_signed k (es ++ fs) ≡ all_signed k es ++ all_signed k fs
all_both k [] fs = refl
all_both k (e ∷ es) fs = ap (λ (l : List Signed). signed k e ∷ l) (all_both k es fs)

owes_both : (o : Owes) (es fs : List Entry) → owes_after o (es ++ fs) ≡ owes_after (owes_after o es) fs
owes_both o [] fs = refl
owes_both o (e ∷ es) fs = owes_both (owes_by o e) es fs

left_both : (ds : List ℕ) (es fs : List Entry) → duties_left ds (es ++ fs) ≡ duties_left (duties_left ds es) fs
left_both ds [] fs = refl
left_both ds (e ∷ es) fs = left_both (duties_after ds e) es fs

through_last : (k : ℕ) (ps : List Placed) (q : Placed) (qs : List Placed) → through k (ps ++ q ∷ qs) ≡ through k (q ∷ qs)
through_last k [] q qs = refl
through_last k (p ∷ []) q qs = refl
through_last k (p ∷ r ∷ ps) q qs = through_last k (r ∷ ps) q qs

-- what was found before the first of them
abbrev pub found_both : List Signed → List Placed → List Signed → List Signed
found_both one [] two = two
found_both one (p ∷ ps) two = one

none_are : (ps : List Placed) (es : List Entry) → placed_entries ps ≡ es → ps ≡ [] → es ≡ []
none_are ps es are none = sym are ∙ ap placed_entries none

sees_none : (es : List Entry) (one two : List Signed) → es ≡ [] → SeesMore es one two → two ≡ one
sees_none [] one two none sees = sees
sees_none (e ∷ es) one two none sees = absurd (let h : e ∷ es ≡ [] = none in cc)

sees_both : (es fs : List Entry) (one two three : List Signed) → SeesMore es one two → SeesMore fs two three → SeesMore (es ++ fs) one three
sees_both [] [] one two three a b = b ∙ a
sees_both [] (f ∷ fs) one two three a b = tt
sees_both (e ∷ es) fs one two three a b = tt

reached_both : (k : ℕ) (f g before now : List Signed) (ps qs : List Placed) → before ≡ reached k f ps → (ps ≢ [] → qs ≡ [] → now ≡ before) → now ≡ reached k g qs → now ≡ reached k (found_both f ps g) (ps ++ qs)
reached_both k f g before now [] qs was still is = is
reached_both k f g before now (p ∷ ps) [] was still is = still (λ e. absurd (let h : p ∷ ps ≡ [] = e in cc)) refl ∙ (was ∙ ap (λ (l : List Placed). reached k f l) (sym (append-nil (p ∷ ps))))
reached_both k f g before now (p ∷ ps) (q ∷ qs) was still is = is ∙ sym (through_last k (p ∷ ps) q qs)

starts_both : (f g before now : List Signed) (ps qs : List Placed) → Starts f ps before → Starts g qs now → Starts (found_both f ps g) (ps ++ qs) now
starts_both f g before now [] qs one two = two
starts_both f g before now (p ∷ ps) qs one two = one

found_after : (f g : List Signed) (ps : List Placed) (P : List Signed → Type 0) → P f → P g → P (found_both f ps g)
found_after f g [] P one two = two
found_after f g (p ∷ ps) P one two = one

-- an entry that asks nothing of the tickets
pub apart_core : (e : Entry) → is_apart e ≡ true → is_core e ≡ true
apart_core (Begin k n) is = absurd (off is)
apart_core (Finish k) is = absurd (off is)
apart_core e is = refl

pub apart_duties : (ds : List ℕ) (e : Entry) → is_apart e ≡ true → duties_after ds e ≡ ds
apart_duties ds (Retire n) is = absurd (off is)
apart_duties ds e is = refl

module _ {T : Type 0} where
  -- ---- one turn after another part of it

  module _ (u v w : View T) (f g : List Signed) (ps qs : List Placed) (a : Since u v f ps) (b : Since v w g qs) (still : ps ≢ [] → qs ≡ [] → w.seen ≡ v.seen) where
    abbrev k : ℕ
    k = u.number

    number_is : v.number ≡ k
    number_is = ap (λ (z : View T). z.number) a.same

    g_below : IsPrefix g w.seen
    g_below = b.after

    f_below : IsPrefix f w.seen
    f_below = prefix_trans f v.seen w.seen a.after (prefix_trans v.seen g w.seen b.seen b.after)

    u_below : IsPrefix u.seen g
    u_below = prefix_trans u.seen f g a.seen (prefix_trans f v.seen g a.after b.seen)

    pub since_both : Since u w (found_both f ps g) (ps ++ qs)
    since_both = record {
      seen = found_after f g ps (λ (l : List Signed). IsPrefix u.seen l) a.seen u_below;
      first = starts_both f g v.seen w.seen ps qs a.first b.first;
      after = found_after f g ps (λ (l : List Signed). IsPrefix l w.seen) f_below g_below;
      reached_is = reached_both k f g v.seen w.seen ps qs a.reached_is still (b.reached_is ∙ ap (λ (n : ℕ). reached n g qs) number_is);
      history = b.history;
      before = a.before;
      own = ap (λ (n : ℕ). mine n w.seen) (sym number_is) ∙ b.own;
      placed_is = ap (λ (n : ℕ). placed n w.seen) (sym number_is)
          ∙ (b.placed_is
          ∙ (ap (λ (n : ℕ). placed n v.seen ++ qs) number_is
          ∙ (ap (λ (l : List Placed). l ++ qs) a.placed_is ∙ append_assoc (placed k u.seen) ps qs)));
      adds = b.adds
          ∙ (ap (λ (n : ℕ). v.mine ++ all_signed n (placed_entries qs)) number_is
          ∙ (ap (λ (l : List Signed). l ++ all_signed k (placed_entries qs)) a.adds
          ∙ (append_assoc u.mine (all_signed k (placed_entries ps)) (all_signed k (placed_entries qs))
          ∙ ap (λ (l : List Signed). u.mine ++ l) (sym (all_both k (placed_entries ps) (placed_entries qs)) ∙ ap (λ (l : List Entry). all_signed k l) (sym (entries_both ps qs))))));
      owes = b.owes
          ∙ (ap (λ (o : Owes). owes_after o (placed_entries qs)) a.owes
          ∙ (sym (owes_both (owed u) (placed_entries ps) (placed_entries qs)) ∙ ap (λ (l : List Entry). owes_after (owed u) l) (sym (entries_both ps qs))));
      same = b.same
          ∙ ap (λ (z : View T). record z { turn = w.turn; checked = w.checked; ready = w.ready; unsettled = w.unsettled; seen = w.seen; mine = w.mine; ticket = w.ticket; draft = w.draft; duties = w.duties }) a.same;
    }

  -- a part with nothing in it
  pub since_self : (v : View T) → Knows v → Since v v v.seen []
  since_self v knows = record {
    seen = prefix_self v.seen;
    first = refl;
    after = prefix_self v.seen;
    reached_is = refl;
    history = knows.history;
    before = knows.own;
    own = knows.own;
    placed_is = sym (append-nil (placed v.number v.seen));
    adds = sym (append-nil v.mine);
    owes = refl;
    same = refl;
  }

  -- ---- going on

  pub goes_number : (v w : View T) (es : List Entry) → GoesOn v w es → w.number ≡ v.number
  goes_number v w es g = ap (λ (z : View T). z.number) g.since.same

  pub goes_none : (v : View T) → Knows v → GoesOn v v []
  goes_none v knows = record {
    found = v.seen;
    added = [];
    since = since_self v knows;
    are = refl;
    found_core = refl;
    core_is = sym (append-nil (core_at v.seen));
    sees = refl;
    checked = refl;
    duties = refl;
  }

  -- by one entry
  pub goes_one : (v x : View T) (log : List Signed) (e : Entry) → Knows v → FoundInTurn v log → IsHistory (log ++ signed v.number e ∷ []) → is_core e ≡ true
      → x ≡ record (adding v log e) { checked = v.checked; ready = x.ready; unsettled = x.unsettled; duties = duties_after v.duties e } → GoesOn v x (e ∷ [])
  goes_one v x log e knows f now core is = record {
    found = log;
    added = record { before = log; entry = e } ∷ [];
    since = goes_further v v x v.seen log [] e (since_self v knows) f.found now
        (subst (λ (z : View T). x ≡ record (adding v log e) { checked = z.checked; ready = x.ready; unsettled = x.unsettled; duties = z.duties }) (sym is) is);
    are = refl;
    found_core = f.core_is;
    core_is = ap (λ (z : View T). core_at z.seen) is ∙ (one_more log (signed v.number e) core ∙ ap (λ (l : List Signed). l ++ signed v.number e ∷ []) f.core_is);
    sees = tt;
    checked = ap (λ (z : View T). z.checked) is;
    duties = ap (λ (z : View T). z.duties) is;
  }

  -- by a note
  pub goes_noted : (v x : View T) (log : List Signed) (e : Entry) → Knows v → FoundInTurn v log → IsHistory (log ++ signed v.number e ∷ []) → is_noted e ≡ true → x ≡ noted v log e → GoesOn v x (e ∷ [])
  goes_noted v x log e knows f now by_note is =
      goes_one v x log e knows f now (noted_core e by_note)
      (subst (λ (z : View T). x ≡ record (adding v log e) { checked = v.checked; ready = z.ready; unsettled = z.unsettled; duties = duties_after v.duties e }) (sym is) is)

  -- by an entry that supersedes a serial
  pub goes_superseded : (v x : View T) (log : List Signed) (e : Entry) (n begins : ℕ) → Knows v → FoundInTurn v log → IsHistory (log ++ signed v.number e ∷ []) → is_apart e ≡ true → x ≡ superseded v log e n begins → GoesOn v x (e ∷ [])
  goes_superseded v x log e n begins knows f now apart is =
      goes_one v x log e knows f now (apart_core e apart)
      (subst (λ (z : View T). x ≡ record (adding v log e) { checked = v.checked; ready = z.ready; unsettled = z.unsettled; duties = duties_after v.duties e }) (sym is)
      (is ∙ ap (λ (ds : List ℕ). record (superseded v log e n begins) { duties = ds }) (sym (apart_duties v.duties e apart))))

  -- the pass knows the history then
  pub knows_superseded : (v x : View T) (log : List Signed) (e : Entry) (n begins : ℕ) → Knows v → FoundInTurn v log → IsHistory (log ++ signed v.number e ∷ []) → is_apart e ≡ true → x ≡ superseded v log e n begins → Knows x
  knows_superseded v x log e n begins knows f now apart is =
      let noted_it : Knows (noted v log e) = knows_noted v log e f now knows in
      let same : (noted v log e).duties ≡ v.duties = apart_duties v.duties e apart in
      subst (λ (z : View T). Knows z) (sym is) record {
        history = noted_it.history;
        own = noted_it.own;
        owes = noted_it.owes;
        duties = λ m has. noted_it.duties m (ap (λ (ds : List ℕ). has_number m ds) same ∙ has);
      }

  -- by some, and then by others
  pub goes_both : (u v w : View T) (es fs : List Entry) → GoesOn u v es → GoesOn v w fs → GoesOn u w (es ++ fs)
  goes_both u v w es fs a b = record {
    found = found_both a.found a.added b.found;
    added = a.added ++ b.added;
    since = since_both u v w a.found b.found a.added b.added a.since b.since (λ _ none. sees_none fs v.seen w.seen (none_are b.added fs b.are none) b.sees);
    are = entries_both a.added b.added ∙ (λ i. a.are i ++ b.are i);
    found_core = founds a.added a.are a.found_core;
    core_is = b.core_is
        ∙ (ap (λ (n : ℕ). core_at v.seen ++ all_signed n fs) (goes_number u v es a)
        ∙ (ap (λ (l : List Signed). l ++ all_signed u.number fs) a.core_is
        ∙ (append_assoc (core_at u.seen) (all_signed u.number es) (all_signed u.number fs) ∙ ap (λ (l : List Signed). core_at u.seen ++ l) (sym (all_both u.number es fs)))));
    sees = sees_both es fs u.seen v.seen w.seen a.sees b.sees;
    checked = b.checked ∙ a.checked;
    duties = b.duties ∙ (ap (λ (ds : List ℕ). duties_left ds fs) a.duties ∙ sym (left_both u.duties es fs));
  }
    where
      founds : (ps : List Placed) → placed_entries ps ≡ es → core_at a.found ≡ core_at u.seen → core_at (found_both a.found ps b.found) ≡ core_at u.seen
      founds [] are one = b.found_core ∙ ap core_at (sees_none es u.seen v.seen (sym are) a.sees)
      founds (p ∷ ps) are one = one

  pub goes_as : (v w : View T) (es fs : List Entry) → es ≡ fs → GoesOn v w es → GoesOn v w fs
  goes_as v w es fs same g = subst (λ (l : List Entry). GoesOn v w l) same g

  -- ---- the whole turn

  -- what a pass has made in its turn, once it has left it
  pub record Leaving (u y : View T) (before : List Signed) (made : List Entry) : Type 0 where
    pub found : List Signed
    pub spread : Spread u y found made
    pub found_core : core_at found ≡ core_at before

  -- how a turn ends in which the pass u has come to w: it has settled what it superseded, or it had superseded nothing, and has the
  -- view y once it has left
  abbrev pub Ends : View T → View T → View T → View T → Type 0
  Ends u w x y = (x ≡ record w { unsettled = x.unsettled; duties = x.duties }) × (x.ready ≡ u.ready) × (x.unsettled ≡ u.unsettled) × (y ≡ without_turn x)

  pub ends_plain : (u v x y : View T) → u.ready ≡ false → x.ready ≡ false → v ≡ with_turn u v.seen → x.unsettled ≡ v.unsettled → y ≡ without_turn x → Ends u x x y
  ends_plain u v x y one two same quiet is = (refl, two ∙ sym one, quiet ∙ ap (λ (z : View T). z.unsettled) same, is)

  pub ends_settled : (u w x y : View T) → u.ready ≡ false → x.ready ≡ false → u.unsettled ≡ None → x ≡ record w { unsettled = None; duties = x.duties } → y ≡ without_turn x → Ends u w x y
  ends_settled u w x y one two quiet same is =
      let none : x.unsettled ≡ None = ap (λ (z : View T). z.unsettled) same in
      (subst (λ (o : Option Unsettled). x ≡ record w { unsettled = o; duties = x.duties }) (sym none) same, two ∙ sym one, none ∙ sym quiet, is)

  module _ (u v w x y : View T) (same : v ≡ with_turn u v.seen) (taken : Since u v v.seen []) (idle : u.turn ≡ false) (end : Ends u w x y) where
    module _ (es : List Entry) (g : GoesOn v w es) where
      whole : Since u w g.found g.added
      whole = since_both u v w v.seen g.found [] g.added taken g.since (λ _ none. sees_none es v.seen w.seen (none_are g.added es g.are none) g.sees)

      ended : Since u x g.found g.added
      ended = goes_on u w x g.found g.added whole
          (subst (λ (z : View T). x ≡ record w { turn = z.turn; checked = z.checked; ready = z.ready; unsettled = x.unsettled; duties = x.duties }) (sym end.0) end.0)

      spread_all : Spread u y g.found (placed_entries g.added)
      spread_all = spreads u x y g.found g.added ended end.3 idle (ap (λ (z : View T). z.checked) end.0 ∙ (g.checked ∙ ap (λ (z : View T). z.checked) same)) end.1 end.2

      pub leaves : Leaving u y v.seen es
      leaves = record { found = g.found; spread = subst (λ (l : List Entry). Spread u y g.found l) g.are spread_all; found_core = g.found_core }

    -- by one entry: it stands right after what was found
    pub leaves_one : (e : Entry) (g : GoesOn v w (e ∷ [])) → Turned u y g.found (e ∷ [])
    leaves_one e g = one_of g.added (ended (e ∷ []) g) (spread_all (e ∷ []) g) g.are
      where
        one_of : (ps : List Placed) → Since u x g.found ps → Spread u y g.found (placed_entries ps) → placed_entries ps ≡ e ∷ [] → Turned u y g.found (e ∷ [])
        one_of [] s t are = absurd (let h : [] ≡ e ∷ [] = are in cc)
        one_of (p ∷ []) s t are = subst (λ (l : List Entry). Turned u y g.found l) are (turned_one u x y g.found p s (ap (λ (z : View T). z.seen) end.3) t)
        one_of (p ∷ q ∷ ps) s t are = absurd (let h : p.entry ∷ q.entry ∷ placed_entries ps ≡ e ∷ [] = are in cc)

  -- a turn in which nothing was made, though more may have been seen
  pub leaves_none : (u x y : View T) (found : List Signed) → Since u x found [] → u.turn ≡ false → x.checked ≡ u.checked → x.ready ≡ u.ready → x.unsettled ≡ u.unsettled → y ≡ without_turn x → Turned u y found []
  leaves_none u x y found s idle checked ready unsettled is =
      turned_none u x y found s (ap (λ (z : View T). z.seen) is) (spreads u x y found [] s is idle checked ready unsettled)

  -- nothing was made, and no more was seen
  pub none_made : (u v x y : View T) → Since u v v.seen [] → v ≡ with_turn u v.seen → x ≡ v → u.turn ≡ false → u.ready ≡ false → x.ready ≡ false → y ≡ without_turn x → Turned u y v.seen []
  none_made u v x y taken same still idle one two is =
      leaves_none u x y v.seen (subst (λ (z : View T). Since u z v.seen []) (sym still) taken) idle
      (ap (λ (z : View T). z.checked) still ∙ ap (λ (z : View T). z.checked) same) (two ∙ sym one)
      (ap (λ (z : View T). z.unsettled) still ∙ ap (λ (z : View T). z.unsettled) same) is

  -- more was seen
  pub looked_on : (u v x : View T) (found : List Signed) → Since u v v.seen [] → Since v x found [] → Since u x found []
  looked_on u v x found a b = since_both u v x v.seen found [] [] a b (λ ne. absurd (ne refl))

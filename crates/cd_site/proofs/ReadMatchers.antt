-- The matchers of a directive are read as the sets that they come to.
use Rattle.std.proofs.Common.{◌≡◌, ℕ, Bool, true, false, not, ◌&&◌, List, [], ◌∷◌, ◌++◌, suc, decimal, map, Option, Some, None, Result, Ok, Err, refl, sym, ap, ap₂, ◌∙◌, subst, rules}
use Rattle.std.specs.Prelude.{codes, if◌then◌else◌, ⊤}
use Rattle.std.specs.Cmp.Lexicographic.{slice_cmp}
use Rattle.std.specs.List.{list_any, list_all}
use Rattle.std.specs.Ordering.{nat_cmp, is_le}
use Rattle.std.specs.Str.{bytes_eq}
use Rattle.cd_text.specs.ByKey.{put_by_key}
use Rattle.cd_text.specs.Steps.{◌▷◌}
use Rattle.cd_tree.specs.Fields.{is_null}
use Rattle.cd_tree.specs.Path.{◌▸◌}
use Rattle.cd_tree.specs.declared.path.Path.{Path}
use Rattle.cd_tree.specs.declared.tree.Tree as tree
use Rattle.cd_tree.specs.declared.tree.Tree.{Tree}
use Rattle.cd_module.specs.Faults.{refused}
use Rattle.cd_module.specs.Patterns.{pattern_of, literal}
use Rattle.cd_module.specs.Settings.{Reader, each, list_of}
use Rattle.cd_module.specs.declared.fault.LoadFault.{LoadFault}
use Rattle.cd_module.specs.declared.fault.LoadKind.TheVariants.{BadValue}
use Rattle.cd_match.proofs.Alike.{sets_are}
use Rattle.cd_match.specs.Header as header
use Rattle.cd_match.specs.Header.{header_matcher}
use Rattle.cd_match.specs.Host.{host_matcher}
use Rattle.cd_match.specs.Matchers.{matcher_of, matcher, matcher_set, sets, route_sets}
use Rattle.cd_match.specs.Method.{method_matcher}
use Rattle.cd_match.specs.Names.{kind_named, kind_name}
use Rattle.cd_match.specs.Path as path
use Rattle.cd_match.specs.Path.{path_matcher, is_star}
use Rattle.cd_match.specs.Query as query
use Rattle.cd_match.specs.Query.{query_matcher}
use Rattle.cd_match.specs.declared.matcher.Matcher.{Matcher, Host, Path as ByPath, Method, Header, Query}
use Rattle.cd_match.specs.declared.matcher.MatcherSet.{MatcherSet, roll-MatcherSet}
use Rattle.cd_match.specs.declared.path.PathPattern.{PathPattern}
use Rattle.cd_match.specs.declared.sets.Sets.{Sets}
use Rattle.cd_ids.specs.Walk.{is_id_key}
use Rattle.cd_caddyfile.specs.Shape.{Entry, member, object, list, text_list, given, wanted, set_of}
use Rattle.cd_caddyfile.specs.Sites.{Wanted, Tests}
use Rattle.cd_site.specs.Settings as settings
use Rattle.cd_site.specs.Settings.{by_name, field_test, key_test, path_pattern, header_given, query_given, matchers_of, sets_of}
use Rattle.cd_site.specs.Ids.{HasFitIds}
use Rattle.cd_site.proofs.Marks.{HaveFitValues, AreLists, in_list, first_element, in_object, first_value, first_values, other_parts, no_id_keys}
use Rattle.cd_site.proofs.Objects.{Went, went, same_value, text_solid, list_solid, object_solid, list_is, texts_are, patterns_are, pattern_is, sorted, sorted_entries, all_set, each_entry, entries_are, entries_with_nulls_are}

-- ---- entries one after another

-- what was read of entries, and of those after them
record Parted {X : Type 0} (r : List ℕ → Reader X) (xs ys : List Entry) (at : Path) (zs : List X) : Type 0 where
  first : List X
  others : List X
  first_is : each_entry r xs at ≡ Ok first
  others_are : each_entry r ys at ≡ Ok others
  whole : zs ≡ first ++ others

both_read : {X : Type 0} (p : Result X LoadFault) (q : Result (List X) LoadFault) (v : X) (a : List X) → p ≡ Ok v → q ≡ Ok a → (p ▷ λ x. q ▷ λ xs. Ok (x ∷ xs)) ≡ Ok (v ∷ a)
both_read p q v a one others = rw (one, others) refl

parted : {X : Type 0} (r : List ℕ → Reader X) (xs ys : List Entry) (at : Path) (zs : List X) → each_entry r (xs ++ ys) at ≡ Ok zs → Parted r xs ys at zs
parted r [] ys at zs h = record { first = []; others = zs; first_is = refl; others_are = h; whole = refl }
parted r (e ∷ es) ys at zs h =
    let one = went (r e.key e.value (at ▸ e.key)) _ zs h in
    let more = went (each_entry r (es ++ ys) at) _ zs one.rest in
    let inner = parted r es ys at more.value more.is in
    record {
      first = one.value ∷ inner.first;
      others = inner.others;
      first_is = both_read (r e.key e.value (at ▸ e.key)) (each_entry r es at) one.value inner.first one.is inner.first_is;
      others_are = inner.others_are;
      whole = sym (same_value (one.value ∷ more.value) zs more.rest) ∙ ap (λ l. one.value ∷ l) inner.whole;
    }

all_both : (xs ys : List Entry) → all_set xs ≡ true → all_set ys ≡ true → all_set (xs ++ ys) ≡ true
all_both [] ys one two = two
all_both (e ∷ es) ys one two = by (not (is_null e.value) && not (bytes_eq e.key (codes "@id"))) one (λ later. all_both es ys later two)
  where
    by : (b : Bool) → (b && all_set es) ≡ true → (all_set es ≡ true → all_set (es ++ ys) ≡ true) → (b && all_set (es ++ ys)) ≡ true
    by true is later = later is
    by false is later = cc

given_set : {A : Type 0} (key : List ℕ) (f : A → Tree) (o : Option A) → bytes_eq key (codes "@id") ≡ false → ((a : A) → is_null (f a) ≡ false) → all_set (given key f o) ≡ true
given_set key f None other solid = refl
given_set key f (Some a) other solid = rw (solid a, other) refl

-- ---- names with values

abbrev entries : List Wanted → List Entry
entries ws = map (λ one. member one.name (text_list one.values)) ws

entries_sorted : (ws : List Wanted) → sorted (entries ws) ≡ entries (by_name ws)
entries_sorted ws = sorted_entries (λ one. member one.name (text_list one.values)) ws

entries_lists : (ws : List Wanted) → AreLists (entries ws)
entries_lists [] = tt
entries_lists (w ∷ ws) = (_, refl, entries_lists ws)

set_where_named : (ws : List Wanted) → list_all (λ (e : Entry). not (is_id_key e.key)) (entries ws) ≡ true → all_set (entries ws) ≡ true
set_where_named [] h = refl
set_where_named (w ∷ ws) h = rw (list_solid (map (λ t. tree.Text t) w.values)) (by (bytes_eq w.name (codes "@id")) h (λ later. set_where_named ws later))
  where
    by : (b : Bool) → (not b && list_all (λ (e : Entry). not (is_id_key e.key)) (entries ws)) ≡ true →
        (list_all (λ (e : Entry). not (is_id_key e.key)) (entries ws) ≡ true → all_set (entries ws) ≡ true) → (not b && all_set (entries ws)) ≡ true
    by true is later = cc
    by false is later = later is

-- an object of them whose ids are fit has no id
named_set : (ws : List Wanted) (at : Path) → HasFitIds (object (entries ws)) at → all_set (sorted (entries ws)) ≡ true
named_set ws at fit =
    let lists : AreLists (sorted (entries ws)) = subst AreLists (sym (entries_sorted ws)) (entries_lists (by_name ws)) in
    let named : list_all (λ (e : Entry). not (is_id_key e.key)) (entries (by_name ws)) ≡ true =
    ap (list_all (λ (e : Entry). not (is_id_key e.key))) (sym (entries_sorted ws)) ∙ no_id_keys (entries ws) at lists fit in
    ap all_set (entries_sorted ws) ∙ set_where_named (by_name ws) named

fields_from : (ws : List Wanted) (at : Path) → each_entry header.field_test (entries ws) at ≡ Ok (map field_test ws)
unfolding header.field_test
fields_from [] at = refl
fields_from (w ∷ ws) at = rw (list_solid (map (λ t. tree.Text t) w.values), patterns_are w.values (at ▸ w.name), fields_from ws at) refl

keys_from : (ws : List Wanted) (at : Path) → each_entry query.key_test (entries ws) at ≡ Ok (map key_test ws)
unfolding query.key_test
keys_from [] at = refl
keys_from (w ∷ ws) at = rw (texts_are w.values (at ▸ w.name), keys_from ws at) refl

fields_are : (ws : List Wanted) (at : Path) → HasFitIds (object (entries ws)) at → header_matcher (object (entries ws)) at ≡ Ok (record { tests = map field_test (by_name ws) })
unfolding header_matcher
fields_are ws at fit = rw (entries_with_nulls_are header.field_test (entries ws) at (named_set ws at fit), entries_sorted ws, fields_from (by_name ws) at) refl

keys_are : (ws : List Wanted) (at : Path) → HasFitIds (object (entries ws)) at → query_matcher (object (entries ws)) at ≡ Ok (record { tests = map key_test (by_name ws) })
unfolding query_matcher
keys_are ws at fit = rw (entries_are query.key_test (entries ws) at (named_set ws at fit), entries_sorted ws, keys_from (by_name ws) at) refl

-- ---- paths

path_read : (t : List ℕ) (at : Path) (found : PathPattern) → path.path_pattern (tree.Text t) at ≡ Ok found → found ≡ path_pattern t
unfolding path.path_pattern
path_read t at found h = by (list_any is_star (literal (pattern_of t))) (ap (λ r. r ▷ λ written. if list_any is_star (literal written) then Err (refused BadValue at) else Ok (record { pattern = written })) (sym (pattern_is t at)) ∙ h)
  where
    by : (b : Bool) → (if b then Err (refused BadValue at) else Ok (record { pattern = pattern_of t })) ≡ Ok found → found ≡ path_pattern t
    by true is = cc
    by false is = sym (same_value (path_pattern t) found is)

paths_from : (n : ℕ) (all : List (List ℕ)) (at : Path) (found : List PathPattern) → each path.path_pattern n (map (λ t. tree.Text t) all) at ≡ Ok found → found ≡ map path_pattern all
paths_from n [] at found h = sym (same_value [] found h)
paths_from n (t ∷ ts) at found h =
    let one = went (path.path_pattern (tree.Text t) (at ▸ decimal n)) _ found h in
    let more = went (each path.path_pattern (suc n) (map (λ t. tree.Text t) ts) at) _ found one.rest in
    sym (same_value (one.value ∷ more.value) found more.rest) ∙ ap₂ (λ x xs. x ∷ xs) (path_read t (at ▸ decimal n) one.value one.is) (paths_from (suc n) ts at more.value more.is)

-- ---- the members of a set

-- the members as an object has them
abbrev ordered : Tests → List Entry
ordered t = given (codes "header") (λ v. v) (wanted t.header) ++ (given (codes "host") text_list t.host ++ (given (codes "method") text_list t.method
    ++ (given (codes "path") text_list t.path ++ given (codes "query") (λ v. v) (wanted t.query))))

abbrev members_of : Option (List (List ℕ)) → Option (List (List ℕ)) → Option (List (List ℕ)) → Option Tree → Option Tree → List Entry
members_of path method host header query = given (codes "path") text_list path ++ given (codes "method") text_list method
    ++ given (codes "host") text_list host ++ given (codes "header") (λ v. v) header ++ given (codes "query") (λ v. v) query

-- one more member goes behind those whose key is less
put_after : {A : Type 0} (e : Entry) (key : List ℕ) (f : A → Tree) (o : Option A) (rest : List Entry) → is_le (slice_cmp nat_cmp e.key key) ≡ false →
    put_by_key (λ (one : Entry). one.key) e (given key f o ++ rest) ≡ given key f o ++ put_by_key (λ (one : Entry). one.key) e rest
put_after e key f None rest less = refl
put_after e key f (Some a) rest less = rw less refl

-- and in front of others
put_before : {A : Type 0} (e : Entry) (key : List ℕ) (f : A → Tree) (o : Option A) → is_le (slice_cmp nat_cmp e.key key) ≡ true →
    put_by_key (λ (one : Entry). one.key) e (given key f o) ≡ e ∷ given key f o
put_before e key f None less = refl
put_before e key f (Some a) less = rw less refl

abbrev put : Entry → List Entry → List Entry
put e es = put_by_key (λ (one : Entry). one.key) e es

by_header : (hd q : Option Tree) → sorted (given (codes "header") (λ v. v) hd ++ given (codes "query") (λ v. v) q) ≡ given (codes "header") (λ v. v) hd ++ given (codes "query") (λ v. v) q
by_header None None = refl
by_header None (Some v) = refl
by_header (Some u) None = refl
by_header (Some u) (Some v) = refl

by_host : (h : Option (List (List ℕ))) (hd q : Option Tree) → sorted (given (codes "host") text_list h ++ given (codes "header") (λ v. v) hd ++ given (codes "query") (λ v. v) q)
    ≡ given (codes "header") (λ v. v) hd ++ (given (codes "host") text_list h ++ given (codes "query") (λ v. v) q)
by_host None hd q = by_header hd q
by_host (Some all) hd q = ap (put (member (codes "host") (text_list all))) (by_header hd q)
    ∙ (put_after (member (codes "host") (text_list all)) (codes "header") (λ v. v) hd _ refl
    ∙ ap (λ l. given (codes "header") (λ v. v) hd ++ l) (put_before (member (codes "host") (text_list all)) (codes "query") (λ v. v) q refl))

by_method : (m h : Option (List (List ℕ))) (hd q : Option Tree) → sorted (given (codes "method") text_list m ++ given (codes "host") text_list h ++ given (codes "header") (λ v. v) hd ++ given (codes "query") (λ v. v) q)
    ≡ given (codes "header") (λ v. v) hd ++ (given (codes "host") text_list h ++ (given (codes "method") text_list m ++ given (codes "query") (λ v. v) q))
by_method None h hd q = by_host h hd q
by_method (Some all) h hd q = ap (put (member (codes "method") (text_list all))) (by_host h hd q)
    ∙ (put_after (member (codes "method") (text_list all)) (codes "header") (λ v. v) hd _ refl
    ∙ ap (λ l. given (codes "header") (λ v. v) hd ++ l) (put_after (member (codes "method") (text_list all)) (codes "host") text_list h _ refl
    ∙ ap (λ l. given (codes "host") text_list h ++ l) (put_before (member (codes "method") (text_list all)) (codes "query") (λ v. v) q refl)))

by_path : (p m h : Option (List (List ℕ))) (hd q : Option Tree) → sorted (members_of p m h hd q)
    ≡ given (codes "header") (λ v. v) hd ++ (given (codes "host") text_list h ++ (given (codes "method") text_list m ++ (given (codes "path") text_list p ++ given (codes "query") (λ v. v) q)))
by_path None m h hd q = by_method m h hd q
by_path (Some all) m h hd q = ap (put (member (codes "path") (text_list all))) (by_method m h hd q)
    ∙ (put_after (member (codes "path") (text_list all)) (codes "header") (λ v. v) hd _ refl
    ∙ ap (λ l. given (codes "header") (λ v. v) hd ++ l) (put_after (member (codes "path") (text_list all)) (codes "host") text_list h _ refl
    ∙ ap (λ l. given (codes "host") text_list h ++ l) (put_after (member (codes "path") (text_list all)) (codes "method") text_list m _ refl
    ∙ ap (λ l. given (codes "method") text_list m ++ l) (put_before (member (codes "path") (text_list all)) (codes "query") (λ v. v) q refl))))

abbrev entries_of : Tests → List Entry
entries_of t = members_of t.path t.method t.host (wanted t.header) (wanted t.query)

in_order : (t : Tests) → sorted (entries_of t) ≡ ordered t
in_order t = by_path t.path t.method t.host (wanted t.header) (wanted t.query)

wanted_set : (key : List ℕ) (ws : List Wanted) → bytes_eq key (codes "@id") ≡ false → all_set (given key (λ v. v) (wanted ws)) ≡ true
wanted_set key [] other = refl
wanted_set key (w ∷ ws) other = rw (object_solid (entries (w ∷ ws)), other) refl

ordered_set : (t : Tests) → all_set (ordered t) ≡ true
ordered_set t =
    all_both _ _ (wanted_set (codes "header") t.header refl)
    (all_both _ _ (given_set (codes "host") text_list t.host refl (λ all. list_solid _))
    (all_both _ _ (given_set (codes "method") text_list t.method refl (λ all. list_solid _))
    (all_both _ _ (given_set (codes "path") text_list t.path refl (λ all. list_solid _))
    (wanted_set (codes "query") t.query refl))))

joined_both : {A : Type 0} {zs a b c d : List A} → zs ≡ a ++ b → a ≡ c → b ≡ d → zs ≡ c ++ d
joined_both whole one others = whole ∙ ap₂ (λ x y. x ++ y) one others

-- ---- what is read of each

module _ (inner : Reader (List MatcherSet)) where
  hosts_read : (o : Option (List (List ℕ))) (at : Path) (found : List Matcher) → each_entry (matcher inner) (given (codes "host") text_list o) at ≡ Ok found →
      found ≡ settings.given o (λ all. Host (record { patterns = all }))
  unfolding matcher matcher_of kind_named kind_name host_matcher
  hosts_read None at found h = sym (same_value [] found h)
  hosts_read (Some all) at found h = sym (same_value _ found (sym (ap (λ r. ((r ▷ λ patterns. Ok (record { patterns = patterns })) ▷ λ m. Ok (Host m)) ▷ λ x. Ok (x ∷ [])) (texts_are all (at ▸ codes "host"))) ∙ h))

  methods_read : (o : Option (List (List ℕ))) (at : Path) (found : List Matcher) → each_entry (matcher inner) (given (codes "method") text_list o) at ≡ Ok found →
      found ≡ settings.given o (λ all. Method (record { methods = all }))
  unfolding matcher matcher_of kind_named kind_name method_matcher
  methods_read None at found h = sym (same_value [] found h)
  methods_read (Some all) at found h = sym (same_value _ found (sym (ap (λ r. ((r ▷ λ methods. Ok (record { methods = methods })) ▷ λ m. Ok (Method m)) ▷ λ x. Ok (x ∷ [])) (texts_are all (at ▸ codes "method"))) ∙ h))

  paths_given : (all : List (List ℕ)) (r : Result (List PathPattern) LoadFault) (found : List Matcher) → ((patterns : List PathPattern) → r ≡ Ok patterns → patterns ≡ map path_pattern all) →
      (((r ▷ λ patterns. Ok (record { patterns = patterns })) ▷ λ m. Ok (ByPath m)) ▷ λ x. Ok (x ∷ [])) ≡ Ok found → found ≡ ByPath (record { patterns = map path_pattern all }) ∷ []
  paths_given all (Ok patterns) found read h = sym (same_value _ found h) ∙ ap (λ l. ByPath (record { patterns = l }) ∷ []) (read patterns refl)
  paths_given all (Err fault) found read h = cc

  paths_read : (o : Option (List (List ℕ))) (at : Path) (found : List Matcher) → each_entry (matcher inner) (given (codes "path") text_list o) at ≡ Ok found →
      found ≡ settings.given o (λ all. ByPath (record { patterns = map path_pattern all }))
  unfolding matcher matcher_of kind_named kind_name path_matcher
  paths_read None at found h = sym (same_value [] found h)
  paths_read (Some all) at found h = paths_given all (list_of path.path_pattern (text_list all) (at ▸ codes "path")) found
      (λ patterns is. paths_from 0 all (at ▸ codes "path") patterns (sym (list_is path.path_pattern _ (at ▸ codes "path")) ∙ is)) h

  headers_read : (ws : List Wanted) (at : Path) (found : List Matcher) → HaveFitValues (given (codes "header") (λ v. v) (wanted ws)) at →
      each_entry (matcher inner) (given (codes "header") (λ v. v) (wanted ws)) at ≡ Ok found → found ≡ header_given ws
  unfolding matcher matcher_of kind_named kind_name
  headers_read [] at found fit h = sym (same_value [] found h)
  headers_read (w ∷ ws) at found fit h =
      sym (same_value _ found (sym (ap (λ r. (r ▷ λ m. Ok (Header m)) ▷ λ x. Ok (x ∷ []))
      (fields_are (w ∷ ws) (at ▸ codes "header") (first_value (member (codes "header") (object (entries (w ∷ ws)))) [] at refl fit))) ∙ h))

  queries_read : (ws : List Wanted) (at : Path) (found : List Matcher) → HaveFitValues (given (codes "query") (λ v. v) (wanted ws)) at →
      each_entry (matcher inner) (given (codes "query") (λ v. v) (wanted ws)) at ≡ Ok found → found ≡ query_given ws
  unfolding matcher matcher_of kind_named kind_name
  queries_read [] at found fit h = sym (same_value [] found h)
  queries_read (w ∷ ws) at found fit h =
      sym (same_value _ found (sym (ap (λ r. (r ▷ λ m. Ok (Query m)) ▷ λ x. Ok (x ∷ []))
      (keys_are (w ∷ ws) (at ▸ codes "query") (first_value (member (codes "query") (object (entries (w ∷ ws)))) [] at refl fit))) ∙ h))

  matchers_from : (t : Tests) (at : Path) (found : List Matcher) → HaveFitValues (ordered t) at → each_entry (matcher inner) (ordered t) at ≡ Ok found → found ≡ matchers_of t
  matchers_from t at found fit h =
      let header = parted (matcher inner) (given (codes "header") (λ v. v) (wanted t.header)) _ at found h in
      let host = parted (matcher inner) (given (codes "host") text_list t.host) _ at header.others header.others_are in
      let method = parted (matcher inner) (given (codes "method") text_list t.method) _ at host.others host.others_are in
      let path = parted (matcher inner) (given (codes "path") text_list t.path) _ at method.others method.others_are in
      let after_header = other_parts (given (codes "header") (λ v. v) (wanted t.header)) _ at fit in
      let after_host = other_parts (given (codes "host") text_list t.host) _ at after_header in
      let after_method = other_parts (given (codes "method") text_list t.method) _ at after_host in
      let after_path = other_parts (given (codes "path") text_list t.path) _ at after_method in
      joined_both header.whole (headers_read t.header at header.first (first_values (given (codes "header") (λ v. v) (wanted t.header)) _ at fit) header.first_is)
      (joined_both host.whole (hosts_read t.host at host.first host.first_is)
      (joined_both method.whole (methods_read t.method at method.first method.first_is)
      (joined_both path.whole (paths_read t.path at path.first path.first_is) (queries_read t.query at path.others after_path path.others_are))))

  set_read : (t : Tests) (at : Path) (found : MatcherSet) → HasFitIds (set_of t) at → matcher_set inner (set_of t) at ≡ Ok found → found ≡ roll-MatcherSet (record { matchers = matchers_of t })
  unfolding matcher_set
  set_read t at found fit h =
      let read = went (each_entry (matcher inner) (ordered t) at) _ found (ap (λ r. r ▷ λ matchers. Ok (roll-MatcherSet (record { matchers = matchers })))
      (sym (entries_are (matcher inner) (entries_of t) at (ap all_set (in_order t) ∙ ordered_set t) ∙ ap (λ es. each_entry (matcher inner) es at) (in_order t))) ∙ h) in
      sym (same_value _ found read.rest) ∙ ap (λ l. roll-MatcherSet (record { matchers = l })) (matchers_from t at read.value (subst (λ es. HaveFitValues es at) (in_order t) (in_object (entries_of t) at fit)) read.is)

-- the `match` of a route with one set
pub match_read : (t : Tests) (at : Path) (found : Sets) → HasFitIds (list (set_of t ∷ [])) at → route_sets (list (set_of t ∷ [])) at ≡ Ok found → found ≡ sets_of (Some t)
unfolding route_sets
match_read t at found fit h =
    let all = went (each (matcher_set sets) 0 (set_of t ∷ []) at) _ found (ap (λ r. r ▷ λ all. Ok (record { sets = all })) (sym (sets_are (list (set_of t ∷ [])) at ∙ list_is (matcher_set sets) (set_of t ∷ []) at)) ∙ h) in
    let one = went (matcher_set sets (set_of t) (at ▸ decimal 0)) _ all.value all.is in
    sym (same_value _ found all.rest)
    ∙ ap (λ l. record { sets = l }) (sym (same_value (one.value ∷ []) all.value one.rest) ∙ ap (λ s. s ∷ []) (set_read sets t (at ▸ decimal 0) one.value (first_element 0 (set_of t) [] at (in_list (set_of t ∷ []) at fit)) one.is))

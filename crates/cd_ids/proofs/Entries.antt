-- The index as the entries of its map.
use Rattle.std.proofs.Common.{◌≡◌, ℕ, List, [], ◌∷◌, ◌++◌, Some, None, Ok, map, String, string_bytes, refl, sym, ap, ◌∙◌}
use Rattle.std.specs.Prelude.{if◌then◌else◌, string_eq}
use Rattle.std.specs.Str.{bytes_eq}
use Rattle.std.specs.Map.{lookup}
use Rattle.indexmap.specs.IndexMap.{IndexMap, insert_entry}
use Rattle.indexmap.proofs.CallerLemmas.{insert_entry-new}
use Rattle.cd_tree.specs.declared.path.Path.{Path}
use Rattle.cd_ids.specs.Ids.{path_of}
use Rattle.cd_ids.specs.Noting.{note, with_id}

module _ {Y : Type 0} where
  -- the ids and paths in the entries
  abbrev pub seen : List (String Y × Path) → List (List ℕ × Path)
  seen es = map (λ one. (string_bytes one.0, one.1)) es

  -- the path that the map has for a text is the one that the list has
  pub path_of-seen : (name : List ℕ) (es : List (String Y × Path)) → path_of name (seen es) ≡ lookup (λ k. bytes_eq name (string_bytes k)) es
  path_of-seen name [] = refl
  path_of-seen name (e ∷ es) = ap (λ rest. if bytes_eq name (string_bytes e.0) then Some e.1 else rest) (path_of-seen name es)

  seen-push : (es : List (String Y × Path)) (k : String Y) (v : Path) → seen (es ++ (k, v) ∷ []) ≡ seen es ++ (string_bytes k, v) ∷ []
  seen-push [] k v = refl
  seen-push (e ∷ es) k v = ap (λ rest. (string_bytes e.0, e.1) ∷ rest) (seen-push es k v)

  -- an id that is not there goes last
  pub noted_new : {S : Type 0} (old new : IndexMap (String Y) Path S) (k : String Y) (at : Path) → path_of (string_bytes k) (seen old.entries) ≡ None
      → new.entries ≡ insert_entry string_eq old.entries k at → note (seen old.entries) (string_bytes k) at ≡ Ok (seen new.entries)
  noted_new old new k at absent is =
      let none = sym (path_of-seen (string_bytes k) old.entries) ∙ absent in
      ap (λ found. with_id found (seen old.entries) (string_bytes k) at) absent
      ∙ ap Ok (sym (ap seen (is ∙ insert_entry-new string_eq old k at none) ∙ seen-push old.entries k at))

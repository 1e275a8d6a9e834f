-- What is written behind bytes leaves what lies at places in them.
use Rattle.std.proofs.Common.{◌≡◌, ℕ, zero, suc, ◌+◌, ◌-◌, ◌<◌, ◌≤◌, Bool, true, false, cond, ◌||◌, if◌then◌else◌, List, [], ◌∷◌, ◌++◌, length, map, filter, take, drop, get_or, slice_range, bytes_eq, codes, refl, sym, ap, ◌∙◌, append_assoc, arith, length-append}
use Rattle.std.proofs.lemmas.List.{drop-append-le, take-append-le, length-drop, append-nil, map-append, take_more}
use Rattle.std.specs.List.{list_any}
use Rattle.std.proofs.lemmas.List.Elements.{filter-append}
use Rattle.std.proofs.lemmas.List.Folds.{list_any-append}
use Rattle.std.proofs.Math.Seq.{drop-append_seam, take-append_seam}
use Rattle.httparse.specs.declared.spans.HeaderSpan.{HeaderSpan}
use Rattle.httparse.specs.Spans.{header_bytes}
use Rattle.cd_wire.specs.declared.place.Place.{Place}
use Rattle.cd_wire.specs.declared.fields.Field.{Field}
use Rattle.cd_wire.specs.Fields.{is_named, values}
use Rattle.cd_wire.specs.Framing.{is_closing}
use Rattle.cd_wire.specs.Heads.{field_of}
use Rattle.cd_wire.specs.declared.marks.Marks.{Marks}
use Rattle.cd_wire.specs.Marks.{IsMarked, AreMarks}
use Rattle.cd_wire.specs.Places.{IsPlaceIn, ArePlacesIn, field_at, fields_at, IsWritten, HasFields}

pub slice_range-append : (xs ys : List ℕ) (a b : ℕ) → a ≤ b → b ≤ length xs → slice_range (xs ++ ys) a b ≡ slice_range xs a b
slice_range-append xs ys a b le within =
    ap (take (b - a)) (drop-append-le a xs ys (omega arith))
    ∙ take-append-le (b - a) (drop a xs) ys (omega (arith, length-drop a xs))

-- a place in fewer bytes
place_in_more : (count more : ℕ) (place : Place) → count ≤ more → IsPlaceIn count place → IsPlaceIn more place
place_in_more count more place le h = (h.0, h.1, omega (arith, h.2))

pub places_in_more : (count more : ℕ) (places : List Place) → count ≤ more → ArePlacesIn count places → ArePlacesIn more places
places_in_more count more [] le h = h
places_in_more count more (place ∷ places) le h = (place_in_more count more place le h.0, places_in_more count more places le h.1)

pub places_in-push : (count : ℕ) (places : List Place) (place : Place) → ArePlacesIn count places → IsPlaceIn count place
    → ArePlacesIn count (places ++ place ∷ [])
places_in-push count [] place h p = (p, h)
places_in-push count (first ∷ places) place h p = (h.0, places_in-push count places place h.1 p)

-- a field by its two parts
same_field : (a b c d : List ℕ) → a ≡ c → b ≡ d → let f : Field = record { name = a; value = b } in let g : Field = record { name = c; value = d } in f ≡ g
same_field a b c d e h = rw (e, h) refl

pub field_at-append : (bytes more : List ℕ) (place : Place) → IsPlaceIn (length bytes) place
    → field_at (bytes ++ more) place ≡ field_at bytes place
field_at-append bytes more place h =
    same_field _ _ _ _ (slice_range-append bytes more place.start place.middle h.0 (omega (arith, h.1, h.2)))
    (slice_range-append bytes more place.middle place.end h.1 h.2)

pub fields_at-append : (bytes more : List ℕ) (places : List Place) → ArePlacesIn (length bytes) places
    → fields_at (bytes ++ more) places ≡ fields_at bytes places
fields_at-append bytes more [] h = refl
fields_at-append bytes more (place ∷ places) h =
    rw (field_at-append bytes more place h.0, fields_at-append bytes more places h.1) refl

-- ---- what was written

module _ (old first second new : List ℕ) (place : Place) (w : IsWritten old first second new place) where
  written_length : length new ≡ length old + (length first + length second)
  written_length = ap length w.is ∙ length-append old (first ++ second) ∙ ap (λ n. length old + n) (length-append first second)

  pub written_in : IsPlaceIn (length new) place
  written_in = (omega (arith, w.start, w.middle), omega (arith, w.middle, w.end, written_length), omega (arith, w.end))

  pub written_first : slice_range new place.start place.middle ≡ first
  written_first =
      let size : place.middle - place.start ≡ length first = omega (arith, w.start, w.middle) in
      rw (size, w.start, w.is, drop-append_seam old (first ++ second)) (take-append_seam first second)

  pub written_second : slice_range new place.middle place.end ≡ second
  written_second =
      let size : place.end - place.middle ≡ length second = omega (arith, w.middle, w.end, written_length) in
      let at : place.middle ≡ length (old ++ first) = w.middle ∙ sym (length-append old first) in
      let whole : new ≡ (old ++ first) ++ (second ++ []) = w.is ∙ sym (append_assoc old first second) ∙ ap (λ t. (old ++ first) ++ t) (sym (append-nil second)) in
      rw (size, at, whole, drop-append_seam (old ++ first) (second ++ [])) (take-append_seam second [])

-- no fields yet
pub no_fields : (old : List ℕ) → HasFields old old [] []
no_fields old = record { more = []; is = sym (append-nil old); within = tt; are = refl }

-- one more field
pub has_fields-push : (old mid new : List ℕ) (places : List Place) (fields : List Field) (place : Place) (name value : List ℕ)
    → HasFields old mid places fields → IsWritten mid name value new place
    → HasFields old new (places ++ place ∷ []) (fields ++ record { name = name; value = value } ∷ [])
has_fields-push old mid new places fields place name value h w =
    let same : fields_at new places ≡ fields =
    rw w.is (fields_at-append mid (name ++ value) places h.within ∙ h.are) in
    let one : field_at new place ≡ record { name = name; value = value } =
    same_field _ _ _ _ (written_first mid name value new place w) (written_second mid name value new place w) in
    record {
      more = h.more ++ (name ++ value);
      is = w.is ∙ ap (λ t. t ++ (name ++ value)) h.is ∙ append_assoc old h.more (name ++ value);
      within = places_in-push (length new) places place
          (places_in_more (length mid) (length new) places (omega (arith, written_length mid name value new place w)) h.within)
          (written_in mid name value new place w);
      are = map-append (field_at new) places (place ∷ []) ∙ rw (same, one) refl;
    }

-- ---- one place of several

pub place_listed : (count : ℕ) (places : List Place) (i : ℕ) (other : Place) → i < length places → ArePlacesIn count places
    → IsPlaceIn count (get_or places i other)
place_listed count [] i other within h = absurd (omega arith)
place_listed count (place ∷ places) zero other within h = h.0
place_listed count (place ∷ places) (suc i) other within h = place_listed count places i other (omega arith) h.1

value_of : (named : Bool) (f : Field) → map (λ (field : Field). field.value) (cond named (f ∷ []) []) ≡ (if named then f.value ∷ [] else [])
value_of true f = refl
value_of false f = refl

-- the values of a name, with one more field
values-push : (name : List ℕ) (fields : List Field) (f : Field)
    → values name (fields ++ f ∷ []) ≡ values name fields ++ (if bytes_eq f.name name then f.value ∷ [] else [])
values-push name fields f =
    ap (map (λ (field : Field). field.value)) (filter-append (is_named name) fields (f ∷ []))
    ∙ map-append (λ (field : Field). field.value) (filter (is_named name) fields) (filter (is_named name) (f ∷ []))
    ∙ ap (λ t. values name fields ++ t) (value_of (is_named name f) f)

-- the same of places
pub values_at-push : (name bytes : List ℕ) (places : List Place) (i : ℕ) (other : Place) → i < length places
    → values name (fields_at bytes (take (i + 1) places))
    ≡ values name (fields_at bytes (take i places))
    ++ (if bytes_eq (field_at bytes (get_or places i other)).name name then (field_at bytes (get_or places i other)).value ∷ [] else [])
values_at-push name bytes places i other within =
    ap (λ (t : List Place). values name (fields_at bytes t)) (take_more places i other within)
    ∙ ap (values name) (map-append (field_at bytes) (take i places) (get_or places i other ∷ []))
    ∙ values-push name (fields_at bytes (take i places)) (field_at bytes (get_or places i other))

or_false : (b : Bool) → (b || false) ≡ b
or_false true = refl
or_false false = refl

-- whether one of them closes the connection, with one more place
pub closing_at-push : (bytes : List ℕ) (places : List Place) (i : ℕ) (other : Place) → i < length places
    → list_any is_closing (fields_at bytes (take (i + 1) places))
    ≡ (list_any is_closing (fields_at bytes (take i places)) || is_closing (field_at bytes (get_or places i other)))
closing_at-push bytes places i other within =
    ap (λ (t : List Place). list_any is_closing (fields_at bytes t)) (take_more places i other within)
    ∙ ap (list_any is_closing) (map-append (field_at bytes) (take i places) (get_or places i other ∷ []))
    ∙ list_any-append is_closing (fields_at bytes (take i places)) (field_at bytes (get_or places i other) ∷ [])
    ∙ ap (λ b. list_any is_closing (fields_at bytes (take i places)) || b) (or_false (is_closing (field_at bytes (get_or places i other))))

-- what is found, with one more field
pub marked_more : (fields : List Field) (f : Field) (old new : Marks) → AreMarks fields old → IsMarked old f.name f.value new
    → AreMarks (fields ++ f ∷ []) new
marked_more fields f old new have marked = record {
  host = rw (values-push (codes "host") fields f) (marked.host _ have.host);
  coding = rw (values-push (codes "transfer-encoding") fields f) (marked.coding _ have.coding);
  length = rw (values-push (codes "content-length") fields f) (marked.length _ have.length);
  closing = marked.closing ∙ ap (λ b. b || is_closing f) have.closing
      ∙ sym (list_any-append is_closing fields (f ∷ []) ∙ ap (λ b. list_any is_closing fields || b) (or_false (is_closing f)));
}

-- ---- the fields of a head

pub fields_of-push : (bytes : List ℕ) (headers : List HeaderSpan) (i : ℕ) (other : HeaderSpan) → i < length headers
    → map field_of (map (header_bytes bytes) (take (i + 1) headers))
    ≡ map field_of (map (header_bytes bytes) (take i headers)) ++ field_of (header_bytes bytes (get_or headers i other)) ∷ []
fields_of-push bytes headers i other within =
    ap (λ (t : List HeaderSpan). map field_of (map (header_bytes bytes) t)) (take_more headers i other within)
    ∙ ap (map field_of) (map-append (header_bytes bytes) (take i headers) (get_or headers i other ∷ []))
    ∙ map-append field_of (map (header_bytes bytes) (take i headers)) (header_bytes bytes (get_or headers i other) ∷ [])

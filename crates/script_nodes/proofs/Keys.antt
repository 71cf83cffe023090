-- Sets and maps that hold names as borrowed texts are lists of names.
use Rattle.std.proofs.Common.{◌≡◌, ℕ, ◌+◌, List, [], ◌∷◌, ◌++◌, map, take, Option, Some, Bool, true}
use Rattle.std.proofs.Common.{false, not, ◌||◌, cond, None, nat_lt, length, refl, sym, ap, ◌∙◌}
use Rattle.std.proofs.Common.{if◌then◌else◌}
use Rattle.std.specs.List.{list_any, position, position_or_len, take-map}
use Rattle.std.specs.Str.{bytes_eq}
use Rattle.std.specs.Borrow.{Bor}
use Rattle.std.specs.HashMap.{HashMap, get_by}
use Rattle.std.specs.Map.{lookup}
use Rattle.std.proofs.lemmas.List.{length-map, map-append}
use Rattle.indexmap.specs.IndexMap.{insert_entry}
use Rattle.indexmap.specs.IndexSet.{insert_key}
use Rattle.script_nodes.specs.Known.{Name, entry_of, with_entry, variables_with}

abbrev pub text : Bor Name → Name
text n = n.now

-- names are compared by their texts
abbrev pub same : Bor Name → Bor Name → Bool
same a b = bytes_eq a.now b.now

-- ---- sets

among : (ks : List (Bor Name)) (k : Bor Name)
    → list_any (bytes_eq k.now) (map text ks) ≡ list_any (same k) ks
among [] k = refl
among (x ∷ ks) k = ap (λ b. bytes_eq k.now x.now || b) (among ks k)

put_where : (b : Bool) (ks : List (Bor Name)) (k : Bor Name)
    → map text (if b then ks else ks ++ k ∷ []) ≡ (if b then map text ks
    else map text ks ++ k.now ∷ [])
put_where true ks k = refl
put_where false ks k = map-append text ks (k ∷ [])

pub put_key : (ks new : List (Bor Name)) (k : Bor Name) (names : List Name) → map text ks ≡ names
    → new ≡ insert_key same ks k → map text new ≡ variables_with names k.now
put_key ks new k names e h = ap (map text) h ∙ put_where (list_any (same k) ks) ks k
    ∙ ap (λ b. if b then map text ks else map text ks ++ k.now ∷ []) (sym (among ks k))
    ∙ ap (λ l. variables_with l k.now) e

placed_in : (ks : List (Bor Name)) (k : Bor Name)
    → position_or_len (same k) ks ≡ position_or_len (bytes_eq k.now) (map text ks)
placed_in [] k = refl
placed_in (x ∷ ks) k = ap (λ n. cond (not (bytes_eq k.now x.now)) (1 + n) 0) (placed_in ks k)

pub place_of_key : (ks : List (Bor Name)) (k : Bor Name) (names : List Name) (place : ℕ)
    → map text ks ≡ names → place ≡ position_or_len (same k) ks
    → place ≡ position_or_len (bytes_eq k.now) names
place_of_key ks k names place e h = h ∙ placed_in ks k ∙ ap (position_or_len (bytes_eq k.now)) e

pub index_of_key : (ks : List (Bor Name)) (k : Bor Name) (names : List Name) (o : Option ℕ)
    → map text ks ≡ names → o ≡ position (same k) ks → o ≡ position (bytes_eq k.now) names
index_of_key ks k names o e h =
    let at : position_or_len (same k) ks ≡ position_or_len (bytes_eq k.now) names =
    placed_in ks k ∙ ap (position_or_len (bytes_eq k.now)) e in
    let long : length ks ≡ length names = sym (length-map ks text) ∙ ap length e in
    h ∙ (λ i. cond (nat_lt (at i) (long i)) (Some (at i)) None)

pub kept_keys : (ks new : List (Bor Name)) (n : ℕ) (names : List Name) → map text ks ≡ names
    → new ≡ take n ks → map text new ≡ take n names
kept_keys ks new n names e h = ap (map text) h ∙ sym (take-map text n ks) ∙ ap (take n) e

-- ---- maps

module _ {A : Type 0} where
  abbrev pub entry : Bor Name × A → Name × A
  entry e = (e.0.now, e.1)

  put_at : (es : List (Bor Name × A)) (k : Bor Name) (a : A)
      → map entry (insert_entry same es k a) ≡ with_entry (map entry es) k.now a
  put_at [] k a = refl
  put_at (e ∷ es) k a = by_test (bytes_eq k.now e.0.now) (put_at es k a)
    where
      by_test : (b : Bool)
          → map entry (insert_entry same es k a) ≡ with_entry (map entry es) k.now a
          → map entry (if b then (e.0, a) ∷ es else e ∷ insert_entry same es k a)
          ≡ (if b then (e.0.now, a) ∷ map entry es else entry e ∷ with_entry (map entry es) k.now a)
      by_test true h = refl
      by_test false h = ap (λ l. entry e ∷ l) h

  pub put_entry : (es new : List (Bor Name × A)) (k : Bor Name) (a : A) (names : List (Name × A))
      → map entry es ≡ names → new ≡ insert_entry same es k a
      → map entry new ≡ with_entry names k.now a
  put_entry es new k a names e h =
      ap (map entry) h ∙ put_at es k a ∙ ap (λ l. with_entry l k.now a) e

  found_in : (es : List (Bor Name × A)) (k : Bor Name)
      → lookup (same k) es ≡ entry_of (map entry es) k.now
  found_in [] k = refl
  found_in (e ∷ es) k = ap (λ o. if bytes_eq k.now e.0.now then Some e.1 else o) (found_in es k)

  pub found_entry : {S : Type 0} (m : HashMap (Bor Name) A S) (k : Bor Name)
      (names : List (Name × A)) (r : Option A) → map entry m.entries ≡ names → r ≡ get_by (same k) m
      → r ≡ entry_of names k.now
  found_entry m k names r e h = h ∙ found_in m.entries k ∙ ap (λ l. entry_of l k.now) e

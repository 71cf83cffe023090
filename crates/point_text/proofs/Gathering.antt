-- Entries are gathered one by one.
use Rattle.std.specs.Prelude.{◌≡◌, ℕ, zero, suc, List, [], ◌∷◌, ◌++◌, length, map, slice_get}
use Rattle.std.specs.Prelude.{Option, Some, None, Bool, true, false, refl}
use Rattle.std.specs.List.{AllByRecursion}
use Rattle.std.specs.Option.{option_map}
use Rattle.std.proofs.Common.{arith, sym, ap, ◌∙◌, subst, inl, inr, append_assoc, append-nil}
use Rattle.std.proofs.Common.{length-append}
use Rattle.std.proofs.Math.ListN.{set, length-set}
use Rattle.std.proofs.lemmas.Option.{none-some, same_Some, slice_get-map}
use Rattle.std.specs.declared.result.Result.{Result}
use Rattle.std.specs.declared.result.Result.TheVariants.{Err}
use Rattle.fx_model.specs.declared.Literal.{Literal}
use Rattle.script_words.specs.declared.class.Symbol.TheVariants as s
use Rattle.script_words.specs.declared.lex.TokenKind.{TokenKind}
use Rattle.script_words.specs.declared.lex.Token.{Token}
use Rattle.script_words.specs.declared.lex.TokenKind.TheVariants as kind
use Rattle.script_words.specs.Lex.{Lexes}
use Rattle.script_words.specs.Named.{token_text}
use Rattle.script_nodes.specs.Known.{Name}
use Rattle.point_values.specs.Rows.{Row}
use Rattle.point_text.specs.Points.{parts_of, Entry, entry_parts, entries_parts, IsRowOf}
use Rattle.point_text.specs.Points.{IsShortText, SpellsPoint}
use Rattle.point_text.specs.Taken.{IsFirst, IsNameTaken, IsRowTaken, IsTaken, IsLiteralTaken}
use Rattle.point_text.specs.Taken.{IsSignTaken, IsDivisorTaken}
use Rattle.point_text.proofs.Standing.{parts_append}
use Rattle.point_text.specs.Gathered.{Gathering, Gathered, gathered, IsUnset, IsMissing}
use Rattle.point_text.specs.declared.fault.PointFault.{PointFault}
use Rattle.point_text.specs.declared.fault.PointKind.TheVariants as fault
use Rattle.point_text.specs.declared.fault.PointStop.{PointStop}
use Rattle.point_text.specs.declared.fault.PointStop.TheVariants.{Fault}
use Rattle.point_text.proofs.Faults.{rose}
use Rattle.point_text.proofs.Entries.{entry_taken, entries_push}
use Rattle.point_text.proofs.Places.{push_cases, push_old, push_last, set_here, set_keeps}
use Rattle.point_text.proofs.Places.{set_cases, unset_or_set, first_once}

unset_rows : (rows : List (Option Row)) → AllByRecursion IsUnset rows → (i : ℕ) (row : Row)
    → ¬ (slice_get rows i ≡ Some (Some row))
unset_rows [] h i row e = none-some _ e
unset_rows (None ∷ rows) h zero row e = none-some _ (same_Some _ _ e)
unset_rows (None ∷ rows) h (suc i) row e = unset_rows rows h.1 i row e
unset_rows (Some r ∷ rows) h i row e = h.0

pub gathered_none : (variables : List Name) (text : List ℕ) (tokens : List Token) (rows :
    List (Option Row))
    → length rows ≡ length variables → AllByRecursion IsUnset rows
    → Gathered variables text tokens tokens rows
gathered_none variables text tokens rows count u = gathered (record {
  before = [];
  split = refl;
  entries = [];
  parts = refl;
  count = count;
  set = λ k e h. absurd (none-some _ h);
  said = λ i row h. absurd (unset_rows rows u i row h);
  once = λ j k d e h. absurd (none-some _ h);
})

-- ---- the tokens of an entry

taken_tail : (k : TokenKind) (rest later : List Token) → IsTaken k rest later → (t : Token)
    × (rest ≡ t ∷ later)
taken_tail k [] later h = absurd h
taken_tail k (t ∷ ts) later h = (t, ap (λ us. t ∷ us) h.1)

literal_tail : (text : List ℕ) (l : Literal) (rest later : List Token)
    → IsLiteralTaken text rest l later
    → (t : Token) × (rest ≡ t ∷ later)
literal_tail text l [] later h = absurd h
literal_tail text l (t ∷ ts) later h = (t, ap (λ us. t ∷ us) h.2)

sign_tail : (b : Bool) (rest later : List Token) → IsSignTaken rest b later → (ms : List Token)
    × (rest ≡ ms ++ later)
sign_tail true rest later h = let w = taken_tail (kind.Sign s.Minus) rest later h in (w.0 ∷ [], w.1)
sign_tail false rest later (inl h) = ([], h.0)
sign_tail false rest later (inr h) = let w = taken_tail (kind.Sign s.Plus) rest later h in
    (w.0 ∷ [], w.1)

divisor_tail : (text : List ℕ) (o : Option Literal) (rest later : List Token)
    → IsDivisorTaken text rest o later
    → (ds : List Token) × (rest ≡ ds ++ later)
divisor_tail text None rest later h = ([], h.0)
divisor_tail text (Some l) rest later h =
    let w = taken_tail (kind.Sign s.Slash) rest h.0 h.1 in
    let v = literal_tail text l h.0 later h.2 in
    (w.0 ∷ (v.0 ∷ []), w.1 ∙ ap (λ us. w.0 ∷ us) v.1)

row_tail : (text : List ℕ) (rest : List Token) (row : Row) (later : List Token)
    → IsRowTaken text rest row later
    → (mids : List Token) × (rest ≡ mids ++ later)
row_tail text rest row later r =
    let e = taken_tail (kind.Sign s.Equal) rest r.behind_equal r.equal in
    let g = sign_tail row.0.negative r.behind_equal r.behind_sign r.sign in
    let n = literal_tail text row.0.literal r.behind_sign r.behind_number r.number in
    let d = divisor_tail text row.1 r.behind_number r.behind_divisor r.divisor in
    let m = taken_tail (kind.Sign s.Semicolon) r.behind_divisor later r.semicolon in (
      e.0 ∷ (g.0 ++ (n.0 ∷ (d.0 ++ (m.0 ∷ [])))),
      e.1 ∙ ap (λ us. e.0 ∷ us) (g.1
          ∙ ap (λ us. g.0 ++ us) (n.1 ∙ ap (λ us. n.0 ∷ us) (d.1 ∙ ap (λ us. d.0 ++ us) m.1
          ∙ sym (append_assoc d.0 (m.0 ∷ []) later)))
          ∙ sym (append_assoc g.0 (n.0 ∷ (d.0 ++ (m.0 ∷ []))) later)),
    )

cancel_right : {A : Type 0} (xs ys zs : List A) → xs ++ zs ≡ ys ++ zs → xs ≡ ys
cancel_right [] [] zs h = refl
cancel_right [] (y ∷ ys) zs h = absurd (let e = ap length h in let n = length-append ys zs in
    omega arith)
cancel_right (x ∷ xs) [] zs h = absurd (let e = ap length h in let n = length-append xs zs in
    omega arith)
cancel_right (x ∷ xs) (y ∷ ys) zs h =
    let q : x ≡ y = cc in
    let r : xs ++ zs ≡ ys ++ zs = cc in
    ap (λ z. z ∷ xs) q ∙ ap (λ us. y ∷ us) (cancel_right xs ys zs r)

gathering_more : (variables : List Name) (text : List ℕ) (tokens rest later : List Token) (t :
    Token) (rows : List (Option Row)) (place : ℕ) (row : Row)
    → Gathering variables text tokens (t ∷ rest) rows → t.kind ≡ kind.Name → slice_get rows place
    ≡ Some None
    → IsFirst variables (token_text text t) place → IsRowTaken text rest row later
    → Gathering variables text tokens later (set rows place (Some row))
gathering_more variables text tokens rest later t rows place row g k unset first taken =
    let x = entry_taken text t rest row later k taken in
    let e = x.0 in
    let es = g.entries in
    let mids = row_tail text rest row later taken in
    let mine : parts_of text (t ∷ mids.0) ≡ entry_parts e =
    cancel_right (parts_of text (t ∷ mids.0)) (entry_parts e) (parts_of text later)
    (sym (parts_append text (t ∷ mids.0) later) ∙ ap (λ us. parts_of text (t ∷ us)) (sym mids.1)
    ∙ x.2) in
    let fresh : (j : ℕ) (d : Entry) → slice_get es j ≡ Some d → d.variable ≡ e.variable → ⊥ =
    λ j d h q. let w = g.set j d h in
    unset_or_set (slice_get rows w.0) w.1
    (ap (slice_get rows) (first_once variables d.variable (token_text text t) w.0 place (q
    ∙ x.1) w.3 first) ∙ unset) w.2 in
    let here : IsFirst variables e.variable place =
    subst (λ v. IsFirst variables v place) (sym x.1) first in
    record {
      before = g.before ++ (t ∷ mids.0);
      split = g.split ∙ ap (λ us. g.before ++ (t ∷ us)) mids.1
          ∙ sym (append_assoc g.before (t ∷ mids.0) later);
      entries = es ++ (e ∷ []);
      parts = parts_append text g.before (t ∷ mids.0)
          ∙ ap (λ ps. ps ++ parts_of text (t ∷ mids.0)) g.parts
          ∙ ap (λ ps. entries_parts es ++ ps) mine ∙ sym (entries_push es e);
      count = length-set rows place (Some row) ∙ g.count;
      set = λ k d h. elim (push_cases es e k d h) [
        | inl a ↦ let w = g.set k d a in
            (w.0, w.1, set_keeps rows place w.0 (Some row) w.1 unset w.2, w.3)
        | inr b ↦ (
          place,
          row,
          set_here rows place None (Some row) unset,
          subst (λ f. IsFirst variables f.variable place) b.1 here,
        )
      ];
      said = λ i r h. elim (set_cases rows place i (Some row) (Some r) h) [
        | inl a ↦ (
          length es,
          e,
          push_last es e,
          subst (IsFirst variables e.variable) (sym a.0) here,
          subst (IsRowOf e) (same_Some _ _ a.1) x.3,
        )
        | inr b ↦ let w = g.said i r b in (w.0, w.1, push_old es e w.0 w.1 w.2, w.3, w.4)
      ];
      once = λ j k d f hj hk same. elim (push_cases es e j d hj) [
        | inl a ↦ elim (push_cases es e k f hk) [
          | inl b ↦ g.once j k d f a b same
          | inr b ↦ absurd
              (fresh j d a (same ∙ sym (ap (λ n. n.variable) b.1)))
        ]
        | inr a ↦ elim (push_cases es e k f hk) [
          | inl b ↦ absurd
              (fresh k f b (sym same ∙ sym (ap (λ n. n.variable) a.1)))
          | inr b ↦ a.0 ∙ sym b.0
        ]
      ];
    }

pub gathered_more : (variables : List Name) (text : List ℕ) (tokens rest mid later : List Token)
    (v : Name) (rows : List (Option Row)) (place : ℕ) (row : Row)
    → Gathered variables text tokens rest rows → IsNameTaken text rest v mid
    → slice_get rows place ≡ Some None → IsFirst variables v place → IsRowTaken text mid row later
    → Gathered variables text tokens later (set rows place (Some row))
gathered_more variables text tokens [] mid later v rows place row g n unset first taken = absurd n
gathered_more variables text tokens (t ∷ ts) mid later v rows place row (gathered g) n unset first
    taken =
    gathered (gathering_more variables text tokens ts later t rows place row g n.0 unset
    (subst (λ w. IsFirst variables w place) (sym n.1) first)
    (subst (λ us. IsRowTaken text us row later) (sym n.2) taken))

pub gathered_all : (variables : List Name) (text : List ℕ) (tokens rest : List Token) (rows :
    List (Option Row)) → rest ≡ [] → Gathered variables text tokens rest rows
    → Gathered variables text tokens [] rows
gathered_all variables text tokens rest rows e g =
    subst (λ us. Gathered variables text tokens us rows) e g

spelled_by : (variables : List Name) (text : List ℕ) (tokens : List Token) (rows :
    List (Option Row)) (all : List Row) → IsShortText text → Lexes 0 text tokens None
    → Gathering variables text tokens [] rows
    → rows ≡ map (λ r. Some r) all → length all ≡ length variables → SpellsPoint variables text all
spelled_by variables text tokens rows all short lexed g same count = record {
  short = short;
  tokens = tokens;
  lexed = lexed;
  entries = g.entries;
  parts = ap (parts_of text) (g.split ∙ append-nil g.before) ∙ g.parts;
  known = λ k e h. let w = g.set k e h in (w.0, w.3.there);
  once = g.once;
  count = count;
  each = λ i v row hv hr.
      let w = g.said i row (ap (λ rs. slice_get rs i) same ∙ slice_get-map (λ r. Some r) all i
      ∙ ap (option_map (λ r. Some r)) hr) in
      (w.0, w.1, w.2, same_Some _ _ (sym w.3.there ∙ hv), w.4);
}

pub spelled : (variables : List Name) (text : List ℕ) (tokens : List Token) (rows :
    List (Option Row)) (all : List Row) → IsShortText text → Lexes 0 text tokens None
    → Gathered variables text tokens [] rows
    → rows ≡ map (λ r. Some r) all → length all ≡ length variables → SpellsPoint variables text all
spelled variables text tokens rows all short lexed (gathered g) same count =
    spelled_by variables text tokens rows all short lexed g same count

missing_place : (all : List Row) (rest : List (Option Row)) → slice_get rest 0 ≡ Some None
    → slice_get (map (λ r. Some r) all ++ rest) (length all) ≡ Some None
missing_place [] rest h = h
missing_place (r ∷ all) rest h = missing_place all rest h

pub missing_here : (rows rest : List (Option Row)) (all : List Row) (len : ℕ) (d f : PointFault)
    → rows ≡ map (λ r. Some r) all ++ rest → slice_get rest 0 ≡ Some None
    → d ≡ record { kind = fault.Missing; at = len }
    → (let r : Result (List Row) PointStop = Err (Fault d) in r ≡ Err (Fault f))
    → IsMissing rows len f
missing_here rows rest all len d f h n q e = record {
  place = length all;
  unset = ap (λ rs. slice_get rs (length all)) h ∙ missing_place all rest n;
  fault = sym (rose _ d f (Fault d) refl refl e) ∙ q;
}

-- how entries are gathered
pub ruleset gathers = (gathered_none, gathered_more, gathered_all)

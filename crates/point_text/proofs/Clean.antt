-- Tokens among which there is no fault: names, literals and divisors.
use Rattle.std.specs.Prelude.{◌≡◌, ◌≢◌, ◌⊎◌, ℕ, zero, suc, List, [], ◌∷◌, ◌++◌, length, slice_get}
use Rattle.std.specs.Prelude.{Option, Some, None}
use Rattle.std.proofs.Common.{sym, ap, ◌∙◌, subst, inl, inr, arith}
use Rattle.std.proofs.lemmas.Option.{none-some, same_Some, slice_get_within}
use Rattle.fx_model.specs.declared.Literal.{Literal}
use Rattle.literal.specs.Normal.{IsReading}
use Rattle.script_nodes.specs.Known.{Name}
use Rattle.script_nodes.specs.Literals.{ReadsLiterals}
use Rattle.point_values.specs.Rows.{Row}
use Rattle.point_text.specs.Points.{Part, name, literal, slash, Entry, entries_parts, IsRowOf}
use Rattle.point_text.specs.Points.{IsDivisorOf}
use Rattle.point_text.proofs.Places.{push_cases}
use Rattle.point_text.proofs.Parts.{Has, HasTwo, HasDivisor, name_of_entry, literal_of_entry}
use Rattle.point_text.proofs.Parts.{divisor_of_entry, AreOnce, no_name_twice}
use Rattle.point_text.proofs.Machine.{State, at_name, at_equal, at_number, behind_sign}
use Rattle.point_text.proofs.Machine.{behind_number, at_divisor, behind_divisor, step_of, run}

-- Each name is a variable's, and none stands twice; each literal is within its limits, and no
-- divisor is 0.
pub record IsClean (variables : List Name) (ps : List Part) : Type 0 where
  pub known : (v : Name) → Has ps (name v) → Has variables v
  pub once : (v : Name) → ¬ HasTwo ps v
  pub read : (d : List ℕ) → Has ps (literal d) → (l : Literal) × IsReading d l
  pub nonzero : (d : List ℕ) (l : Literal) → HasDivisor ps d → IsReading d l → l.num ≢ 0

-- ---- entries

-- the entries of a point, or of what has been read of one
pub record AreSound (variables : List Name) (es : List Entry) : Type 0 where
  pub known : (k : ℕ) (e : Entry) → slice_get es k ≡ Some e → Has variables e.variable
  pub once : AreOnce es
  pub rows : (k : ℕ) (e : Entry) → slice_get es k ≡ Some e → (row : Row) × IsRowOf e row

same_reading : ReadsLiterals → (d : List ℕ) (l m : Literal) → IsReading d l → IsReading d m → l ≡ m
same_reading law d l m p q = sym (law d l p) ∙ law d m q

divisor_read : (d : List ℕ) (o : Option (List ℕ)) (m : Option Literal)
    → o ≡ Some d → IsDivisorOf o m → (l : Literal) × IsReading d l × (l.num ≢ 0)
divisor_read d None m e h = absurd (none-some _ e)
divisor_read d (Some c) None e h = absurd h
divisor_read d (Some c) (Some l) e h = (l, subst (λ t. IsReading t l) (same_Some _ _ e) h.0, h.1)

literal_read : (e : Entry) (row : Row) (d : List ℕ) → IsRowOf e row
    → (e.number ≡ d) ⊎ (e.divisor ≡ Some d) → (l : Literal) × IsReading d l
literal_read e row d r (inl q) = (row.0.literal, subst (λ t. IsReading t row.0.literal) q r.number)
literal_read e row d r (inr q) = let w = divisor_read d e.divisor row.1 q r.divisor in (w.0, w.1)

pub entries_clean : ReadsLiterals → (variables : List Name) (es : List Entry)
    → AreSound variables es → IsClean variables (entries_parts es)
entries_clean law variables es s = record {
  known = λ v h. let w = name_of_entry es v h in
      subst (Has variables) w.3 (s.known w.0 w.1 w.2);
  once = λ v h. no_name_twice es v s.once h;
  read = λ d h. let w = literal_of_entry es d h in
      let r = s.rows w.0 w.1 w.2 in
      literal_read w.1 r.0 d r.1 w.3;
  nonzero = λ d l h q.
      let w = divisor_of_entry es d h in
      let r = s.rows w.0 w.1 w.2 in
      let z = divisor_read d w.1.divisor r.0.1 w.3 r.1.divisor in
      subst (λ (m : Literal). m.num ≢ 0) (same_reading law d z.0 l z.1 q) z.2;
}

-- ---- one token more

-- it makes no fault behind these
pub record IsFine (variables : List Name) (front : List Part) (q : Part) : Type 0 where
  pub known : (v : Name) → q ≡ name v → Has variables v
  pub fresh : (v : Name) → q ≡ name v → ¬ Has front (name v)
  pub read : (d : List ℕ) → q ≡ literal d → (l : Literal) × IsReading d l
  pub nonzero : (d : List ℕ) (l : Literal) (j : ℕ) → q ≡ literal d → suc j ≡ length front
      → slice_get front j ≡ Some slash → IsReading d l → l.num ≢ 0

pub clean_more : (variables : List Name) (front : List Part) (q : Part)
    → IsClean variables front → IsFine variables front q → IsClean variables (front ++ (q ∷ []))
clean_more variables front q c f = record {
  known = λ v h. elim (push_cases front q h.0 (name v) h.1) [
    | inl a ↦ c.known v (h.0, a)
    | inr b ↦ f.known v b.1
  ];
  once = λ v h. elim (push_cases front q h.0 (name v) h.3) [
    | inl a ↦ elim (push_cases front q h.1 (name v) h.4) [
      | inl b ↦ c.once v (h.0, h.1, h.2, a, b)
      | inr b ↦ absurd (let l = slice_get_within front h.0 (name v) a in let m = h.2 in let n =
          b.0 in omega arith)
    ]
    | inr a ↦ elim (push_cases front q h.1 (name v) h.4) [
      | inl b ↦ f.fresh v a.1 (h.1, b)
      | inr b ↦ absurd (let m = h.2 in let n = b.0 in let k = a.0 in omega arith)
    ]
  ];
  read = λ d h. elim (push_cases front q h.0 (literal d) h.1) [
    | inl a ↦ c.read d (h.0, a)
    | inr b ↦ f.read d b.1
  ];
  nonzero = λ d l h r. elim (push_cases front q (suc h.0) (literal d) h.2) [
    | inl b ↦ elim (push_cases front q h.0 slash h.1) [
      | inl a ↦ c.nonzero d l (h.0, a, b) r
      | inr a ↦ absurd (let n = slice_get_within front (suc h.0) (literal d) b in let k = a.0 in
          omega arith)
    ]
    | inr b ↦ elim (push_cases front q h.0 slash h.1) [
      | inl a ↦ f.nonzero d l h.0 b.1 b.0 a r
      | inr a ↦ absurd (let n = b.0 in let k = a.0 in omega arith)
    ]
  ];
}

-- a token that is no name and no literal
pub fine_sign : (variables : List Name) (front : List Part) (q : Part)
    → ((v : Name) → ¬ (q ≡ name v)) → ((d : List ℕ) → ¬ (q ≡ literal d)) → IsFine variables front q
fine_sign variables front q n l = record {
  known = λ v e. absurd (n v e);
  fresh = λ v e. absurd (n v e);
  read = λ d e. absurd (l d e);
  nonzero = λ d m j e. absurd (l d e);
}

-- a variable's name that hasn't stood before
pub fine_name : (variables : List Name) (front : List Part) (v : Name)
    → Has variables v → ¬ Has front (name v) → IsFine variables front (name v)
fine_name variables front v k f = record {
  known = λ w e. let s : v ≡ w = cc in subst (Has variables) s k;
  fresh = λ w e. let s : v ≡ w = cc in subst (λ u. ¬ Has front (name u)) s f;
  read = λ d e. absurd (cc);
  nonzero = λ d m j e. absurd (cc);
}

-- only a slash makes a divisor due
behind_slash : (o : Option State) (s : State) → step_of o slash ≡ Some s → s ≡ at_divisor
behind_slash None s e = absurd (none-some _ e)
behind_slash (Some at_name) s e = absurd (none-some _ e)
behind_slash (Some at_equal) s e = absurd (none-some _ e)
behind_slash (Some at_number) s e = absurd (none-some _ e)
behind_slash (Some behind_sign) s e = absurd (none-some _ e)
behind_slash (Some behind_number) s e = sym (same_Some _ _ e)
behind_slash (Some at_divisor) s e = absurd (none-some _ e)
behind_slash (Some behind_divisor) s e = absurd (none-some _ e)

last_slash : (o : Option State) (ps : List Part) (j : ℕ) (s : State) → suc j ≡ length ps
    → slice_get ps j ≡ Some slash → run o ps ≡ Some s → s ≡ at_divisor
last_slash o [] j s l h r = absurd (none-some _ h)
last_slash o (q ∷ []) zero s l h r =
    behind_slash o s (ap (step_of o) (sym (same_Some _ _ h)) ∙ r)
last_slash o (q ∷ (p ∷ ps)) zero s l h r = absurd (omega arith)
last_slash o (q ∷ ps) (suc j) s l h r = last_slash (step_of o q) ps j s (omega arith) h r

-- a number that is within its limits
pub fine_number : (variables : List Name) (front : List Part) (d : List ℕ) (l : Literal) (s : State)
    → run (Some at_name) front ≡ Some s → ¬ (s ≡ at_divisor) → IsReading d l
    → IsFine variables front (literal d)
fine_number variables front d l s r n i = record {
  known = λ v e. absurd (cc);
  fresh = λ v e. absurd (cc);
  read = λ c e. let t : d ≡ c = cc in (l, subst (λ x. IsReading x l) t i);
  nonzero = λ c m j e k h q. absurd (n (last_slash (Some at_name) front j s k h r));
}

-- a divisor that is within its limits and isn't 0
pub fine_divisor : ReadsLiterals → (variables : List Name) (front : List Part) (d : List ℕ) (l :
    Literal)
    → IsReading d l → l.num ≢ 0 → IsFine variables front (literal d)
fine_divisor law variables front d l i n = record {
  known = λ v e. absurd (cc);
  fresh = λ v e. absurd (cc);
  read = λ c e. let t : d ≡ c = cc in (l, subst (λ x. IsReading x l) t i);
  nonzero = λ c m j e k h q. let t : d ≡ c = cc in
      subst (λ (x : Literal). x.num ≢ 0)
      (same_reading law c l m (subst (λ x. IsReading x l) t i) q) n;
}

-- The variables of all splits are no more than those that are halved and the cuts.
use Rattle.std.proofs.Common.{◌≡◌, ℕ, ◌+◌, ◌≤◌, ◌==◌, List, [], ◌∷◌, ◌++◌, length, None, Bool, true}
use Rattle.std.proofs.Common.{false, ◌||◌, if◌then◌else◌, refl, ap, sym, subst, arith}
use Rattle.std.proofs.Common.{length-append, eqb-true}
use Rattle.std.specs.List.{AllByRecursion, list_any}
use Rattle.fx_model.specs.declared.ExprId.{ExprId}
use Rattle.facts.proofs.CommonParts.{all_last}
use Rattle.script_shape.specs.Hints.{Names, last_name, more_names, Halving, halved_by, with_goal}
use Rattle.script_shape.specs.Hints.{Hint, rewrite, like, split, halving, Hints, no_hint, hint}
use Rattle.script_shape.specs.Tree.{Script, formula, define}
use Rattle.script_nodes.specs.Known.{Known, named}
use Rattle.script_nodes.specs.Values.{expr_value}
use Rattle.script_nodes.specs.Definitions.{definition_value, name_text}
use Rattle.script_claims.specs.Claims.{formula_claims}
use Rattle.script_hints.specs.declared.hint.HintList.{HintList}
use Rattle.script_hints.specs.Hints.{same_number, with_variable, halved, HintsSoFar, with_halved}
use Rattle.script_hints.specs.Hints.{with_names, with_halving, with_hint, with_hints, no_hints}
use Rattle.script_grammar.specs.CountedHints.{hints_behind}
use Rattle.script_grammar.proofs.FewHalves.{variable_there, variable_more, variable_length}

abbrev IsIn : List ExprId → ExprId → Type 0
IsIn xs x = list_any (same_number x) xs ≡ true

-- each variable that is halved is among all
record AreOrdered (l : HintList) : Type 0 where
  short : length l.order ≤ length l.halves + length l.cuts
  each : AllByRecursion (IsIn l.order) l.halves

all_in : (xs ys : List ExprId) → ((x : ExprId) → IsIn xs x → IsIn ys x) → (hs : List ExprId)
    → AllByRecursion (IsIn xs) hs → AllByRecursion (IsIn ys) hs
all_in xs ys f [] h = tt
all_in xs ys f (x ∷ hs) h = (f x h.0, all_in xs ys f hs h.1)

found_in : (xs : List ExprId) (x : ExprId) (hs : List ExprId)
    → AllByRecursion (IsIn xs) hs → IsIn hs x → IsIn xs x
found_in xs x [] h e = cc
found_in xs x (y ∷ hs) h e = by_test (same_number x y) refl e (found_in xs x hs h.1)
  where
    by_test : (b : Bool) → same_number x y ≡ b → (b || list_any (same_number x) hs) ≡ true
        → (IsIn hs x → IsIn xs x) → IsIn xs x
    by_test true s e more =
        subst (λ i. list_any (λ z. i == z.0) xs ≡ true) (sym (eqb-true x.0 y.0 s)) h.0
    by_test false s e more = more e

joined_in : (xs : List ExprId) (x n : ExprId) → IsIn xs n → IsIn (with_variable xs x) n
joined_in xs x n h = variable_more xs x n (list_any (same_number x) xs) h

there_in : (xs : List ExprId) (x : ExprId) → IsIn (with_variable xs x) x
there_in xs x = variable_there xs x (list_any (same_number x) xs) refl

halved_ordered : (l : HintList) (x : ExprId) → AreOrdered l → AreOrdered (halved l x)
halved_ordered l x a = by_test (list_any (same_number x) l.halves) refl
  where
    by_test : (b : Bool) → list_any (same_number x) l.halves ≡ b → AreOrdered (record l
        { halves = if b then l.halves else l.halves ++ (x ∷ []); order = with_variable l.order x })
    by_test true e =
        let there : list_any (same_number x) l.order ≡ true =
        found_in l.order x l.halves a.each e in
        let same : with_variable l.order x ≡ l.order =
        ap (λ b. if b then l.order else l.order ++ (x ∷ [])) there in
        let s = a.short in
        record {
          short = omega (arith, s, ap length same);
          each = all_in l.order (with_variable l.order x) (joined_in l.order x) l.halves a.each;
        }
    by_test false e =
        let s = a.short in
        record {
          short = omega (
            arith,
            s,
            variable_length l.order x (list_any (same_number x) l.order),
            length-append l.halves (x ∷ []),
          );
          each = all_last (IsIn (with_variable l.order x)) l.halves x (all_in l.order
              (with_variable l.order x) (joined_in l.order x) l.halves a.each) (there_in l.order x);
        }

names_ordered : (n : Names) (x : HintsSoFar) → AreOrdered x.1 → AreOrdered (with_names n x).1
names_ordered (last_name n) x a = halved_ordered x.1 (named x.0 (name_text n)).1 a
names_ordered (more_names n l) x a =
    names_ordered l (with_halved n x) (halved_ordered x.1 (named x.0 (name_text n)).1 a)

halving_ordered : (l : Halving) (x : HintsSoFar) → AreOrdered x.1 → AreOrdered (with_halving l x).1
halving_ordered (halved_by e n) x a = names_ordered n ((expr_value None e x.0).0, x.1) a
halving_ordered (with_goal e l) x a = halving_ordered l ((expr_value None e x.0).0, x.1) a

hint_ordered : (h : Hint) (x : HintsSoFar) → AreOrdered x.1 → AreOrdered (with_hint h x).1
hint_ordered (rewrite p q n) x a = record { short = a.short; each = a.each }
hint_ordered (like p q) x a = record { short = a.short; each = a.each }
hint_ordered (split n c) x a =
    let v = (named x.0 (name_text n)).1 in
    let s = a.short in
    record {
      short = one_more x.1.order (with_variable x.1.order v) (length x.1.halves) _ x.1.cuts s
          (variable_length x.1.order v (list_any (same_number v) x.1.order));
      each = all_in x.1.order (with_variable x.1.order v) (joined_in x.1.order v) x.1.halves a.each;
    }
  where
    one_more : {A : Type 0} (order later : List ExprId) (halves : ℕ) (c : A) (cuts : List A)
        → length order ≤ halves + length cuts → length later ≤ 1 + length order
        → length later ≤ halves + length (cuts ++ (c ∷ []))
    one_more order later halves c cuts h k = omega (arith, h, k, length-append cuts (c ∷ []))
hint_ordered (halving l) x a = halving_ordered l x a

hints_ordered : (l : Hints) (x : HintsSoFar) → AreOrdered x.1 → AreOrdered (with_hints l x).1
hints_ordered no_hint x a = a
hints_ordered (hint h l) x a = hints_ordered l (with_hint h x) (hint_ordered h x a)

pub order_is_short : (tree : Script) (k : Known) → length (hints_behind tree k).order
    ≤ length (hints_behind tree k).halves + length (hints_behind tree k).cuts
order_is_short (formula f h) k = let a = hints_ordered h ((formula_claims f k).known, no_hints)
    (record { short = omega arith; each = tt }) in a.short
order_is_short (define x rest) k = order_is_short rest (definition_value x k)

-- Where the words of propositions and hints stand, by the judge.
use Rattle.std.proofs.Common.{◌≡◌, List, [], ◌∷◌, ◌++◌, refl, ap, ◌∙◌, subst}
use Rattle.script_words.specs.Words.{Word}
use Rattle.script_shape.specs.declared.due.Due.{Due}
use Rattle.script_shape.specs.declared.due.Due.TheVariants as d
use Rattle.script_shape.specs.Expressions.{Operator, fixed, int, Expr, term, sum, difference, Term}
use Rattle.script_shape.specs.Expressions.{factor, product, quotient, Factor, negation, atom, Atom}
use Rattle.script_shape.specs.Expressions.{number, variable, parenthesized, absolute, called}
use Rattle.script_shape.specs.Expressions.{rounded, fused}
use Rattle.script_shape.specs.Propositions.{Prop, lies_in, relative_in, at_most, at_least, multiple}
use Rattle.script_shape.specs.Hints.{Halving, halved_by, with_goal, Hint, rewrite, like, split}
use Rattle.script_shape.specs.Hints.{halving}
use Rattle.script_shape.specs.Roles.{Leaf, operator_leaves, expr_leaves, term_leaves, factor_leaves}
use Rattle.script_shape.specs.Roles.{atom_leaves, prop_leaves, halving_leaves, hint_leaves}
use Rattle.script_shape.proofs.Inner.{EachRole}
use Rattle.script_judge.specs.declared.counts.ScriptPart.{ScriptPart}
use Rattle.script_judge.specs.declared.counts.ScriptPart.TheVariants as place
use Rattle.script_judge.specs.Counts.{place_after}
use Rattle.script_judge.specs.Judge.{Seen, seen_after}
use Rattle.script_grammar.proofs.Passing.{Passes}
use Rattle.script_grammar.proofs.WordRoles.{IsOfProp, IsOfHint}

-- ---- each has a first word

abbrev pub HasFirst : List Leaf → Type 0
HasFirst [] = ⊥
HasFirst (l ∷ ls) = Unit {0}

first_of_both : (a b : List Leaf) → HasFirst a → HasFirst (a ++ b)
first_of_both [] b h = absurd h
first_of_both (l ∷ a) b h = tt

operator_first : (o : Operator) (b : List Leaf) → HasFirst (operator_leaves d.Operand o ++ b)
operator_first (fixed l x) b = tt
operator_first (int x) b = tt

atom_first : (a : Atom) → HasFirst (atom_leaves a)
atom_first (number k t) = tt
atom_first (variable k t) = tt
atom_first (parenthesized e) = tt
atom_first (absolute e) = tt
atom_first (called k t e) = tt
atom_first (rounded o e) = operator_first o _
atom_first (fused a b c) = tt

factor_first : (f : Factor) → HasFirst (factor_leaves f)
factor_first (negation f) = tt
factor_first (atom a) = atom_first a

term_first : (t : Term) → HasFirst (term_leaves t)
term_first (factor f) = factor_first f
term_first (product t f) = first_of_both (term_leaves t) _ (term_first t)
term_first (quotient t f) = first_of_both (term_leaves t) _ (term_first t)

expr_first : (e : Expr) → HasFirst (expr_leaves e)
expr_first (term t) = term_first t
expr_first (sum e t) = first_of_both (expr_leaves e) _ (expr_first e)
expr_first (difference e t) = first_of_both (expr_leaves e) _ (expr_first e)

pub prop_first : (p : Prop) → HasFirst (prop_leaves p)
prop_first (lies_in e r) = first_of_both (expr_leaves e) _ (expr_first e)
prop_first (relative_in a b r) = first_of_both (expr_leaves a) _ (expr_first a)
prop_first (at_most e b) = first_of_both (expr_leaves e) _ (expr_first e)
prop_first (at_least e b) = first_of_both (expr_leaves e) _ (expr_first e)
prop_first (multiple f e k) = tt

halving_first : (r : Due) (h : Halving) → HasFirst (halving_leaves r h)
halving_first r (halved_by e n) = first_of_both (expr_leaves e) _ (expr_first e)
halving_first r (with_goal e h) = first_of_both (expr_leaves e) _ (expr_first e)

pub hint_first : (h : Hint) → HasFirst (hint_leaves h)
hint_first (rewrite a b n) = first_of_both (expr_leaves a) _ (expr_first a)
hint_first (like a b) = first_of_both (expr_leaves a) _ (expr_first a)
hint_first (split n c) = tt
hint_first (halving h) = halving_first d.HintRest h

-- ---- places

pub prop_enters : (r : Due) (w : Word) → IsOfProp r
    → place_after place.PropositionNext r w ≡ place.Formula
prop_enters d.Script w h = absurd h
prop_enters d.Connective w h = absurd h
prop_enters d.Claim w h = absurd h
prop_enters d.CloseBrace w h = absurd h
prop_enters d.Semicolon w h = absurd h
prop_enters r w h = refl

pub prop_stays : (r : Due) (w : Word) → IsOfProp r → place_after place.Formula r w ≡ place.Formula
prop_stays d.Script w h = absurd h
prop_stays d.Connective w h = absurd h
prop_stays d.Claim w h = absurd h
prop_stays d.CloseBrace w h = absurd h
prop_stays d.Semicolon w h = absurd h
prop_stays r w h = refl

pub hint_enters : (r : Due) (w : Word) → IsOfHint r → place_after place.HintNext r w ≡ place.Hints
hint_enters d.Script w h = absurd h
hint_enters d.Connective w h = absurd h
hint_enters d.Claim w h = absurd h
hint_enters d.CloseBrace w h = refl
hint_enters d.Semicolon w h = absurd h
hint_enters r w h = refl

pub hint_stays : (r : Due) (w : Word) → IsOfHint r → place_after place.Hints r w ≡ place.Hints
hint_stays d.Script w h = absurd h
hint_stays d.Connective w h = absurd h
hint_stays d.Claim w h = absurd h
hint_stays d.CloseBrace w h = refl
hint_stays d.Semicolon w h = absurd h
hint_stays r w h = refl

-- words that stay at a place, behind one that comes there
module _ (P : Due → Type 0) (from to : ScriptPart) (enters : (r : Due) (w : Word)
    → P r → place_after from r w ≡ to) (stays : (r : Due) (w : Word) → P r
    → place_after to r w ≡ to) where
  all_stay : (ls : List Leaf) (seen last : Seen) → EachRole P ls → Passes seen ls last
      → seen.counts.place ≡ to → last.counts.place ≡ to
  all_stay [] seen last h p e = subst (λ (x : Seen). x.counts.place ≡ to) p e
  all_stay (l ∷ ls) seen last h p e = all_stay ls (seen_after p.0 seen l.role l.word) last h.1 p.3
      (ap (λ q. place_after q l.role l.word) e ∙ stays l.role l.word h.0)

  pub first_comes : (ls : List Leaf) (seen last : Seen) → HasFirst ls → EachRole P ls
      → Passes seen ls last → seen.counts.place ≡ from → last.counts.place ≡ to
  first_comes [] seen last f h p e = absurd f
  first_comes (l ∷ ls) seen last f h p e = all_stay ls (seen_after p.0 seen l.role l.word) last h.1
      p.3 (ap (λ q. place_after q l.role l.word) e ∙ enters l.role l.word h.0)

-- The split variables of a script that the judge lets pass have ranges: what the judge asks of each
-- is what is claimed here.
use Rattle.std.proofs.Common.{◌≡◌, List, [], ◌∷◌, ◌++◌, map, Option, Some, None, Bool, true, false}
use Rattle.std.proofs.Common.{if◌then◌else◌, refl, sym, ap, ◌∙◌, subst, true≢false, arith}
use Rattle.std.proofs.Common.{append-nil, append_assoc}
use Rattle.std.specs.List.{AllByRecursion, list_any}
use Rattle.std.specs.Option.{is_some}
use Rattle.std.proofs.lemmas.Bool.{or_parts}
use Rattle.fx_model.specs.declared.ExprId.{ExprId}
use Rattle.facts.proofs.CommonParts.{all_last}
use Rattle.script_words.specs.declared.class.Symbol.TheVariants as s
use Rattle.script_words.specs.Words.{Word, name, rounding, sign}
use Rattle.script_shape.specs.declared.due.Due.{Due}
use Rattle.script_shape.specs.declared.due.Due.TheVariants as d
use Rattle.script_shape.specs.Expressions.{AnyName, plain, operator, Expr}
use Rattle.script_shape.specs.Hints.{Names, last_name, more_names, Halving, halved_by, with_goal}
use Rattle.script_shape.specs.Hints.{Hint, rewrite, like, split, halving, Hints, no_hint, hint}
use Rattle.script_shape.specs.Tree.{Script, formula, define}
use Rattle.script_shape.specs.Roles.{Leaf, at, expr_leaves, name_leaves, cut_leaves, names_leaves}
use Rattle.script_shape.specs.Roles.{halving_leaves, hint_leaves, hints_leaves, formula_leaves}
use Rattle.script_shape.specs.Roles.{definition_leaves, script_leaves}
use Rattle.script_cases.specs.Cases.{cases}
use Rattle.script_cases.proofs.Counted.{cases_are_counted}
use Rattle.script_nodes.specs.Known.{Name, Known, nothing_known, named, number_of}
use Rattle.script_nodes.specs.Values.{expr_value}
use Rattle.script_nodes.specs.Definitions.{name_text}
use Rattle.script_claims.specs.declared.claim.Claim.{Claim}
use Rattle.script_claims.specs.declared.range.SplitRange.{SplitRange}
use Rattle.script_claims.specs.Ranges.{split_range}
use Rattle.script_hints.specs.declared.hint.Split.{Split}
use Rattle.script_hints.specs.Hints.{needs_value, same_number, with_variable, cutting_of}
use Rattle.script_hints.specs.Hints.{HintsSoFar, with_halved, with_names, with_halving, with_hint}
use Rattle.script_hints.specs.Hints.{with_hints, no_hints}
use Rattle.script_judge.specs.Names.{split_name}
use Rattle.script_judge.specs.Said.{Said, claims_behind, said_from}
use Rattle.script_judge.specs.Front.{front_leaves}
use Rattle.script_judge.specs.Splits.{is_none, lacks_range}
use Rattle.script_judge.specs.Numbers.{Notes}
use Rattle.script_judge.specs.Judge.{Seen, seen_after, refusal_at, nothing_seen}
use Rattle.script_grammar.specs.CountedHints.{hints_behind}
use Rattle.script_grammar.specs.SplitRanges.{HasRange, HaveRanges}
use Rattle.script_grammar.specs.SplitRanges.{SplitsHaveRanges}
use Rattle.script_grammar.proofs.Kept.{split_passed}
use Rattle.script_grammar.proofs.Passing.{Passes, passes_all, passes_both, passes_said}
use Rattle.script_grammar.proofs.Numbers.{Keeps, keeps_both, keeps_itself, named_keeps, number_has}
use Rattle.script_grammar.proofs.Numbers.{expr_keeps, named_has, number_once}
use Rattle.script_grammar.proofs.FewHints.{hints_of}
use Rattle.script_grammar.proofs.FewHalves.{needs_keep}
use Rattle.script_grammar.proofs.FormulaCases.{cases_are_few}

-- ---- a name that the judge lets pass is that of a node with a range in each case

there : (o : Option SplitRange) → is_none o ≡ false → is_some o ≡ true
there None e = absurd (true≢false e)
there (Some r) e = refl

all_ranged : (cs : List (List Claim)) (x : ExprId)
    → list_any is_none (map (λ claims. split_range claims x) cs) ≡ false
    → AllByRecursion (λ claims. HasRange claims x) cs
all_ranged [] x e = tt
all_ranged (c ∷ cs) x e = let both = or_parts (is_none (split_range c x)) _ e in
    (there (split_range c x) both.0, all_ranged cs x both.1)

record IsRanged (f : Said) (text : Name) : Type 0 where
  number : ExprId
  is : number_of f.known text ≡ Some number
  ranged : AllByRecursion (λ claims. HasRange claims number) (cases f.parts)

is_ranged : (f : Said) (text : Name) (o : Option ExprId) → number_of f.known text ≡ o
    → lacks_range f.parts o ≡ false → IsRanged f text
is_ranged f text None e h = absurd (true≢false h)
is_ranged f text (Some x) e h =
    record { number = x; is = e; ranged = all_ranged (cases f.parts) x h }

-- ---- hints: what is said so far has ranges, and nodes are only added

each_both : (P Q R : List Claim → Type 0) → ((c : List Claim) → P c → Q c → R c)
    → (cs : List (List Claim)) → AllByRecursion P cs → AllByRecursion Q cs → AllByRecursion R cs
each_both P Q R f [] h k = tt
each_both P Q R f (c ∷ cs) h k = (f c h.0 k.0, each_both P Q R f cs h.1 k.1)

with_one : (claims : List Claim) (xs : List ExprId) (x : ExprId) (b : Bool)
    → AllByRecursion (HasRange claims) xs → HasRange claims x
    → AllByRecursion (HasRange claims) (if b then xs else xs ++ (x ∷ []))
with_one claims xs x true h p = h
with_one claims xs x false h p = all_last (HasRange claims) xs x h p

with_variable_ranged : (claims : List Claim) (xs : List ExprId) (x : ExprId)
    → AllByRecursion (HasRange claims) xs → HasRange claims x
    → AllByRecursion (HasRange claims) (with_variable xs x)
with_variable_ranged claims xs x h p = with_one claims xs x (list_any (same_number x) xs) h p

module _ (f : Said) where
  -- what the hints say so far has ranges in each case, and what had a number keeps it
  record Fine (seen : Seen) (x : HintsSoFar) : Type 0 where
    formula : seen.said ≡ Some f
    keeps : Keeps f.known x.0
    said : AllByRecursion (λ claims. HaveRanges claims x.1) (cases f.parts)

  -- words that say no split
  fine_over : (ls : List Leaf) (x : HintsSoFar) (j : Known) (seen last : Seen)
      → Passes seen ls last → Keeps x.0 j → Fine seen x → Fine last (j, x.1)
  fine_over ls x j seen last p keeps h = record {
    formula = passes_said ls seen last p ∙ h.formula;
    keeps = keeps_both h.keeps keeps;
    said = h.said;
  }

  fine_word : (v : Notes) (r : Due) (w : Word) (x : HintsSoFar) (seen : Seen) → Fine seen x
      → Fine (seen_after v seen r w) x
  fine_word v r w x seen h = record {
    formula = h.formula;
    keeps = h.keeps;
    said = h.said;
  }

  -- the node of a split's variable has a range in each case
  ranged_node : (text : Name) (w : Word) (v : Notes) (behind : List Leaf) (x : HintsSoFar)
      (seen : Seen) → refusal_at v seen d.SplitName w behind ≡ None
      → split_name d.SplitName w ≡ Some text → Fine seen x
      → AllByRecursion (λ claims. HasRange claims (named x.0 text).1) (cases f.parts)
  ranged_node text w v behind x seen e n h =
      let p = split_passed v seen w behind text f e n h.formula in
      let o = is_ranged f text (number_of f.known text) refl p.1 in
      let same : (named x.0 text).1 ≡ o.number = sym (number_once (named x.0 text).0 text o.number
      (named x.0 text).1 (named_keeps x.0 text text o.number
      (h.keeps text o.number (number_has f.known text o.number o.is))) (named_has x.0 text)) in
      subst (λ y. AllByRecursion (λ claims. HasRange claims y) (cases f.parts)) (sym same) o.ranged

  split_name_ranged : (n : AnyName) (x : HintsSoFar) (seen last : Seen)
      → Passes seen (name_leaves d.SplitName n) last → Fine seen x
      → AllByRecursion (λ claims. HasRange claims (named x.0 (name_text n)).1) (cases f.parts)
  split_name_ranged (plain c t) x seen last p h =
      ranged_node t (name c t) p.0 p.1 x seen p.2 refl h
  split_name_ranged (operator c t) x seen last p h =
      ranged_node t (rounding c t) p.0 p.1 x seen p.2 refl h

  name_fine : (n : AnyName) (x : HintsSoFar) (seen last : Seen)
      → Passes seen (name_leaves d.SplitName n) last → Fine seen x → Fine last (with_halved n x)
  name_fine n x seen last p h =
      let k = (named x.0 (name_text n)).0 in
      let y = (named x.0 (name_text n)).1 in
      let one = split_name_ranged n x seen last p h in
      let over = fine_over (name_leaves d.SplitName n) x k seen last p
      (named_keeps x.0 (name_text n)) h in
      record {
        formula = over.formula;
        keeps = over.keeps;
        said = each_both (λ claims. HaveRanges claims x.1) (λ claims. HasRange claims y)
            (λ claims. HaveRanges claims (with_halved n x).1) (λ claims s o. record {
              cuts = s.cuts;
              halves = with_variable_ranged claims x.1.halves y s.halves o;
              order = with_variable_ranged claims x.1.order y s.order o;
            }) (cases f.parts) h.said one;
      }

  names_fine : (l : Names) (x : HintsSoFar) (seen last : Seen) → Passes seen (names_leaves l) last
      → Fine seen x → Fine last (with_names l x)
  names_fine (last_name n) x seen last p h = name_fine n x seen last p h
  names_fine (more_names n l) x seen last p h =
      let both = passes_both (name_leaves d.SplitName n) _ seen last p in
      let m = both.2 in
      names_fine l (with_halved n x) (seen_after m.0 both.0 d.SplitNames (sign s.Comma)) last m.3
      (fine_word m.0 d.SplitNames (sign s.Comma) (with_halved n x) both.0
      (name_fine n x seen both.0 both.1 h))

  expr_fine : (e : Expr) (x : HintsSoFar) (seen last : Seen) → Passes seen (expr_leaves e) last
      → Fine seen x → Fine last ((expr_value None e x.0).0, x.1)
  expr_fine e x seen last p h = fine_over (expr_leaves e) x (expr_value None e x.0).0 seen last
      p (expr_keeps None e x.0) h

  halving_fine : (l : Halving) (x : HintsSoFar) (r : Due) (seen last : Seen)
      → Passes seen (halving_leaves r l) last → Fine seen x → Fine last (with_halving l x)
  halving_fine (halved_by e n) x r seen last p h =
      let both = passes_both (expr_leaves e) _ seen last p in
      let m = both.2 in
      let y : HintsSoFar = ((expr_value None e x.0).0, x.1) in
      names_fine n y (seen_after m.0 both.0 r (sign s.Dollar)) last m.3
      (fine_word m.0 r (sign s.Dollar) y both.0 (expr_fine e x seen both.0 both.1 h))
  halving_fine (with_goal e l) x r seen last p h =
      let both = passes_both (expr_leaves e) _ seen last p in
      let m = both.2 in
      let y : HintsSoFar = ((expr_value None e x.0).0, x.1) in
      halving_fine l y d.GoalSplit (seen_after m.0 both.0 r (sign s.Comma)) last m.3
      (fine_word m.0 r (sign s.Comma) y both.0 (expr_fine e x seen both.0 both.1 h))

  same_splits : (x : HintsSoFar) (l : Hint) (j : Known) (seen last : Seen)
      → Passes seen (hint_leaves l) last → Keeps x.0 j → Fine seen x
      → ((claims : List Claim) → HaveRanges claims x.1 → HaveRanges claims (with_hint l x).1)
      → j ≡ (with_hint l x).0 → Fine last (with_hint l x)
  same_splits x l j seen last p keeps h same e =
      let over = fine_over (hint_leaves l) x j seen last p keeps h in
      record {
        formula = over.formula;
        keeps = subst (Keeps f.known) e over.keeps;
        said = each_both (λ claims. HaveRanges claims x.1) (λ claims. HaveRanges claims x.1)
            (λ claims. HaveRanges claims (with_hint l x).1) (λ claims a b. same claims a)
            (cases f.parts) h.said h.said;
      }

  hint_fine : (l : Hint) (x : HintsSoFar) (seen last : Seen) → Passes seen (hint_leaves l) last
      → Fine seen x → Fine last (with_hint l x)
  hint_fine (rewrite a b n) x seen last p h =
      let y = (expr_value None a x.0).0 in
      let z = (expr_value None b y).0 in
      same_splits x (rewrite a b n) (needs_value n z).0 seen last p
      (keeps_both (expr_keeps None a x.0) (keeps_both (expr_keeps None b y) (needs_keep n z))) h
      (λ claims s. record { cuts = s.cuts; halves = s.halves; order = s.order }) refl
  hint_fine (like a b) x seen last p h =
      let y = (expr_value None a x.0).0 in
      same_splits x (like a b) (expr_value None b y).0 seen last p
      (keeps_both (expr_keeps None a x.0) (expr_keeps None b y)) h
      (λ claims s. record { cuts = s.cuts; halves = s.halves; order = s.order }) refl
  hint_fine (split n c) x seen last p h =
      let next = seen_after p.0 seen d.Hints (sign s.Dollar) in
      let begun = fine_word p.0 d.Hints (sign s.Dollar) x seen h in
      let both = passes_both (name_leaves d.SplitName n) _ next last p.3 in
      let place = named x.0 (name_text n) in
      let one = split_name_ranged n x next both.0 both.1 begun in
      let a = fine_over (name_leaves d.SplitName n) x place.0 next both.0 both.1
      (named_keeps x.0 (name_text n)) begun in
      let y : HintsSoFar = (place.0, x.1) in
      let b = fine_over (cut_leaves c) y place.0 both.0 last both.2 (keeps_itself place.0) a in
      record {
        formula = b.formula;
        keeps = b.keeps;
        said = each_both (λ claims. HaveRanges claims x.1) (λ claims. HasRange claims place.1)
            (λ claims. HaveRanges claims (with_hint (split n c) x).1) (λ claims s o. record {
              cuts = all_last (λ (c : Split). HasRange claims c.var) x.1.cuts
                  (record { var = place.1; cut = cutting_of c }) s.cuts o;
              halves = s.halves;
              order = with_variable_ranged claims x.1.order place.1 s.order o;
            }) (cases f.parts) h.said one;
      }
  hint_fine (halving l) x seen last p h = halving_fine l x d.HintRest seen last p h

  hints_fine : (l : Hints) (x : HintsSoFar) (seen last : Seen) → Passes seen (hints_leaves l) last
      → Fine seen x → Fine last (with_hints l x)
  hints_fine no_hint x seen last p h = subst (λ (z : Seen). Fine z x) p h
  hints_fine (hint n l) x seen last p h =
      let both = passes_both (hint_leaves n) _ seen last p in
      let m = both.2 in
      hints_fine l (with_hint n x) (seen_after m.0 both.0 d.Semicolon (sign s.Semicolon)) last m.3
      (fine_word m.0 d.Semicolon (sign s.Semicolon) (with_hint n x) both.0
      (hint_fine n x seen both.0 both.1 h))

-- ---- scripts

whole : (tree : Script) → script_leaves tree ≡ front_leaves tree ++ hints_leaves (hints_of tree)
whole (formula f h) = ap (λ ls. at d.Script (sign s.OpenBrace) ∷ ls) (sym (append_assoc
    (formula_leaves f) (at d.CloseBrace (sign s.CloseBrace) ∷ []) (hints_leaves h)))
whole (define x rest) = ap (λ ls. definition_leaves x ++ ls) (whole rest)
    ∙ sym (append_assoc (definition_leaves x) (front_leaves rest) (hints_leaves (hints_of rest)))

hints_are : (tree : Script) (k : Known)
    → (with_hints (hints_of tree) ((claims_behind tree k).known, no_hints)).1 ≡ hints_behind tree k
hints_are (formula f h) k = refl
hints_are (define x rest) k = hints_are rest _

nothing_ranged : (cs : List (List Claim)) → AllByRecursion (λ claims. HaveRanges claims no_hints) cs
nothing_ranged [] = tt
nothing_ranged (c ∷ cs) = (record { cuts = tt; halves = tt; order = tt }, nothing_ranged cs)

pub splits_have_ranges : SplitsHaveRanges
splits_have_ranges tree j =
    let f : Said = said_from tree nothing_known in
    let start : Seen = nothing_seen (Some f) in
    let all = passes_all (script_leaves tree) 0 start j in
    let both = passes_both (front_leaves tree) (hints_leaves (hints_of tree)) start all.0
    (subst (λ ls. Passes start ls all.0) (whole tree) all.1) in
    let fine = hints_fine f (hints_of tree) (f.known, no_hints) both.0 all.0 both.2 (record {
      formula = passes_said (front_leaves tree) start both.0 both.1;
      keeps = keeps_itself f.known;
      said = nothing_ranged (cases f.parts);
    }) in
    record {
      ranges = subst (λ l. AllByRecursion (λ claims. HaveRanges claims l) (cases f.parts))
          (hints_are tree nothing_known) fine.said;
      few = omega (
        arith,
        cases_are_counted f.parts,
        cases_are_few tree nothing_known (Some f) both.0 both.1,
      );
    }

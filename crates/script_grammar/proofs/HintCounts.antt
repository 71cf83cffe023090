-- The words of hints add no more nodes than are counted.
use Rattle.std.proofs.Common.{◌≡◌, ◌+◌, ◌≤◌, List, [], ◌∷◌, Bool, true, false, Option, Some}
use Rattle.std.proofs.Common.{None, refl, ap, subst, arith, true≢false}
use Rattle.fx_model.specs.declared.ExprId.{ExprId}
use Rattle.script_words.specs.Words.{Word, name, rounding, literal, sign}
use Rattle.script_shape.specs.declared.due.Due.{Due}
use Rattle.script_shape.specs.declared.due.Due.TheVariants as d
use Rattle.script_shape.specs.Hints.{Hint, Hints, no_hint, hint}
use Rattle.script_shape.specs.Roles.{Leaf, hint_leaves, hints_leaves}
use Rattle.script_shape.proofs.Inner.{EachRole, each_of_both, each_as}
use Rattle.script_judge.specs.Counts.{nodes_at}
use Rattle.script_judge.specs.Names.{with_some, operand_name, split_name, is_some_apart}
use Rattle.script_judge.specs.Numbers.{Notes}
use Rattle.script_judge.specs.Said.{Said}
use Rattle.script_judge.specs.Splits.{lacks_range}
use Rattle.script_judge.specs.Judge.{Seen, seen_after, refusal_at}
use Rattle.script_nodes.specs.Known.{Name, Known, number_of}
use Rattle.script_nodes.specs.Waits.{Complete, expr_done}
use Rattle.script_hints.specs.Hints.{no_hints, with_hints}
use Rattle.script_hints.specs.Reading.{HintReading, hints_from, ended_as, ended, variable_word}
use Rattle.script_hints.specs.Reading.{read_hint, read_hints}
use Rattle.script_hints.specs.ReadingLaw.{ReadsHints}
use Rattle.script_grammar.proofs.Marks.{Free, AllFree, IsBody}
use Rattle.script_grammar.proofs.Sizes.{there_size}
use Rattle.script_grammar.proofs.Weights.{total, IsLeft, expr_total, read_total}
use Rattle.script_grammar.proofs.Kept.{split_passed}
use Rattle.script_grammar.proofs.Passing.{Passes}
use Rattle.script_grammar.proofs.Stays.{hint_later}
use Rattle.script_grammar.proofs.There.{is_there}
use Rattle.script_grammar.proofs.Numbers.{number_has, number_there}
use Rattle.script_grammar.proofs.DefinitionCounts.{IsBetween}
use Rattle.script_grammar.proofs.FormulaCounts.{IsWithin, word_within}
use Rattle.script_grammar.proofs.WordRoles.{IsOfHint, hint_roles}

-- ---- one word

-- a split variable has a node
abbrev IsSplit : Known → Option Name → Type 0
IsSplit k None = Unit {0}
IsSplit k (Some text) = is_there k text ≡ true

module _ (ops names : List Name) (r : HintReading) where
  ended_as_total : (o : Option Complete) → IsLeft None ops names o (total None ops names r.reading)
      → total None ops names (ended_as r.reading o).0 ≤ total None ops names r.reading
  ended_as_total None h = omega arith
  ended_as_total (Some c) h = h

  ended_total : total None ops names (ended r.reading).0 ≤ total None ops names r.reading
  ended_total = ended_as_total (expr_done None r.reading r.reading.waits)
      (expr_total None ops names r.reading r.reading.waits)

  variable_total : (w : Word) → IsSplit r.reading.known (split_name d.SplitName w)
      → total None ops names (variable_word w r).reading ≤ total None ops names r.reading
  variable_total (name k text) h =
      let a = there_size ops names r.reading.known text h in omega arith
  variable_total (rounding k text) h =
      let a = there_size ops names r.reading.known text h in omega arith
  variable_total (literal k text) h = omega arith
  variable_total (sign g) h = omega arith

hint_total : (ops : List Name) (rounds : Bool) (names : List Name) (r : HintReading) (role : Due)
    (w : Word) → Free ops w → IsSplit r.reading.known (split_name role w)
    → total None ops (with_some (operand_name role w) names) (read_hint role w r).reading ≤ total
    None ops names r.reading + nodes_at rounds (is_some_apart names (operand_name role w)) role w
unfolding read_hint
hint_total ops rounds names r d.HintRest w f h = let a = ended_total ops names r in omega arith
hint_total ops rounds names r d.GoalSplit w f h = let a = ended_total ops names r in omega arith
hint_total ops rounds names r d.Needs w f h = let a = ended_total ops names r in omega arith
hint_total ops rounds names r d.NeedRelation w f h = let a = ended_total ops names r in omega arith
hint_total ops rounds names r d.Semicolon w f h = let a = ended_total ops names r in omega arith
hint_total ops rounds names r d.Bound w f h = omega arith
hint_total ops rounds names r d.Magnitude w f h = omega arith
hint_total ops rounds names r d.Hints w f h = omega arith
hint_total ops rounds names r d.SplitName w f h =
    let a = variable_total ops names r w h in omega arith
hint_total ops rounds names r d.Cut w f h = omega arith
hint_total ops rounds names r role w f h =
    read_total None ops rounds (omega arith) names r.reading role w f

-- ---- all words

-- what the formula said is there
abbrev AreThere : Said → Known → Type 0
AreThere f k = (text : Name) (x : ExprId) → number_of f.known text ≡ Some x
    → is_there k text ≡ true

module _ (ops : List Name) (f : Said) where
  some_there : (k : Known) (text : Name) (o : Option ExprId) → number_of f.known text ≡ o
      → lacks_range f.parts o ≡ false → AreThere f k → is_there k text ≡ true
  some_there k text None e h a = absurd (true≢false h)
  some_there k text (Some x) e h a = a text x e

  name_split : (v : Notes) (seen : Seen) (w : Word) (behind : List Leaf) (k : Known)
      (o : Option Name) → refusal_at v seen d.SplitName w behind ≡ None
      → seen.said ≡ Some f → AreThere f k → split_name d.SplitName w ≡ o → IsSplit k o
  name_split v seen w behind k None e h a n = tt
  name_split v seen w behind k (Some text) e h a n = some_there k text
      (number_of f.known text) refl (split_passed v seen w behind text f e n h).1 a

  word_split : (v : Notes) (seen : Seen) (r : Due) (w : Word) (behind : List Leaf) (k : Known)
      → refusal_at v seen r w behind ≡ None → seen.said ≡ Some f → AreThere f k
      → IsSplit k (split_name r w)
  word_split v seen d.SplitName w behind k e h a =
      name_split v seen w behind k (split_name d.SplitName w) e h a refl
  word_split v seen r w behind k e h a = tt

  hints_within : (ls : List Leaf) (seen last : Seen) (r : HintReading) → EachRole IsBody ls
      → AllFree ops ls → Passes seen ls last → seen.said ≡ Some f
      → AreThere f r.reading.known → IsWithin ops seen r.reading
      → IsWithin ops last (read_hints ls r).reading
  unfolding read_hints
  hints_within [] seen last r h g p e a t = subst (λ x. IsWithin ops x r.reading) p t
  hints_within (l ∷ ls) seen last r h g p e a t =
      let now = read_hint l.role l.word r in
      let b = hint_total ops seen.counts.rounds seen.names.known r l.role l.word g.0
      (word_split p.0 seen l.role l.word p.1 r.reading.known p.2 e a) in
      hints_within ls (seen_after p.0 seen l.role l.word) last now h.1 g.1 p.3 e
      (λ text x n. hint_later r l.role l.word text (a text x n))
      (word_within ops p.0 seen l.role l.word r.reading now.reading h.0 t b)

-- ---- the roles of hints

hint_is_body : (r : Due) → IsOfHint r → IsBody r
hint_is_body d.Script h = absurd h
hint_is_body d.NewName h = absurd h
hint_is_body d.DefinedBy h = absurd h
hint_is_body d.Equal h = absurd h
hint_is_body r h = tt

hint_body : (h : Hint) → EachRole IsBody (hint_leaves h)
hint_body h = each_as IsOfHint IsBody hint_is_body (hint_leaves h) (hint_roles h)

pub hints_body : (h : Hints) → EachRole IsBody (hints_leaves h)
hints_body no_hint = tt
hints_body (hint h l) = each_of_both IsBody (hint_leaves h) _ (hint_body h) (tt, hints_body l)

-- ---- hints

pub hints_counts : ReadsHints → (ops : List Name) (f : Said) (h : Hints) (seen last : Seen)
    → AllFree ops (hints_leaves h) → Passes seen (hints_leaves h) last
    → seen.said ≡ Some f → IsBetween ops seen f.known
    → IsBetween ops last (with_hints h (f.known, no_hints)).0
hints_counts reads ops f h seen last free p said b =
    let t = b.within in
    let there : AreThere f f.known =
    λ text x n. number_there f.known text x (number_has f.known text x n) in
    let c = hints_within ops f (hints_leaves h) seen last (hints_from f.known no_hints)
    (hints_body h) free p said there (record { pending = b.pending; within = omega arith }) in
    let u = c.within in
    record {
      pending = c.pending;
      within = omega (
        arith,
        ap (λ (r : HintReading). total None ops last.names.known r.reading)
            (reads h f.known no_hints),
      );
    }
